-- Sums beneath a mask, 64 slots at a time.
use Rattle.std.proofs.Common.{◌≡◌, ◌≢◌, ℕ, ◌+◌, ◌-◌, ◌*◌, ◌/◌, ◌%◌, ◌^◌, ◌<◌, ◌≤◌, zero, suc, ℤ}
use Rattle.std.proofs.Common.{pos, ◌+ℤ◌, Bool, true, false, List, [], ◌∷◌, ◌++◌, length, map, take}
use Rattle.std.proofs.Common.{drop, refl, sym, ap, ap₂, ◌∙◌, arith, pow-suc, length-drop, subst}
use Rattle.std.proofs.Common.{Option, Some}
use Rattle.std.specs.Prelude.{◌==◌, ◌||◌}
use Rattle.std.proofs.lemmas.Int.{ints}
use Rattle.std.proofs.lemmas.List.{drop-drop, length-map, length-take}
use Rattle.std.proofs.lemmas.Nat.{pow_pos}
use Rattle.std.proofs.Math.Seq.{drop-nil, take-nil}
use Rattle.col_model.specs.Cell.{Cell, null, whole, truth, parts, octets, list}
use Rattle.col_model.specs.Whole.{WholeType, wrapped_number}
use Rattle.col_buf.proofs.NumberLemmas.{halved, lowest}
use Rattle.col_buf.specs.Bitmap.{chunk_at, number_of}
use Rattle.col_buf.specs.Cut.{cut}
use Rattle.col_flat.proofs.PartsLemmas.{map-cut}
use Rattle.col_flat.specs.Parts.{IsMaskOf, masked_slots, slot_beneath, slot_cell, value_cell}
use Rattle.col_reduce.specs.Chosen.{chosen_sum}
use Rattle.col_reduce.specs.Total.{exact_sum, exact_total, has_value, total_of}
use Rattle.col_reduce.proofs.SumLemmas.{IsSoFar, IsSoFar-more, wrapped-add_right}

-- the cells of values beneath flags
abbrev pub cells_beneath : List (List ℤ) → List Bool → List Cell
cells_beneath values flags = map slot_cell (masked_slots values flags)

-- the sum of two lists of cells
pub exact_total-append : (cells others : List Cell)
    → exact_total (cells ++ others) ≡ exact_total cells +ℤ exact_total others
exact_total-append [] others = omega (arith, ints)
exact_total-append (null ∷ cells) others = exact_total-append cells others
exact_total-append (whole n ∷ cells) others =
    let rest = exact_total-append cells others in
    omega (arith, ints)
exact_total-append (truth b ∷ cells) others = exact_total-append cells others
exact_total-append (parts ns ∷ cells) others = exact_total-append cells others
exact_total-append (octets bs ∷ cells) others = exact_total-append cells others
exact_total-append (list es ∷ cells) others = exact_total-append cells others

-- a value in either of two lists of cells
pub has_value-append : (cells others : List Cell)
    → has_value (cells ++ others) ≡ has_value cells || has_value others
has_value-append [] others = refl
has_value-append (null ∷ cells) others = has_value-append cells others
has_value-append (whole n ∷ cells) others = refl
has_value-append (truth b ∷ cells) others = refl
has_value-append (parts ns ∷ cells) others = refl
has_value-append (octets bs ∷ cells) others = refl
has_value-append (list es ∷ cells) others = refl

-- cells without a value add nothing
pub exact_total-none : (cells : List Cell) → has_value cells ≡ false → exact_total cells ≡ pos 0
exact_total-none [] h = refl
exact_total-none (null ∷ cells) h = exact_total-none cells h
exact_total-none (whole n ∷ cells) h = cc
exact_total-none (truth b ∷ cells) h = cc
exact_total-none (parts ns ∷ cells) h = cc
exact_total-none (octets bs ∷ cells) h = cc
exact_total-none (list es ∷ cells) h = cc

-- a value is one among cells
has_value-value : (ns : List ℤ) (cells : List Cell) → has_value (value_cell ns ∷ cells) ≡ true
has_value-value [] cells = refl
has_value-value (n ∷ []) cells = refl
has_value-value (n ∷ m ∷ ns) cells = refl

-- the front of values and flags, and what is left of them
cells_beneath-split : (n : ℕ) (values : List (List ℤ)) (flags : List Bool)
    → cells_beneath values flags
    ≡ cells_beneath (take n values) (take n flags) ++ cells_beneath (drop n values) (drop n flags)
cells_beneath-split zero values flags = refl
cells_beneath-split (suc n) [] flags = refl
cells_beneath-split (suc n) (ns ∷ values) [] =
    ap (λ (cells : List Cell). value_cell ns ∷ cells) (cells_beneath-split n values []
    ∙ ap₂ (λ (front rest : List Bool).
    cells_beneath (take n values) front ++ cells_beneath (drop n values) rest)
    (take-nil n) (drop-nil n))
cells_beneath-split (suc n) (ns ∷ values) (b ∷ flags) =
    ap (λ (cells : List Cell). slot_cell (slot_beneath b ns) ∷ cells)
    (cells_beneath-split n values flags)

-- the next 64 slots, and what is left behind them
next_chunk : (values : List (List ℤ)) (flags : List Bool) (i : ℕ)
    → cells_beneath (drop (64 * i) values) (drop (64 * i) flags)
    ≡ cells_beneath (cut values (64 * i) 64) (cut flags (64 * i) 64)
    ++ cells_beneath (drop (64 * (i + 1)) values) (drop (64 * (i + 1)) flags)
next_chunk values flags i =
    let next : 64 * i + 64 ≡ 64 * (i + 1) = omega arith in
    cells_beneath-split 64 (drop (64 * i) values) (drop (64 * i) flags)
    ∙ ap₂ (λ (vs : List (List ℤ)) (fs : List Bool).
    cells_beneath (cut values (64 * i) 64) (cut flags (64 * i) 64) ++ cells_beneath vs fs)
    (drop-drop 64 (64 * i) values ∙ ap (λ (k : ℕ). drop k values) next)
    (drop-drop 64 (64 * i) flags ∙ ap (λ (k : ℕ). drop k flags) next)

-- nothing and a number
nothing-more : (n : ℤ) → pos 0 +ℤ n ≡ n
nothing-more n = omega (arith, ints)

-- the bits of all flags choose the numbers of the valid slots
chosen_sum-flags : {X : Type 0} (numbers : X → List ℤ) (value : X → ℤ)
    → ((x : X) → numbers x ≡ value x ∷ []) → (xs : List X) (flags : List Bool)
    → length flags ≡ length xs
    → chosen_sum (map value xs) (number_of flags)
    ≡ exact_total (cells_beneath (map numbers xs) flags)
chosen_sum-flags numbers value law [] [] e = refl
chosen_sum-flags numbers value law [] (b ∷ flags) e = absurd (omega arith)
chosen_sum-flags numbers value law (x ∷ xs) [] e = absurd (omega arith)
chosen_sum-flags numbers value law (x ∷ xs) (true ∷ flags) e =
    let rest = chosen_sum-flags numbers value law xs flags (omega arith) in
    rw (lowest true (number_of flags), halved true (number_of flags), law x, rest) refl
chosen_sum-flags numbers value law (x ∷ xs) (false ∷ flags) e =
    let rest = chosen_sum-flags numbers value law xs flags (omega arith) in
    rw (lowest false (number_of flags), halved false (number_of flags))
    (nothing-more (chosen_sum (map value xs) (number_of flags)) ∙ rest)

-- where no bit is 1 no slot is valid
none_chosen : (values : List (List ℤ)) (flags : List Bool) → length flags ≡ length values
    → number_of flags ≡ 0 → has_value (cells_beneath values flags) ≡ false
none_chosen [] [] e h = refl
none_chosen [] (b ∷ flags) e h = absurd (omega arith)
none_chosen (ns ∷ values) [] e h = absurd (omega arith)
none_chosen (ns ∷ values) (true ∷ flags) e h = absurd (omega arith)
none_chosen (ns ∷ values) (false ∷ flags) e h =
    none_chosen values flags (omega arith) (omega arith)

-- where some bit is 1 some slot is valid
some_chosen : (values : List (List ℤ)) (flags : List Bool) → length flags ≡ length values
    → number_of flags ≢ 0 → has_value (cells_beneath values flags) ≡ true
some_chosen [] [] e h = absurd (h refl)
some_chosen [] (b ∷ flags) e h = absurd (omega arith)
some_chosen (ns ∷ values) [] e h = absurd (omega arith)
some_chosen (ns ∷ values) (true ∷ flags) e h =
    has_value-value ns (cells_beneath values flags)
some_chosen (ns ∷ values) (false ∷ flags) e h =
    some_chosen values flags (omega arith) (λ z. h (omega arith))

-- parts of lists of one length have one length
length-cuts : {X Y : Type 0} (xs : List X) (ys : List Y) (offset n : ℕ) → length xs ≡ length ys
    → length (cut xs offset n) ≡ length (cut ys offset n)
length-cuts xs ys offset n e =
    simp (length-take, length-drop, e) refl

-- no part is longer than was asked for
pub length-cut : {X : Type 0} (xs : List X) (offset n : ℕ) → length (cut xs offset n) ≤ n
length-cut xs offset n = omega (arith, length-take n (drop offset xs))

-- a word of ones chooses all of at most so many numbers
pub chosen_sum-full : (k : ℕ) (ns : List ℤ) → length ns ≤ k
    → chosen_sum ns (2 ^ k - 1) ≡ exact_sum ns
chosen_sum-full k [] h = refl
chosen_sum-full zero (n ∷ ns) h = absurd (omega arith)
chosen_sum-full (suc k) (n ∷ ns) h =
    let some = pow_pos k in
    let odd : (2 ^ suc k - 1) % 2 ≡ 1 = omega (arith, pow-suc 2 k) in
    let half : (2 ^ suc k - 1) / 2 ≡ 2 ^ k - 1 = omega (arith, pow-suc 2 k) in
    rw (odd, half) (ap (λ (m : ℤ). n +ℤ m) (chosen_sum-full k ns (omega arith)))

-- the sum of the slots in front of a place, and whether one of them had a value
pub record IsMaskedSoFar (t : WholeType) (values : List (List ℤ)) (flags : List Bool) (at : ℕ)
    (total : ℤ) (found : Bool) : Type 0 where
  pub so_far : IsSoFar t total (exact_total (cells_beneath (drop at values) (drop at flags)))
      (exact_total (cells_beneath values flags))
  pub valid : found || has_value (cells_beneath (drop at values) (drop at flags))
      ≡ has_value (cells_beneath values flags)

-- either of three truths
or-assoc : (a b c : Bool) → a || (b || c) ≡ (a || b) || c
or-assoc true b c = refl
or-assoc false b c = refl

-- the next 64 slots more
IsMaskedSoFar-next : {t : WholeType} {values : List (List ℤ)} {flags : List Bool} (i : ℕ)
    {total : ℤ} {found : Bool} (next : ℤ)
    → IsMaskedSoFar t values flags (64 * i) total found
    → next ≡ wrapped_number t
    (total +ℤ exact_total (cells_beneath (cut values (64 * i) 64) (cut flags (64 * i) 64)))
    → IsMaskedSoFar t values flags (64 * (i + 1)) next
    (found || has_value (cells_beneath (cut values (64 * i) 64) (cut flags (64 * i) 64)))
IsMaskedSoFar-next {t} {values} {flags} i {total} {found} next so e =
    let front = cells_beneath (cut values (64 * i) 64) (cut flags (64 * i) 64) in
    let rest = cells_beneath (drop (64 * (i + 1)) values) (drop (64 * (i + 1)) flags) in
    let split = next_chunk values flags i in
    record {
      so_far = IsSoFar-more (exact_total front) (exact_total rest) next so.so_far
          (ap exact_total split ∙ exact_total-append front rest) e;
      valid = sym (or-assoc found (has_value front) (has_value rest))
          ∙ ap (λ (b : Bool). found || b)
          (sym (ap has_value split ∙ has_value-append front rest)) ∙ so.valid;
    }

-- neither of two truths changes where the second is none
or-false : (b : Bool) → b || false ≡ b
or-false true = refl
or-false false = refl

-- either of two truths is one
or-true : (b : Bool) → b || true ≡ true
or-true true = refl
or-true false = refl

-- 64 slots without a value
pub IsMaskedSoFar-none : {X : Type 0} (numbers : X → List ℤ) {t : WholeType} (xs : List X)
    (flags : List Bool) (i : ℕ) {total : ℤ} {found : Bool}
    → IsMaskedSoFar t (map numbers xs) flags (64 * i) total found
    → length flags ≡ length xs → chunk_at flags i ≡ 0
    → IsMaskedSoFar t (map numbers xs) flags (64 * (i + 1)) total found
IsMaskedSoFar-none numbers {t} xs flags i {total} {found} so e none =
    let values = map numbers xs in
    let front = cells_beneath (cut values (64 * i) 64) (cut flags (64 * i) 64) in
    let lengths = length-cuts flags values (64 * i) 64 (e ∙ sym (length-map xs numbers)) in
    let no = none_chosen (cut values (64 * i) 64) (cut flags (64 * i) 64) lengths none in
    let zero : exact_total front ≡ pos 0 = exact_total-none front no in
    let same : total +ℤ exact_total front ≡ total = omega (arith, ints) in
    let next = IsMaskedSoFar-next i total so
    (sym so.so_far.wrapped ∙ ap (wrapped_number t) (sym same)) in
    let P : Bool → Type 0 = λ b. IsMaskedSoFar t values flags (64 * (i + 1)) total b in
    subst P (ap (λ (b : Bool). found || b) no ∙ or-false found) next

-- 64 slots with a value
pub IsMaskedSoFar-some : {X : Type 0} (numbers : X → List ℤ) (value : X → ℤ)
    → ((x : X) → numbers x ≡ value x ∷ []) → {t : WholeType} (xs chunk : List X)
    (flags : List Bool) (i chosen : ℕ) {total : ℤ} {found : Bool} (part next : ℤ)
    → IsMaskedSoFar t (map numbers xs) flags (64 * i) total found
    → length flags ≡ length xs → chosen ≡ chunk_at flags i → chosen ≢ 0
    → chunk ≡ cut xs (64 * i) 64
    → part ≡ wrapped_number t (chosen_sum (map value chunk) chosen)
    → next ≡ wrapped_number t (total +ℤ part)
    → IsMaskedSoFar t (map numbers xs) flags (64 * (i + 1)) next true
IsMaskedSoFar-some {X} numbers value law {t} xs chunk flags i chosen {total} {found} part next so e
    is some chunk_is part_is next_is =
    let values = map numbers xs in
    let front = cells_beneath (cut values (64 * i) 64) (cut flags (64 * i) 64) in
    let lengths = length-cuts flags values (64 * i) 64 (e ∙ sym (length-map xs numbers)) in
    let yes = some_chosen (cut values (64 * i) 64) (cut flags (64 * i) 64) lengths
    (λ z. some (is ∙ z)) in
    let part_total : chosen_sum (map value chunk) chosen ≡ exact_total front =
    ap₂ (λ (ys : List X) (bits : ℕ). chosen_sum (map value ys) bits) chunk_is is
    ∙ chosen_sum-flags numbers value law (cut xs (64 * i) 64) (cut flags (64 * i) 64)
    (length-cuts flags xs (64 * i) 64 e)
    ∙ ap (λ (vs : List (List ℤ)). exact_total (cells_beneath vs (cut flags (64 * i) 64)))
    (map-cut numbers xs (64 * i) 64) in
    let added : next ≡ wrapped_number t (total +ℤ exact_total front) =
    next_is ∙ ap (λ (m : ℤ). wrapped_number t (total +ℤ m)) part_is
    ∙ wrapped-add_right t total (chosen_sum (map value chunk) chosen)
    ∙ ap (λ (m : ℤ). wrapped_number t (total +ℤ m)) part_total in
    let P : Bool → Type 0 = λ b. IsMaskedSoFar t values flags (64 * (i + 1)) next b in
    subst P (ap (λ (b : Bool). found || b) yes ∙ or-true found)
    (IsMaskedSoFar-next i next so added)

-- without flags all values are summed
exact_total-values : {X : Type 0} (numbers : X → List ℤ) (value : X → ℤ)
    → ((x : X) → numbers x ≡ value x ∷ []) → (xs : List X)
    → exact_total (cells_beneath (map numbers xs) []) ≡ exact_sum (map value xs)
exact_total-values numbers value law [] = refl
exact_total-values numbers value law (x ∷ xs) =
    rw law (ap (λ (m : ℤ). value x +ℤ m) (exact_total-values numbers value law xs))

-- the total of values that are all valid
pub total_of-values : {X : Type 0} (numbers : X → List ℤ) (value : X → ℤ)
    → ((x : X) → numbers x ≡ value x ∷ []) → (t : WholeType) (xs : List X) (r : X)
    → 0 < length xs → value r ≡ wrapped_number t (exact_sum (map value xs))
    → value_cell (numbers r) ≡ total_of t (cells_beneath (map numbers xs) [])
total_of-values numbers value law t [] r h e = absurd (omega arith)
total_of-values numbers value law t (x ∷ xs) r h e =
    let all = exact_total-values numbers value law (x ∷ xs) in
    let yes = has_value-value (numbers x) (cells_beneath (map numbers xs) []) in
    rw (law r, yes, all) (ap whole e)

-- a list that is not empty
pub some_length : (n : ℕ) → (n == 0) ≡ false → 0 < n
some_length zero h = cc
some_length (suc n) h = omega arith

-- a mask has as many flags as there are slots
pub length-mask : (mask : Option (List Bool)) (flags : List Bool) (count : ℕ)
    → Some flags ≡ mask → IsMaskOf mask count → length flags ≡ count
length-mask mask flags count e h =
    let P : Option (List Bool) → Type 0 = λ m. IsMaskOf m count in
    subst P (sym e) h
