-- Lemmas on 64 truth values at once.
use Rattle.std.proofs.Common.{◌≡◌, ℕ, ◌+◌, ◌-◌, ◌*◌, ◌/◌, ◌%◌, ◌^◌, ◌<◌, ◌≤◌, min, Bool, true}
use Rattle.std.proofs.Common.{false, cond, not, List, [], ◌∷◌, length, get_or, take, drop, refl}
use Rattle.std.proofs.Common.{sym, ap, ap₂, ◌∙◌, arith, ⊎_elim, bit_and}
use Rattle.std.proofs.lemmas.List.{length-take, length-drop, get_or-take, get_or-drop, take_min}
use Rattle.std.proofs.lemmas.List.{take_all}
use Rattle.std.proofs.lemmas.List.Sums.{sum_by-append, sum_by-cons}
use Rattle.std.proofs.lemmas.Bool.{cases_lt}
use Rattle.std.proofs.lemmas.Nat.{pow_pos, and_mask, mod_below}
use Rattle.std.proofs.lemmas.Nat.Bits.{bit_at_cat_low, bit_at_cat_high}
use Rattle.std.proofs.Math.Seq.{take-add}
use Rattle.std.specs.Int.{bit_at as bit_of}
use Rattle.std.specs.Int.Count.{ones, ones_step}
use Rattle.std.specs.List.{count_by}
use Rattle.col_buf.specs.Cut.{cut}
use Rattle.col_buf.specs.Bitmap.{bit_at, bits_from, number_of, chunk_at}
use Rattle.col_buf.proofs.BitLemmas.{length-bits_from, get_or-bits_from, cut-bits_from}
use Rattle.col_buf.proofs.BitLemmas.{digit_of_bit_at}
use Rattle.col_buf.proofs.NumberLemmas.{bit_of-number_of, bit_of-mod, bit_of-shr, number_from_bits}
use Rattle.col_buf.proofs.NumberLemmas.{number_of-below, halved, lowest}

-- nine bytes as one number: each bit is that of the bytes
nine_bytes : (bytes : List ℕ) (at m : ℕ) → m < 72 →
    bit_of (get_or bytes (at + 8) 0 * 2 ^ 64 + number_of (bits_from bytes (8 * at) 64)) m ≡
    cond (bit_at bytes (8 * at + m)) 1 0
nine_bytes bytes at m h =
    let low = bits_from bytes (8 * at) 64 in
    let high = get_or bytes (at + 8) 0 in
    let small : number_of low < 2 ^ 64 =
    number_of-below low 64 (omega (arith, length-bits_from bytes (8 * at) 64)) in
    ⊎_elim
    (λ (l : m < 64). bit_at_cat_low high 64 (number_of low) m l ∙ bit_of-number_of low m
    ∙ ap (λ b. cond b 1 0) (get_or-bits_from bytes (8 * at) 64 m l))
    (λ (l : 64 ≤ m). bit_at_cat_high high 64 (number_of low) m small l
    ∙ ap₂ (λ k r. bit_of (get_or bytes k 0) r) (omega arith) (omega arith)
    ∙ sym (digit_of_bit_at bytes (8 * at + m)))
    (cases_lt m 64)

-- nine bytes, shifted and masked, are the number of the bits from a bit on
pub masked_is : (bytes : List ℕ) (at start k : ℕ) → start < 8 → k ≤ 64 →
    bit_and ((get_or bytes (at + 8) 0 * 2 ^ 64 + number_of (bits_from bytes (8 * at) 64)) / 2 ^
    start % 2 ^ 64) (2 ^ k - 1) ≡ number_of (bits_from bytes (8 * at + start) k)
masked_is bytes at start k h short =
    let wide = get_or bytes (at + 8) 0 * 2 ^ 64 + number_of (bits_from bytes (8 * at) 64) in
    let whole = wide / 2 ^ start % 2 ^ 64 in
    and_mask whole k ∙ number_from_bits (whole % 2 ^ k) k (bits_from bytes (8 * at + start) k)
    (mod_below whole (2 ^ k) (pow_pos k))
    (omega (arith, length-bits_from bytes (8 * at + start) k))
    (λ i l. let far : i < 64 = omega arith in
    bit_of-mod whole k i l ∙ bit_of-mod (wide / 2 ^ start) 64 i far ∙ bit_of-shr wide start i
    ∙ nine_bytes bytes at (start + i) (omega arith)
    ∙ ap (λ b. cond b 1 0)
    (ap (bit_at bytes) (omega arith) ∙ sym (get_or-bits_from bytes (8 * at + start) k i l)))

-- 64 of the bits from a place on, or as many as are left
cut_rest : (bytes : List ℕ) (start count offset n : ℕ) → offset ≤ count →
    cut (bits_from bytes start count) offset n ≡
    bits_from bytes (start + offset) (min (count - offset) n)
cut_rest bytes start count offset n within =
    let all = bits_from bytes start count in
    let size : length (drop offset all) ≡ count - offset =
    simp length-drop (ap (λ m. m - offset) (length-bits_from bytes start count)) in
    sym (take_min n (drop offset all)) ∙ ap (λ m. take m (drop offset all)) (omega arith)
    ∙ cut-bits_from bytes start count offset (min (count - offset) n) (omega arith)

-- what the machine steps give is the chunk
pub chunk_is : (bytes : List ℕ) (start count i : ℕ) → start < 8 → 64 * i ≤ count →
    bit_and ((get_or bytes (8 * i + 8) 0 * 2 ^ 64 + number_of (bits_from bytes (8 * (8 * i)) 64)) /
    2 ^ start % 2 ^ 64) (2 ^ min (count - 64 * i) 64 - 1) ≡ chunk_at (bits_from bytes start count) i
chunk_is bytes start count i h within =
    masked_is bytes (8 * i) start (min (count - 64 * i) 64) h (omega arith)
    ∙ ap number_of (ap (λ o. bits_from bytes o (min (count - 64 * i) 64)) (omega arith)
    ∙ sym (cut_rest bytes start count (64 * i) 64 within))

-- the bits of a chunk are the truth values
pub bit_of-chunk_at : (truths : List Bool) (i j : ℕ) → j < 64 →
    bit_of (chunk_at truths i) j ≡ cond (get_or truths (64 * i + j) false) 1 0
bit_of-chunk_at truths i j h =
    bit_of-number_of (cut truths (64 * i) 64) j
    ∙ ap (λ b. cond b 1 0)
    (get_or-take 64 (drop (64 * i) truths) j false h ∙ get_or-drop (64 * i) truths j false)

-- how many are true
abbrev pub set_count : List Bool → ℕ
set_count truths = count_by (λ b. b) truths

-- 0 has no ones
ones-zero : ones 0 ≡ 0
unfolding ones
ones-zero = refl

-- the ones of the number are the true values
ones-number_of : (truths : List Bool) → ones (number_of truths) ≡ set_count truths
ones-number_of [] = ones-zero
ones-number_of (b ∷ truths) =
    ones_step (number_of (b ∷ truths))
    ∙ ap₂ (λ m n. m + n) (lowest b (number_of truths))
    (ap ones (halved b (number_of truths)) ∙ ones-number_of truths)
    ∙ sym (sum_by-cons (λ (x : Bool). cond x 1 0) b truths)

-- a chunk more has its ones more
pub set_count_more : (truths : List Bool) (i : ℕ) →
    set_count (take (64 * (i + 1)) truths) ≡
    set_count (take (64 * i) truths) + ones (chunk_at truths i)
set_count_more truths i =
    ap (λ n. set_count (take n truths)) (omega arith) ∙ ap set_count (take-add (64 * i) 64 truths)
    ∙ sum_by-append (λ (x : Bool). cond x 1 0) (take (64 * i) truths) (cut truths (64 * i) 64)
    ∙ ap (λ n. set_count (take (64 * i) truths) + n) (sym (ones-number_of (cut truths (64 * i) 64)))

-- a digit and the digit of the other value
both_digits : (b : Bool) → cond (not b) 1 0 + cond b 1 0 ≡ 1
both_digits true = refl
both_digits false = refl

-- each value is false or true
pub unset_and_set : (truths : List Bool) → count_by not truths + set_count truths ≡ length truths
unset_and_set [] = refl
unset_and_set (b ∷ truths) =
    omega (
      arith,
      sum_by-cons (λ (x : Bool). cond (not x) 1 0) b truths,
      sum_by-cons (λ (x : Bool). cond x 1 0) b truths,
      both_digits b,
      unset_and_set truths,
    )

-- and so no more are true than there are
pub set_count-le : (truths : List Bool) (n : ℕ) → set_count (take n truths) ≤ length truths
set_count-le truths n = omega (arith, unset_and_set (take n truths), length-take n truths)

-- what is left of all values without the true ones
pub unset_is : (truths : List Bool) (n count : ℕ) → length truths ≡ count → count ≤ n →
    count - set_count (take n truths) ≡ count_by not truths
unset_is truths n count e h =
    ap (λ xs. count - set_count xs) (take_all n truths (omega arith))
    ∙ omega (arith, unset_and_set truths)
