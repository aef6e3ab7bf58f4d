-- Facts on the slots and cells that stored values and masks stand for.
use Rattle.std.proofs.Common.{map, ◌≡◌, ◌≢◌, ◌↔◌, ℕ, ◌+◌, ◌<◌, suc, zero, Bool, true, false, cond}
use Rattle.std.proofs.Common.{List, [], ◌∷◌, length, get_or, replicate, is_some, unwrap_or}
use Rattle.std.proofs.Common.{option_map, not, count_by, slice_get, IsTrue, take, drop, Option}
use Rattle.std.proofs.Common.{Some, None, ℤ, refl, ap, sym, ◌∙◌, arith}
use Rattle.std.proofs.lemmas.List.{drop-map, length-map, take-map}
use Rattle.std.proofs.lemmas.List.Recursion.{is_count_by}
use Rattle.std.proofs.Math.Seq.{drop-nil, take-nil}
use Rattle.std.specs.List.{list_all}
use Rattle.col_buf.specs.Cut.{cut}
use Rattle.col_model.specs.Cell.{Cell, null}
use Rattle.col_types.specs.Column.{row_count}
use Rattle.col_types.specs.DataKind.{DataKind}
use Rattle.col_flat.specs.Parts.{PrimitiveParts, HasFlags, IsMaskOf, column_of, cut_parts}
use Rattle.col_flat.specs.Parts.{masked_slots, native_cell, null_count_of, slot_beneath, slot_cell}
use Rattle.col_flat.specs.Parts.{slots_of, value_cell, zipped_slots}

-- as many slots as values
pub length-masked_slots : (values : List (List ℤ)) (flags : List Bool)
    → length (masked_slots values flags) ≡ length values
length-masked_slots [] flags = refl
length-masked_slots (ns ∷ values) [] = ap suc (length-masked_slots values [])
length-masked_slots (ns ∷ values) (b ∷ flags) = ap suc (length-masked_slots values flags)

-- as many rows as values
pub row_count-values : (a : PrimitiveParts) → row_count (column_of a) ≡ length a.values
row_count-values a =
    length-map (slots_of a) slot_cell ∙ length-masked_slots a.values (unwrap_or a.validity [])

-- as many rows as values, in an array that is seen as its parts
pub rows_are : {T : Type 0} (numbers : T → List ℤ) (t : DataKind) (values : List T)
    (validity : Option (List Bool)) (a : PrimitiveParts)
    → record { data_type = t; values = map numbers values; validity = validity } ≡ a
    → row_count (column_of a) ≡ length values
rows_are numbers t values validity a seen =
    sym (ap (λ (p : PrimitiveParts). row_count (column_of p)) seen)
    ∙ length-map (masked_slots (map numbers values) (unwrap_or validity [])) slot_cell
    ∙ length-masked_slots (map numbers values) (unwrap_or validity [])
    ∙ length-map values numbers

-- a value is no null
value_cell-not_null : (ns : List ℤ) → value_cell ns ≢ null
value_cell-not_null [] e = cc
value_cell-not_null (n ∷ []) e = cc
value_cell-not_null (n ∷ m ∷ ns) e = cc

-- a flag tells whether the cell beneath it is null
cell_beneath : (b : Bool) (ns : List ℤ)
    → IsTrue b ↔ (Some (slot_cell (slot_beneath b ns)) ≢ Some null)
cell_beneath true ns =
    (λ t e. let same : value_cell ns ≡ null = cc in absurd (value_cell-not_null ns same), λ h. refl)
cell_beneath false ns = (λ t e. cc, λ h. absurd (h refl))

-- a flag tells whether its row's cell is null; a row without a flag is valid
pub valid_at : (values : List (List ℤ)) (flags : List Bool) (i : ℕ) → i < length values
    → IsTrue (get_or flags i true)
    ↔ (slice_get (map slot_cell (masked_slots values flags)) i ≢ Some null)
valid_at [] flags i p = absurd (omega arith)
valid_at (ns ∷ values) [] zero p = cell_beneath true ns
valid_at (ns ∷ values) [] (suc i) p = valid_at values [] i (omega arith)
valid_at (ns ∷ values) (b ∷ flags) zero p = cell_beneath b ns
valid_at (ns ∷ values) (b ∷ flags) (suc i) p = valid_at values flags i (omega arith)

-- a row that is valid has its value
pub slot_at_valid : (values : List (List ℤ)) (flags : List Bool) (i : ℕ) (ns : List ℤ)
    → slice_get values i ≡ Some ns
    → slice_get (map slot_cell (masked_slots values flags)) i ≢ Some null
    → slice_get (masked_slots values flags) i ≡ Some (Some ns)
slot_at_valid [] flags i ns is valid = cc
slot_at_valid (ms ∷ values) [] zero ns is valid = let e : ms ≡ ns = cc in rw e refl
slot_at_valid (ms ∷ values) [] (suc i) ns is valid = slot_at_valid values [] i ns is valid
slot_at_valid (ms ∷ values) (true ∷ flags) zero ns is valid = let e : ms ≡ ns = cc in rw e refl
slot_at_valid (ms ∷ values) (false ∷ flags) zero ns is valid = absurd (valid refl)
slot_at_valid (ms ∷ values) (b ∷ flags) (suc i) ns is valid =
    slot_at_valid values flags i ns is valid

-- a row that is not valid is null
pub slot_at_null : (values : List (List ℤ)) (flags : List Bool) (i : ℕ) → i < length values
    → (slice_get (map slot_cell (masked_slots values flags)) i ≢ Some null → IsTrue false)
    → slice_get (masked_slots values flags) i ≡ Some None
slot_at_null [] flags i p none = absurd (omega arith)
slot_at_null (ns ∷ values) [] zero p none =
    let no = none (λ e. let same : value_cell ns ≡ null = cc in value_cell-not_null ns same) in cc
slot_at_null (ns ∷ values) [] (suc i) p none = slot_at_null values [] i (omega arith) none
slot_at_null (ns ∷ values) (true ∷ flags) zero p none =
    let no = none (λ e. let same : value_cell ns ≡ null = cc in value_cell-not_null ns same) in cc
slot_at_null (ns ∷ values) (false ∷ flags) zero p none = refl
slot_at_null (ns ∷ values) (b ∷ flags) (suc i) p none =
    slot_at_null values flags i (omega arith) none

-- slots of fronts and of rests
take-masked_slots : (n : ℕ) (values : List (List ℤ)) (flags : List Bool)
    → masked_slots (take n values) (take n flags) ≡ take n (masked_slots values flags)
take-masked_slots zero values flags = refl
take-masked_slots (suc n) [] flags = refl
take-masked_slots (suc n) (ns ∷ values) [] =
    ap (λ (rest : List (Option (List ℤ))). Some ns ∷ rest)
    (ap (masked_slots (take n values)) (sym (take-nil n)) ∙ take-masked_slots n values [])
take-masked_slots (suc n) (ns ∷ values) (b ∷ flags) =
    ap (λ (rest : List (Option (List ℤ))). slot_beneath b ns ∷ rest)
    (take-masked_slots n values flags)

-- without some of the front
drop-masked_slots : (n : ℕ) (values : List (List ℤ)) (flags : List Bool)
    → masked_slots (drop n values) (drop n flags) ≡ drop n (masked_slots values flags)
drop-masked_slots zero values flags = refl
drop-masked_slots (suc n) [] flags = refl
drop-masked_slots (suc n) (ns ∷ values) [] =
    ap (masked_slots (drop n values)) (sym (drop-nil n)) ∙ drop-masked_slots n values []
drop-masked_slots (suc n) (ns ∷ values) (b ∷ flags) = drop-masked_slots n values flags

-- slots of cuts
masked_slots-cut : (values : List (List ℤ)) (flags : List Bool) (offset count : ℕ)
    → masked_slots (cut values offset count) (cut flags offset count)
    ≡ cut (masked_slots values flags) offset count
masked_slots-cut values flags offset count =
    take-masked_slots count (drop offset values) (drop offset flags)
    ∙ ap (take count) (drop-masked_slots offset values flags)

-- what is made of the elements of a cut is the cut of what is made of all
pub map-cut : {X Y : Type 0} (f : X → Y) (xs : List X) (offset count : ℕ)
    → map f (cut xs offset count) ≡ cut (map f xs) offset count
map-cut f xs offset count =
    sym (take-map f count (drop offset xs)) ∙ ap (take count) (sym (drop-map f offset xs))

-- no flags are cut to none
flags-cut : (validity : Option (List Bool)) (offset count : ℕ)
    → unwrap_or (option_map (λ flags. cut flags offset count) validity) []
    ≡ cut (unwrap_or validity []) offset count
flags-cut None offset count = sym (ap (take count) (drop-nil offset) ∙ take-nil count)
flags-cut (Some flags) offset count = refl

-- the column of a cut is the cut of the column
pub column-cut : (a : PrimitiveParts) (offset count : ℕ)
    → column_of (cut_parts a offset count)
    ≡ record { data_type = a.data_type; cells = cut (column_of a).cells offset count }
column-cut a offset count =
    ap (λ (cells : List Cell). record { data_type = a.data_type; cells = cells })
    (ap (λ (flags : List Bool). map slot_cell (masked_slots (cut a.values offset count) flags))
    (flags-cut a.validity offset count)
    ∙ ap (map slot_cell) (masked_slots-cut a.values (unwrap_or a.validity []) offset count)
    ∙ map-cut slot_cell (slots_of a) offset count)

-- a value is no null when they are counted
null_count_of-value : (ns : List ℤ) (cells : List Cell)
    → null_count_of (value_cell ns ∷ cells) ≡ null_count_of cells
null_count_of-value [] cells = refl
null_count_of-value (n ∷ []) cells = refl
null_count_of-value (n ∷ m ∷ ns) cells = refl

-- how many flags are false, by recursion
abbrev unset_flags : List Bool → ℕ
unset_flags [] = 0
unset_flags (b ∷ flags) = cond (not b) (1 + unset_flags flags) (unset_flags flags)

-- a false flag is a null slot
unset_flags-null_count : (values : List (List ℤ)) (flags : List Bool) → length flags ≡ length values
    → unset_flags flags ≡ null_count_of (map slot_cell (masked_slots values flags))
unset_flags-null_count [] [] h = refl
unset_flags-null_count [] (b ∷ flags) h = absurd (omega arith)
unset_flags-null_count (ns ∷ values) [] h = absurd (omega arith)
unset_flags-null_count (ns ∷ values) (true ∷ flags) h =
    unset_flags-null_count values flags (omega arith)
    ∙ sym (null_count_of-value ns (map slot_cell (masked_slots values flags)))
unset_flags-null_count (ns ∷ values) (false ∷ flags) h =
    ap (λ (k : ℕ). 1 + k) (unset_flags-null_count values flags (omega arith))

-- as many nulls as false flags
pub count_by-null_count : (values : List (List ℤ)) (flags : List Bool)
    → length flags ≡ length values
    → count_by not flags ≡ null_count_of (map slot_cell (masked_slots values flags))
count_by-null_count values flags h =
    sym (is_count_by unset_flags not refl (λ _ _. refl) flags)
    ∙ unset_flags-null_count values flags h

-- no nulls without a mask
pub null_count-unmasked : (values : List (List ℤ))
    → 0 ≡ null_count_of (map slot_cell (masked_slots values []))
null_count-unmasked [] = refl
null_count-unmasked (ns ∷ values) =
    null_count-unmasked values
    ∙ sym (null_count_of-value ns (map slot_cell (masked_slots values [])))

-- flags that are all true leave what stands without any
masked_slots-all : (values : List (List ℤ)) (flags : List Bool)
    → IsTrue (list_all (λ flag. flag) flags) → masked_slots values [] ≡ masked_slots values flags
masked_slots-all [] flags h = refl
masked_slots-all (ns ∷ values) [] h = refl
masked_slots-all (ns ∷ values) (true ∷ flags) h =
    ap (λ (rest : List (Option (List ℤ))). Some ns ∷ rest) (masked_slots-all values flags h)
masked_slots-all (ns ∷ values) (false ∷ flags) h = cc

-- a mask of flags leaves what they leave
pub masked_slots-flags : (values : List (List ℤ)) (mask : Option (List Bool)) (flags : List Bool)
    → HasFlags mask flags → masked_slots values (unwrap_or mask []) ≡ masked_slots values flags
masked_slots-flags values None flags h = masked_slots-all values flags h
masked_slots-flags values (Some mask) flags h = rw h refl

-- a mask of so many flags fits so many values
pub IsMaskOf-flags : (mask : Option (List Bool)) (flags : List Bool) (count : ℕ)
    → HasFlags mask flags → length flags ≡ count → IsMaskOf mask count
IsMaskOf-flags None flags count h e = tt
IsMaskOf-flags (Some mask) flags count h e = rw h e

-- values and flags that are made from slots stand for those slots
pub masked_slots-slots : {T : Type 0} (numbers : T → List ℤ) (beneath_null : T)
    (slots : List (Option T))
    → masked_slots (map numbers (map (λ slot. unwrap_or slot beneath_null) slots))
    (map is_some slots) ≡ map (option_map numbers) slots
masked_slots-slots numbers x [] = refl
masked_slots-slots numbers x (None ∷ slots) =
    ap (λ (rest : List (Option (List ℤ))). None ∷ rest) (masked_slots-slots numbers x slots)
masked_slots-slots numbers x (Some v ∷ slots) =
    ap (λ (rest : List (Option (List ℤ))). Some (numbers v) ∷ rest)
    (masked_slots-slots numbers x slots)

-- the cells of slots
pub cells-slots : {T : Type 0} (numbers : T → List ℤ) (slots : List (Option T))
    → map slot_cell (map (option_map numbers) slots) ≡ map (native_cell numbers) slots
cells-slots numbers [] = refl
cells-slots numbers (slot ∷ slots) =
    ap (λ (rest : List Cell). native_cell numbers slot ∷ rest) (cells-slots numbers slots)

-- a column with equal cells
pub column-cells : (a : PrimitiveParts) (t : DataKind) (cells same : List Cell)
    → column_of a ≡ record { data_type = t; cells = cells } → cells ≡ same
    → column_of a ≡ record { data_type = t; cells = same }
column-cells a t cells same e h =
    e ∙ ap (λ (others : List Cell). record { data_type = t; cells = others }) h

-- false flags make nulls
pub masked_slots-replicate : (values : List (List ℤ)) (count : ℕ) → length values ≡ count
    → map slot_cell (masked_slots values (replicate count false)) ≡ replicate count null
masked_slots-replicate [] zero h = refl
masked_slots-replicate [] (suc count) h = absurd (omega arith)
masked_slots-replicate (ns ∷ values) zero h = absurd (omega arith)
masked_slots-replicate (ns ∷ values) (suc count) h =
    ap (λ (rest : List Cell). null ∷ rest) (masked_slots-replicate values count (omega arith))

-- the rows of two lists of values beneath the flags of the valid rows
rows_valid : (left right : List (List ℤ)) (flags others : List Bool)
    → zipped_slots
    (masked_slots left
    (map is_some (zipped_slots (masked_slots left flags) (masked_slots right others))))
    (masked_slots right
    (map is_some (zipped_slots (masked_slots left flags) (masked_slots right others))))
    ≡ zipped_slots (masked_slots left flags) (masked_slots right others)
rows_valid [] right flags others = refl
rows_valid (x ∷ left) [] [] others = refl
rows_valid (x ∷ left) [] (a ∷ flags) others = refl
rows_valid (x ∷ left) (y ∷ right) [] [] =
    ap (λ (rest : List (Option (List ℤ × List ℤ))). Some (x, y) ∷ rest)
    (rows_valid left right [] [])
rows_valid (x ∷ left) (y ∷ right) [] (true ∷ others) =
    ap (λ (rest : List (Option (List ℤ × List ℤ))). Some (x, y) ∷ rest)
    (rows_valid left right [] others)
rows_valid (x ∷ left) (y ∷ right) [] (false ∷ others) =
    ap (λ (rest : List (Option (List ℤ × List ℤ))). None ∷ rest) (rows_valid left right [] others)
rows_valid (x ∷ left) (y ∷ right) (true ∷ flags) [] =
    ap (λ (rest : List (Option (List ℤ × List ℤ))). Some (x, y) ∷ rest)
    (rows_valid left right flags [])
rows_valid (x ∷ left) (y ∷ right) (false ∷ flags) [] =
    ap (λ (rest : List (Option (List ℤ × List ℤ))). None ∷ rest) (rows_valid left right flags [])
rows_valid (x ∷ left) (y ∷ right) (true ∷ flags) (true ∷ others) =
    ap (λ (rest : List (Option (List ℤ × List ℤ))). Some (x, y) ∷ rest)
    (rows_valid left right flags others)
rows_valid (x ∷ left) (y ∷ right) (true ∷ flags) (false ∷ others) =
    ap (λ (rest : List (Option (List ℤ × List ℤ))). None ∷ rest)
    (rows_valid left right flags others)
rows_valid (x ∷ left) (y ∷ right) (false ∷ flags) (true ∷ others) =
    ap (λ (rest : List (Option (List ℤ × List ℤ))). None ∷ rest)
    (rows_valid left right flags others)
rows_valid (x ∷ left) (y ∷ right) (false ∷ flags) (false ∷ others) =
    ap (λ (rest : List (Option (List ℤ × List ℤ))). None ∷ rest)
    (rows_valid left right flags others)

-- as many rows as slots of either of two lists of one length
length-zipped_slots : {X Y : Type 0} (xs : List (Option X)) (ys : List (Option Y))
    → length xs ≡ length ys → length (zipped_slots xs ys) ≡ length xs
length-zipped_slots [] ys e = refl
length-zipped_slots (x ∷ xs) [] e = absurd (omega arith)
length-zipped_slots (x ∷ xs) (y ∷ ys) e = ap suc (length-zipped_slots xs ys (omega arith))

-- a mask of the valid rows of two arrays fits the values of either
pub mask_fits : {T : Type 0} (numbers : T → List ℤ) (t : DataKind) (left : List T)
    (lhs mask : Option (List Bool)) (a b : PrimitiveParts)
    → record { data_type = t; values = map numbers left; validity = lhs } ≡ a
    → row_count (column_of a) ≡ row_count (column_of b)
    → HasFlags mask (map is_some (zipped_slots (slots_of a) (slots_of b)))
    → IsMaskOf mask (length left)
mask_fits numbers t left lhs mask a b l same flags =
    let lengths : length (slots_of a) ≡ length (slots_of b) =
    sym (length-map (slots_of a) slot_cell) ∙ same ∙ length-map (slots_of b) slot_cell in
    IsMaskOf-flags mask (map is_some (zipped_slots (slots_of a) (slots_of b))) (length left) flags
    (length-map (zipped_slots (slots_of a) (slots_of b)) is_some
    ∙ length-zipped_slots (slots_of a) (slots_of b) lengths
    ∙ sym (length-map (slots_of a) slot_cell) ∙ rows_are numbers t left lhs a l)

-- and beneath it the values of both arrays are their rows
pub rows_beneath : {T D : Type 0} (numbers : T → List ℤ) (others : D → List ℤ) (t u : DataKind)
    (left : List T) (right : List D) (lhs rhs mask : Option (List Bool)) (a b : PrimitiveParts)
    → record { data_type = t; values = map numbers left; validity = lhs } ≡ a
    → record { data_type = u; values = map others right; validity = rhs } ≡ b
    → HasFlags mask (map is_some (zipped_slots (slots_of a) (slots_of b)))
    → zipped_slots (masked_slots (map numbers left) (unwrap_or mask []))
    (masked_slots (map others right) (unwrap_or mask [])) ≡ zipped_slots (slots_of a) (slots_of b)
rows_beneath numbers others t u left right lhs rhs mask a b l r is =
    let valid : List Bool = map is_some
    (zipped_slots (masked_slots (map numbers left) (unwrap_or lhs []))
    (masked_slots (map others right) (unwrap_or rhs []))) in
    let flags : HasFlags mask valid = rw (← l, ← r) at is in
    rw (
      masked_slots-flags (map numbers left) mask valid flags,
      masked_slots-flags
          (map others right) mask valid flags,
      ← l,
      ← r,
    )
    (rows_valid (map numbers left) (map others right) (unwrap_or lhs []) (unwrap_or rhs []))
