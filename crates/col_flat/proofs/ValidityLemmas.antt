-- Facts on which slots and rows are valid, as masks tell it.
use Rattle.std.proofs.Common.{◌≡◌, Bool, true, false, IsTrue, List, [], ◌∷◌, ℤ, length, map}
use Rattle.std.proofs.Common.{is_some, Option, Some, None, unwrap_or, refl, sym, ap, ◌∙◌, arith}
use Rattle.std.specs.List.{list_all}
use Rattle.std.proofs.lemmas.List.{length-map}
use Rattle.col_buf.specs.Bitmap.{both}
use Rattle.col_types.specs.Column.{row_count}
use Rattle.col_flat.specs.Parts.{HasFlags, HaveOneLength, IsMaskOf, PrimitiveParts, column_of}
use Rattle.col_flat.specs.Parts.{flags_of_both, masked_slots, null_count_of, slot_cell, slots_of}
use Rattle.col_flat.specs.Parts.{zipped_slots}
use Rattle.col_flat.proofs.PartsLemmas.{row_count-values}

-- without a mask all slots are valid
all_valid : (values : List (List ℤ))
    → IsTrue (list_all (λ flag. flag) (map is_some (masked_slots values [])))
all_valid [] = refl
all_valid (ns ∷ values) = all_valid values

-- beneath a mask the slots are valid whose flags are true
flags_are : (values : List (List ℤ)) (flags : List Bool) → length flags ≡ length values
    → flags ≡ map is_some (masked_slots values flags)
flags_are [] [] e = refl
flags_are [] (b ∷ flags) e = absurd (omega arith)
flags_are (ns ∷ values) [] e = absurd (omega arith)
flags_are (ns ∷ values) (true ∷ flags) e =
    ap (λ (rest : List Bool). true ∷ rest) (flags_are values flags (omega arith))
flags_are (ns ∷ values) (false ∷ flags) e =
    ap (λ (rest : List Bool). false ∷ rest) (flags_are values flags (omega arith))

-- a mask tells which slots are valid
HasFlags-slots : (values : List (List ℤ)) (mask : Option (List Bool))
    → IsMaskOf mask (length values)
    → HasFlags mask (map is_some (masked_slots values (unwrap_or mask [])))
HasFlags-slots values None fits = all_valid values
HasFlags-slots values (Some flags) fits = flags_are values flags fits

-- a row of two lists is valid where both slots are
is_some-zipped : {X Y : Type 0} (xs : List (Option X)) (ys : List (Option Y))
    → map is_some (zipped_slots xs ys) ≡ both (map is_some xs) (map is_some ys)
is_some-zipped [] ys = refl
is_some-zipped (x ∷ xs) [] = refl
is_some-zipped (None ∷ xs) (y ∷ ys) = ap (λ (rest : List Bool). false ∷ rest) (is_some-zipped xs ys)
is_some-zipped (Some x ∷ xs) (None ∷ ys) =
    ap (λ (rest : List Bool). false ∷ rest) (is_some-zipped xs ys)
is_some-zipped (Some x ∷ xs) (Some y ∷ ys) =
    ap (λ (rest : List Bool). true ∷ rest) (is_some-zipped xs ys)

-- two lists of true flags
both-all : (left right : List Bool) → IsTrue (list_all (λ flag. flag) left)
    → IsTrue (list_all (λ flag. flag) right) → IsTrue (list_all (λ flag. flag) (both left right))
both-all [] right l r = refl
both-all (a ∷ left) [] l r = refl
both-all (true ∷ left) (true ∷ right) l r = both-all left right l r
both-all (false ∷ left) (b ∷ right) l r = cc
both-all (true ∷ left) (false ∷ right) l r = cc

-- true flags leave the others
both-left : (left right : List Bool) → length left ≡ length right
    → IsTrue (list_all (λ flag. flag) left) → right ≡ both left right
both-left [] [] e l = refl
both-left [] (b ∷ right) e l = absurd (omega arith)
both-left (a ∷ left) [] e l = absurd (omega arith)
both-left (true ∷ left) (b ∷ right) e l =
    ap (λ (rest : List Bool). b ∷ rest) (both-left left right (omega arith) l)
both-left (false ∷ left) (b ∷ right) e l = cc

-- and so the other way round
both-right : (left right : List Bool) → length left ≡ length right
    → IsTrue (list_all (λ flag. flag) right) → left ≡ both left right
both-right [] [] e r = refl
both-right [] (b ∷ right) e r = absurd (omega arith)
both-right (a ∷ left) [] e r = absurd (omega arith)
both-right (true ∷ left) (true ∷ right) e r =
    ap (λ (rest : List Bool). true ∷ rest) (both-right left right (omega arith) r)
both-right (false ∷ left) (true ∷ right) e r =
    ap (λ (rest : List Bool). false ∷ rest) (both-right left right (omega arith) r)
both-right (a ∷ left) (false ∷ right) e r = cc

-- the flags of both masks are the flags of both lists
HasFlags-of_both : (left right : Option (List Bool)) (xs ys : List Bool) → length xs ≡ length ys
    → HasFlags left xs → HasFlags right ys → HasFlags (flags_of_both left right) (both xs ys)
HasFlags-of_both None None xs ys e l r = both-all xs ys l r
HasFlags-of_both None (Some mask) xs ys e l r = r ∙ both-left xs ys e l
HasFlags-of_both (Some mask) None xs ys e l r = l ∙ both-right xs ys e r
HasFlags-of_both (Some mask) (Some other) xs ys e l r = rw (l, r) refl

-- the mask of an array tells which of its slots are valid
pub HasFlags-array : (a : PrimitiveParts) (mask : Option (List Bool)) → mask ≡ a.validity
    → IsMaskOf a.validity (row_count (column_of a)) → HasFlags mask (map is_some (slots_of a))
HasFlags-array a mask is fits =
    rw is (HasFlags-slots a.values a.validity (rw (row_count-values a) at fits))

-- slots of which none is counted as null are all valid
pub all_valid-uncounted : (slots : List (Option (List ℤ))) → null_count_of (map slot_cell slots) ≡ 0
    → IsTrue (list_all (λ flag. flag) (map is_some slots))
all_valid-uncounted [] e = refl
all_valid-uncounted (None ∷ slots) e = absurd (omega arith)
all_valid-uncounted (Some [] ∷ slots) e = all_valid-uncounted slots e
all_valid-uncounted (Some (n ∷ []) ∷ slots) e = all_valid-uncounted slots e
all_valid-uncounted (Some (n ∷ m ∷ ns) ∷ slots) e = all_valid-uncounted slots e

-- masks of two lists of slots of one length have one length
pub HaveOneLength-slots : {X Y : Type 0} (xs : List (Option X)) (ys : List (Option Y))
    (left right : Option (List Bool)) → HasFlags left (map is_some xs)
    → HasFlags right (map is_some ys) → length xs ≡ length ys → HaveOneLength left right
HaveOneLength-slots xs ys None right l r e = tt
HaveOneLength-slots xs ys (Some flags) None l r e = tt
HaveOneLength-slots xs ys (Some flags) (Some others) l r e =
    ap length l ∙ length-map xs is_some ∙ e ∙ sym (ap length r ∙ length-map ys is_some)

-- the flags of both masks tell which rows are valid
pub HasFlags-zipped : {X Y : Type 0} (xs : List (Option X)) (ys : List (Option Y))
    (left right mask : Option (List Bool)) → HasFlags left (map is_some xs)
    → HasFlags right (map is_some ys) → length xs ≡ length ys → mask ≡ flags_of_both left right
    → HasFlags mask (map is_some (zipped_slots xs ys))
HasFlags-zipped xs ys left right mask l r e is =
    let same : length (map is_some xs) ≡ length (map is_some ys) = length-map xs is_some ∙ e
    ∙ sym (length-map ys is_some) in
    rw (is, is_some-zipped xs ys)
    (HasFlags-of_both left right (map is_some xs) (map is_some ys) same l r)

-- as many slots as rows
pub slots-rows : (a b : PrimitiveParts) → row_count (column_of a) ≡ row_count (column_of b)
    → length (slots_of a) ≡ length (slots_of b)
slots-rows a b e = sym (length-map (slots_of a) slot_cell) ∙ e ∙ length-map (slots_of b) slot_cell
