-- Texts of cells and lines, one after another.
use Rattle.std.proofs.Common.{◌≡◌, ℕ, ◌+◌, suc, zero, Bool, true, false, ◌||◌, List, [], ◌∷◌, ◌++◌}
use Rattle.std.proofs.Common.{◌<◌, map, take, length, arith}
use Rattle.std.proofs.Common.{slice_get, Some, refl, ap, sym, ◌∙◌, add-one, append_assoc}
use Rattle.std.specs.List.{join_with_byte, flat_map, list_any}
use Rattle.std.proofs.lemmas.List.{append-nil}
use Rattle.std.proofs.lemmas.Grind.{flat_map-append}
use Rattle.std.proofs.lemmas.List.Recursion.{or_push}
use Rattle.std.specs.Prelude.{is_err, slice_index_or, Result}
use Rattle.col_model.specs.Cell.{Cell}
use Rattle.col_types.specs.Column.{Column}
use Rattle.col_types.specs.declared.error.Error.{Error}
use Rattle.col_eval.specs.Tree.{Tree}
use Rattle.col_page.specs.Page.{HasLines, IsLine, cell_text, cells_text, comma_unless, line_by}

-- the front of a list, with what stands next
take_suc-next : {X : Type 0} (xs : List X) (i : ℕ) (x : X) → slice_get xs i ≡ Some x
    → take (suc i) xs ≡ take i xs ++ x ∷ []
take_suc-next [] i x h = cc
take_suc-next (y ∷ xs) zero x h = let e : y ≡ x = cc in rw e refl
take_suc-next {X} (y ∷ xs) (suc i) x h = ap (λ (rest : List X). y ∷ rest) (take_suc-next xs i x h)

-- the same, by the next place
take-next : {X : Type 0} (xs : List X) (i : ℕ) (x : X) → slice_get xs i ≡ Some x
    → take (i + 1) xs ≡ take i xs ++ x ∷ []
take-next xs i x h = rw add-one (take_suc-next xs i x h)

-- the cells that are left, behind the ones before them unless there are none
abbrev pub rest_text : Bool → List Cell → List ℕ
rest_text is_first [] = []
rest_text is_first (c ∷ cells) =
    comma_unless is_first ++ (cell_text c ++ rest_text false cells)

-- the cells that are left behind others, and all of them joined
join-rest : (c : Cell) (cells : List Cell)
    → join_with_byte 44 (map cell_text (c ∷ cells)) ≡ cell_text c ++ rest_text false cells
join-rest c [] = sym (append-nil (cell_text c))
join-rest c (d ∷ cells) =
    ap (λ (rest : List ℕ). cell_text c ++ (44 ∷ rest)) (join-rest d cells)

-- all cells, none of which stands behind another, joined
pub rest-first : (cells : List Cell)
    → rest_text true cells ≡ join_with_byte 44 (map cell_text cells)
rest-first [] = refl
rest-first (c ∷ cells) = sym (join-rest c cells)

-- one more cell behind a text: what is left behind both is what was left
pub rest-next : (start text after : List ℕ) (is_first : Bool) (c : Cell)
    (all before rest : List Cell)
    → before ≡ c ∷ rest → text ++ rest_text is_first before ≡ start ++ rest_text true all
    → after ≡ text ++ (comma_unless is_first ++ cell_text c)
    → after ++ rest_text false rest ≡ start ++ rest_text true all
rest-next start text after is_first c all before rest is done added =
    let whole = rw is at done in
    rw added (append_assoc text (comma_unless is_first ++ cell_text c) (rest_text false rest)
    ∙ ap (λ (t : List ℕ). text ++ t)
    (append_assoc (comma_unless is_first) (cell_text c) (rest_text false rest)) ∙ whole)

-- no cells are left, and the bracket is closed
pub cells-end : (old start text after : List ℕ) (is_first : Bool) (cells left : List Cell)
    → left ≡ [] → start ≡ old ++ 91 ∷ []
    → text ++ rest_text is_first left ≡ start ++ rest_text true cells
    → after ≡ text ++ 93 ∷ [] → after ≡ old ++ cells_text cells
cells-end old start text after is_first cells left none begun done ended =
    let whole : text ≡ (old ++ 91 ∷ []) ++ join_with_byte 44 (map cell_text cells) =
    sym (append-nil text) ∙ (rw none at done) ∙ rw (begun, rest-first cells) refl in
    ended ∙ rw whole (simp append_assoc)

-- one more line
flat_map-next : {X : Type 0} (f : X → List ℕ) (xs : List X) (i : ℕ) (x : X)
    → slice_get xs i ≡ Some x → flat_map f (take (i + 1) xs) ≡ flat_map f (take i xs) ++ f x
flat_map-next f xs i x h = rw (take-next xs i x h, flat_map-append, append-nil) refl

-- one more test
list_any-next : {X : Type 0} (p : X → Bool) (xs : List X) (i : ℕ) (x : X)
    → slice_get xs i ≡ Some x → list_any p (take (i + 1) xs) ≡ (list_any p (take i xs) || p x)
list_any-next p xs i x h =
    rw (take-next xs i x h) (or_push (list_any p) p refl (λ _ _. refl) (take i xs) x)

-- the line of the next tree
pub lines-next : {X : Type 0} (text : X → List ℕ) (answer : Tree → List Column → Result X Error)
    (table used : List Column) (trees : List Tree) (i : ℕ) (tree : Tree) (old now new : List ℕ)
    (has_error is_error : Bool)
    → HasLines text answer table (take i trees) old now has_error
    → slice_get trees i ≡ Some tree → used ≡ table
    → IsLine text (answer tree used) now new is_error
    → HasLines text answer table (take (i + 1) trees) old new (has_error || is_error)
lines-next text answer table used trees i tree old now new has_error is_error done is same line =
    record {
      lines = rw (flat_map-next (λ t. line_by text (answer t table)) trees i tree is)
          (line.text ∙ rw (same, done.lines) (append_assoc old _ _));
      error = rw (list_any-next (λ t. is_err (answer t table)) trees i tree is)
          (rw (done.error, line.kind, same) refl);
    }

-- an element at a place, as a view shows it
pub element-viewed : {X Y : Type 0} (view : X → Y) (xs : List X) (i : ℕ) (x : X) → i < length xs
    → x ≡ slice_index_or xs i x → slice_get (map view xs) i ≡ Some (view x)
element-viewed view [] i x below is = absurd (omega arith)
element-viewed view (y ∷ xs) zero x below is = ap (λ z. Some (view z)) (sym is)
element-viewed view (y ∷ xs) (suc i) x below is = element-viewed view xs i x (omega arith) is

-- three texts in brackets, joined by commas, behind a text
pub three_appended : (t a b c : List ℕ)
    → ((((t ++ 91 ∷ []) ++ a) ++ 44 ∷ b) ++ 44 ∷ c) ++ 93 ∷ [] ≡ t ++ 91 ∷
    ((a ++ 44 ∷ (b ++ 44 ∷ c)) ++ 93 ∷ [])
three_appended t a b c = simp append_assoc
