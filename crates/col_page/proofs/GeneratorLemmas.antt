-- The rows of a made table, and that no tree over it refuses one.
use Rattle.std.proofs.Common.{◌≡◌, ℕ, ◌+◌, ◌-◌, ◌/◌, ◌^◌, ◌<◌, Bool, true, false, List, []}
use Rattle.std.proofs.Common.{◌∷◌, ◌++◌, map, Option, Some, None, Result, Ok, Err, ℤ, pos}
use Rattle.std.proofs.Common.{refl, sym, ◌∙◌, inl, inr, arith, zero-add, lit<, rules}
use Rattle.std.specs.Prelude.{is_err, IsOk, slice_index_or, int_div, option_map}
use Rattle.std.specs.Int.{Width, w64}
use Rattle.std.specs.List.{range_with_len}
use Rattle.std.proofs.lemmas.Bool.Decides.{Decides-ltb}
use Rattle.std.proofs.lemmas.Int.{ints, quot_fits}
use mir.Val.{bits}
use Rattle.std.proofs.lemmas.List.{map-append}
use Rattle.std.proofs.lemmas.List.FromFn.{get_or-map-range_with_len, map-range_with_len_more}
use Rattle.std.proofs.lemmas.List.FromFn.{length-map-range_with_len}
use Rattle.col_model.specs.Cell.{Cell, null, whole}
use Rattle.col_model.specs.Whole.{WholeType, signed, unsigned, is_fitting}
use Rattle.col_model.specs.WholeStep.{Operation, division, multiplication, subtraction, Form, plain}
use Rattle.col_model.specs.WholeStep.{checked, wrapping, saturating, exact_result, formed}
use Rattle.col_model.specs.WholeStep.{is_by_zero, is_fitting_result, overflow_answer, whole_step}
use Rattle.col_basic.specs.Laws.{IsNullOrFits}
use Rattle.col_basic.proofs.FormLemmas.{typed_step}
use Rattle.col_types.specs.Column.{Column, row_at}
use Rattle.col_types.specs.DataKind.{DataKind}
use Rattle.col_types.specs.DataKind as kind
use Rattle.col_flat.specs.Parts.{slot_cell}
use Rattle.col_array.specs.Any.{any_column}
use Rattle.col_array.specs.declared.any.AnyArray.{AnyArray}
use Rattle.col_reduce.specs.Total.{summed_type}
use Rattle.col_types.specs.declared.error.Error.{Error}
use Rattle.col_eval.specs.declared.expr.Op.TheVariants.{CheckedMul, Div, SaturatingSub, WrappingMul}
use Rattle.col_eval.specs.Tree.{Tree, column, literal, step}
use Rattle.col_eval.specs.Typing.{typing_of}
use Rattle.col_eval.specs.Meaning.{cell, row_meaning, RowsAnswer, all_cells, refusal, rows_meaning}
use Rattle.col_eval.specs.Meaning.{typed_rows}
use Rattle.col_eval.proofs.RowLemmas.{unrefused_column}
use Rattle.col_document.proofs.NumberTextLemmas.{Decides-is_fitting, is_fitting-below}
use Rattle.col_page.specs.Generator.{first_cell, second_cell, third_cell, made_table, made_trees}
use Rattle.col_page.specs.Generator.{made_document, number_cell}
use Rattle.col_page.specs.Page.{HasLines}
use Rattle.col_page.specs.Sums.{has_error_sum, sum_of_tree, summed, total_text}

-- the number of a slot as a cell
pub number_slot : (o : Option ℤ) → slot_cell (option_map (λ n. n ∷ []) o) ≡ number_cell o
number_slot None = refl
number_slot (Some n) = refl

-- one more row of a column
pub cells-next : (f : ℕ → Cell) (slots more : List (Option (List ℤ))) (slot : Option (List ℤ))
    (n : ℕ) → map slot_cell slots ≡ map f (range_with_len 0 n) → more ≡ slots ++ slot ∷ []
    → slot_cell slot ≡ f n → map slot_cell more ≡ map f (range_with_len 0 (n + 1))
cells-next f slots more slot n done added here =
    rw (added, map-append, done, here) (sym (map-range_with_len_more f 0 n n (zero-add n)))

-- the columns of so many rows, one pushed behind another
pub columns-made : (n row : ℕ) (none one two three : List AnyArray) (a b d : AnyArray)
    (first second third : List (Option (List ℤ)))
    → none ≡ [] → one ≡ none ++ a ∷ [] → two ≡ one ++ b ∷ [] → three ≡ two ++ d ∷ []
    → any_column a ≡ record { data_type = kind.int64; cells = map slot_cell first }
    → any_column b ≡ record { data_type = kind.int64; cells = map slot_cell second }
    → any_column d ≡ record { data_type = kind.uint64; cells = map slot_cell third }
    → map slot_cell first ≡ map first_cell (range_with_len 0 row)
    → map slot_cell second ≡ map second_cell (range_with_len 0 row)
    → map slot_cell third ≡ map third_cell (range_with_len 0 row)
    → row ≡ n → map any_column three ≡ made_table n
columns-made n row none one two three a b d first second third empty pa pb pd ca cb cd fa fb fd e =
    rw (pd, pb, pa, empty, ca, cb, cd, fa, fb, fd, e) refl

-- the cell of a made column at a row
made_cell : (f : ℕ → Cell) (n row : ℕ) → row < n
    → slice_index_or (map f (range_with_len 0 n)) row null ≡ f row
made_cell f n row h = get_or-map-range_with_len f 0 n row row null h (zero-add row)

-- the cells of a made table at a row
made_row : (n row : ℕ) → row < n
    → row_at (made_table n) row ≡ first_cell row ∷ second_cell row ∷ third_cell row ∷ []
made_row n row h =
    rw (made_cell first_cell n row h, made_cell second_cell n row h, made_cell third_cell n row h)
    refl

-- a quotient of a number of a type with a sign by one above 0 is one of the type
quotient-fits : (w : Width) (n : ℤ) (k : ℕ) → is_fitting (signed w) n ≡ true → 0 < k
    → is_fitting (signed w) (int_div n (pos k)) ≡ true
quotient-fits w n k e h =
    (Decides-is_fitting w (int_div n (pos k))).1
    (quot_fits w n (pos k) ((Decides-is_fitting w n).0 e)
    (first_of (omega (arith, ints), grind (arith, ints), search rules)))

-- so it is where neither has a sign
third-fits : (w : Width) (n : ℕ) → n < 2 ^ bits w → is_fitting (unsigned w) (pos (n / 3)) ≡ true
third-fits w n h = is_fitting-below w (n / 3) ∙ (Decides-ltb (n / 3) (2 ^ bits w)).1 (omega arith)

-- a hundredth of a null, or of a number of 64 bits with a sign, is a cell
hundredth : (p : Cell) → IsNullOrFits (signed w64) p
    → (c : Cell) × (whole_step division plain (signed w64) p (whole (pos 100)) ≡ Ok c)
hundredth p (inl e) = (null, rw e refl)
hundredth p (inr h) =
    (whole (int_div h.0 (pos 100)), rw (h.1.0, quotient-fits w64 h.0 100 h.1.1 (lit< tt)) refl)

-- a third of a number of the third column is a cell
third : (row : ℕ) → (c : Cell)
    × (whole_step division plain (unsigned w64) (third_cell row) (whole (pos 3)) ≡ Ok c)
third row =
    let fits = third-fits w64 (2 ^ 64 - 1 - row) (omega arith) in
    (whole (pos ((2 ^ 64 - 1 - row) / 3)), rw fits refl)

-- an exact number is a cell in a form that gives one where it does not fit
formed_cell : (form : Form) (t : WholeType) (fits : Bool) (n : ℤ)
    → ((m : ℤ) → (c : Cell) × (overflow_answer form t m ≡ Ok c))
    → (c : Cell) × (formed form t fits n ≡ Ok c)
formed_cell form t true n over = (whole n, refl)
formed_cell form t false n over = over n

-- a step that has a result for any two numbers gives a cell in such a form
total_cell : (operation : Operation) (form : Form) (t : WholeType)
    → ((n : ℤ) → is_by_zero operation n ≡ false)
    → ((m : ℤ) → (c : Cell) × (overflow_answer form t m ≡ Ok c))
    → (a b : Cell) → (c : Cell) × (whole_step operation form t a b ≡ Ok c)
total_cell operation form t some over (whole m) (whole n) =
    let made = formed_cell form t (is_fitting_result operation t m n) (exact_result operation m n)
    over in
    (made.0, rw (some n) made.1)
total_cell operation form t some over (whole m) _ = (null, refl)
total_cell operation form t some over _ b = (null, refl)

-- the types of the columns of a made table
abbrev pub made_types : List DataKind
made_types = kind.int64 ∷ kind.int64 ∷ kind.uint64 ∷ []

-- a tree gives a cell for a row of any two cells in the first columns
abbrev pub GivesCells : Tree → Type 0
GivesCells tree = (a b : Cell) (row : ℕ)
    → (c : Cell) × (row_meaning tree made_types (a ∷ b ∷ third_cell row ∷ []) ≡ cell c)

-- the trees, in their order
hundredths : GivesCells
    (step Div (step CheckedMul (column 0) (column 1)) (literal kind.int64 (whole (pos 100))))
hundredths a b row =
    let p = total_cell multiplication checked (signed w64) (λ n. refl) (λ n. (null, refl)) a b in
    let q = hundredth p.0 (typed_step multiplication checked (signed w64) a b p.0 p.1) in
    (q.0, rw (p.1, q.1) refl)

squares : GivesCells (step WrappingMul (column 2) (column 2))
squares a b row =
    let p = total_cell multiplication wrapping (unsigned w64) (λ n. refl) (λ n. (_, refl))
    (third_cell row) (third_cell row) in
    (p.0, rw p.1 refl)

thirds : GivesCells (step Div (column 2) (literal kind.uint64 (whole (pos 3))))
thirds a b row = let p = third row in (p.0, rw p.1 refl)

differences : GivesCells (step SaturatingSub (column 0) (column 1))
differences a b row =
    let p = total_cell subtraction saturating (signed w64) (λ n. refl) (λ n. (_, refl)) a b in
    (p.0, rw p.1 refl)

-- a column of a type that is summed has a total
summed_rows : (typed : Result DataKind Error) (rows : RowsAnswer) (t : DataKind) (w : WholeType)
    → typed ≡ Ok t → summed_type t ≡ Some w → IsOk (typed_rows typed rows)
    → is_err (summed (typed_rows typed rows)) ≡ false
summed_rows (Err e) rows t w typed numbers ok = cc
summed_rows (Ok s) (all_cells cells) t w typed numbers ok =
    let same : summed_type s ≡ Some w = cc in
    rw same refl
summed_rows (Ok s) (refusal number cause) t w typed numbers ok = absurd cc

-- where a tree has a type that is summed, and gives a cell for each row, it has a sum
summed_tree : (tree : Tree) (n : ℕ) (t : DataKind) (w : WholeType)
    → typing_of tree made_types ≡ Ok t → summed_type t ≡ Some w → GivesCells tree
    → is_err (sum_of_tree tree (made_table n)) ≡ false
summed_tree tree n t w typed numbers gives =
    summed_rows (typing_of tree made_types) (rows_meaning tree (made_table n)) t w typed numbers
    (unrefused_column tree (made_table n) (rw typed refl) (λ row number cause below refused.
    let small : row < n = rw length-map-range_with_len at below in
    let given = gives (first_cell row) (second_cell row) row in
    let here = rw (made_row n row small) at refused in
    cc))

-- no sum over a made table is refused
pub no_refused_sum : (n : ℕ) → has_error_sum (made_document n) ≡ false
no_refused_sum n =
    rw (
      summed_tree _ n kind.int64 (signed w64) refl refl hundredths,
      summed_tree _ n kind.uint64 (unsigned w64) refl refl squares,
      summed_tree _ n kind.uint64 (unsigned w64) refl refl thirds,
      summed_tree _ n kind.int64 (signed w64) refl refl differences,
    ) refl

-- none of the lines of the trees over a made table is an error line
pub no_error-made : (n : ℕ) (table : List Column) (trees : List Tree) (old new : List ℕ)
    (has_error : Bool) → HasLines total_text sum_of_tree table trees old new has_error
    → table ≡ made_table n → trees ≡ made_trees → has_error ≡ false
no_error-made n table trees old new has_error done is_table is_trees =
    rw (done.error, is_table, is_trees) (no_refused_sum n)
