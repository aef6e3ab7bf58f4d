-- What the laws of totals rest on.
use Rattle.std.proofs.Common.{◌≡◌, ℤ, pos, ◌+ℤ◌, Bool, true, false, cond}
use Rattle.std.proofs.Common.{List, [], ◌∷◌, ◌++◌, refl, sym, ap, ap₂, ◌∙◌, arith}
use Rattle.std.specs.Prelude.{◌||◌}
use Rattle.std.proofs.lemmas.Int.{ints}
use Rattle.col_model.specs.Cell.{Cell, null, whole, truth, parts, octets, list}
use Rattle.col_model.specs.Whole.{WholeType}
use Rattle.col_model.specs.Whole.{wrapped_number}
use Rattle.col_reduce.specs.Laws.{joined_totals, valid_cells}
use Rattle.col_reduce.specs.Total.{exact_total, has_value, total_of}
use Rattle.col_reduce.proofs.MaskLemmas.{exact_total-append, exact_total-none, has_value-append}
use Rattle.col_reduce.proofs.SumLemmas.{wrapped-add, wrapped-add_right}

-- the cells that are not null have the same sum
exact_total-valid : (cells : List Cell) → exact_total cells ≡ exact_total (valid_cells cells)
exact_total-valid [] = refl
exact_total-valid (null ∷ cells) = exact_total-valid cells
exact_total-valid (whole n ∷ cells) = ap (λ (m : ℤ). n +ℤ m) (exact_total-valid cells)
exact_total-valid (truth b ∷ cells) = exact_total-valid cells
exact_total-valid (parts ns ∷ cells) = exact_total-valid cells
exact_total-valid (octets bs ∷ cells) = exact_total-valid cells
exact_total-valid (list es ∷ cells) = exact_total-valid cells

-- and one of them has a value exactly where one of all has
has_value-valid : (cells : List Cell) → has_value cells ≡ has_value (valid_cells cells)
has_value-valid [] = refl
has_value-valid (null ∷ cells) = has_value-valid cells
has_value-valid (whole n ∷ cells) = refl
has_value-valid (truth b ∷ cells) = refl
has_value-valid (parts ns ∷ cells) = refl
has_value-valid (octets bs ∷ cells) = refl
has_value-valid (list es ∷ cells) = refl

-- nulls count for nothing
pub total_of-valid : (t : WholeType) (cells : List Cell)
    → total_of t cells ≡ total_of t (valid_cells cells)
total_of-valid t cells =
    ap₂ (λ (some : Bool) (n : ℤ). cond some (whole (wrapped_number t n)) null)
    (has_value-valid cells) (exact_total-valid cells)

-- the wrapped sum of two wrapped sums
wrapped-both : (t : WholeType) (a b : ℤ)
    → wrapped_number t (a +ℤ b)
    ≡ wrapped_number t (wrapped_number t a +ℤ wrapped_number t b)
wrapped-both t a b =
    sym (wrapped-add t a (wrapped_number t b) ∙ wrapped-add_right t a b)

-- the totals of parts, by whether each has a value
parts-join : (t : WholeType) (p q : Bool) (a b : ℤ) → (p ≡ false → a ≡ pos 0)
    → (q ≡ false → b ≡ pos 0)
    → cond (p || q) (whole (wrapped_number t (a +ℤ b))) null
    ≡ joined_totals t (cond p (whole (wrapped_number t a)) null)
    (cond q (whole (wrapped_number t b)) null)
parts-join t true true a b h k = ap whole (wrapped-both t a b)
parts-join t true false a b h k =
    let none : b ≡ pos 0 = k refl in
    let same : a +ℤ b ≡ a = omega (arith, ints) in
    ap (λ (n : ℤ). whole (wrapped_number t n)) same
parts-join t false true a b h k =
    let none : a ≡ pos 0 = h refl in
    let same : a +ℤ b ≡ b = omega (arith, ints) in
    ap (λ (n : ℤ). whole (wrapped_number t n)) same
parts-join t false false a b h k = refl

-- the totals of the parts of a list make its total
pub total_of-append : (t : WholeType) (upper lower : List Cell)
    → total_of t (upper ++ lower) ≡ joined_totals t (total_of t upper) (total_of t lower)
total_of-append t upper lower =
    ap₂ (λ (some : Bool) (n : ℤ). cond some (whole (wrapped_number t n)) null)
    (has_value-append upper lower) (exact_total-append upper lower)
    ∙ parts-join t (has_value upper) (has_value lower) (exact_total upper) (exact_total lower)
    (exact_total-none upper) (exact_total-none lower)
