use Rattle.std.proofs.Common.{◌≡◌, zero, suc, ℤ, Bool, true, false, List, [], ◌∷◌}
use Rattle.std.proofs.Common.{Result, Ok, Err, refl, sym, ◌∙◌}
use Rattle.col_model.specs.Cell.{Cell, null, whole, Cause}
use Rattle.col_model.specs.Whole.{WholeType}
use Rattle.col_model.specs.WholeStep.{Operation, Form, checked, before}
use Rattle.col_model.specs.WholeStep.{is_by_zero, is_fitting_result, whole_step}
use Rattle.col_basic.specs.Laws.{CheckedSlotsAreThoseOfOtherForms}
use Rattle.col_basic.proofs.StepLemmas.{step-by_zero, step-fitting, step-unfit}
use Rattle.col_basic.proofs.laws.valid_checked_slots_are_those_of_other_forms.Goals as goal

-- a null is no whole number
null_not_whole : {P : Type 0} (r : Result Cell Cause) (n : ℤ) → r ≡ Ok null → r ≡ Ok (whole n) → P
null_not_whole r n h g = absurd cc

-- one step, by the tests
by_tests : (operation : Operation) (form : Form) (t : WholeType) (a b n : ℤ) (zero fits : Bool)
    → is_by_zero operation b ≡ zero → is_fitting_result operation t a b ≡ fits
    → whole_step operation checked t (whole a) (whole b) ≡ Ok (whole n)
    → whole_step operation form t (whole a) (whole b) ≡ Ok (whole n)
by_tests operation form t a b n true fits z f h =
    null_not_whole _ n (step-by_zero operation checked t a b z) h
by_tests operation form t a b n false false z f h =
    null_not_whole _ n (step-unfit operation checked t a b z f) h
by_tests operation form t a b n false true z f h =
    step-fitting operation form t a b z f ∙ sym (step-fitting operation checked t a b z f) ∙ h

-- one step that gives a number in the checked form gives it in each form
one_step : (operation : Operation) (form : Form) (t : WholeType) (x y : Cell) (n : ℤ)
    → whole_step operation checked t x y ≡ Ok (whole n)
    → whole_step operation form t x y ≡ Ok (whole n)
one_step operation form t (whole a) (whole b) n h =
    by_tests operation form t a b n _ _ refl refl h
one_step operation form t (whole a) _ n h = null_not_whole _ n refl h
one_step operation form t _ y n h = null_not_whole _ n refl h

-- the first cell of all, and the others
record Opened (r : Result Cell Cause) (rest : Result (List Cell) Cause) (cells : List Cell)
    : Type 0 where
  first : Cell
  others : List Cell
  is_first : r ≡ Ok first
  are_others : rest ≡ Ok others
  all : cells ≡ first ∷ others

-- it can be told from all of them
opened : (r : Result Cell Cause) (rest : Result (List Cell) Cause) (cells : List Cell)
    → before r rest ≡ Ok cells → Opened r rest cells
opened (Ok x) (Ok xs) cells h =
    record { first = x; others = xs; is_first = refl; are_others = refl; all = cc }
opened (Ok x) (Err cause) cells h = cc
opened (Err cause) rest cells h = cc

-- the first row by one step, the others by induction
law : CheckedSlotsAreThoseOfOtherForms
law operation form t [] right cells others row n h g e =
    let none : cells ≡ [] = cc in let past = rw none at e in cc
law operation form t (x ∷ left) [] cells others row n h g e =
    let none : cells ≡ [] = cc in let past = rw none at e in cc
law operation form t (x ∷ left) (y ∷ right) cells others zero n h g e =
    let mine = opened (whole_step operation checked t x y) _ cells h in
    let other = opened (whole_step operation form t x y) _ others g in
    let number : mine.first ≡ whole n = let first = rw mine.all at e in cc in
    let same = one_step operation form t x y n (rw number at mine.is_first) in
    let answer : other.first ≡ whole n = let first = other.is_first in cc in
    rw (other.all, answer) refl
law operation form t (x ∷ left) (y ∷ right) cells others (suc row) n h g e =
    let mine = opened (whole_step operation checked t x y) _ cells h in
    let other = opened (whole_step operation form t x y) _ others g in
    let here = rw mine.all at e in
    rw other.all
    (law operation form t left right _ _ row n mine.are_others other.are_others here)

pub returns : goal.returns
returns c = law
