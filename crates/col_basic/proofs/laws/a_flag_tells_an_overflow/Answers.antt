use Rattle.std.proofs.Common.{◌≡◌, Bool, true, false, ℤ, refl}
use Rattle.col_model.specs.Cell.{Cell, whole}
use Rattle.col_model.specs.Whole.{WholeType}
use Rattle.col_model.specs.WholeStep.{Operation, is_by_zero, is_fitting_result, is_flagged}
use Rattle.col_basic.specs.Laws.{FlagTellsOverflow, Overflows}
use Rattle.col_basic.proofs.laws.a_flag_tells_an_overflow.Goals as goal

flagged : (operation : Operation) (t : WholeType) (a b : ℤ) (zero fits : Bool)
    → is_by_zero operation b ≡ zero → is_fitting_result operation t a b ≡ fits
    → is_flagged operation t (whole a) (whole b) ≡ true
    → Overflows operation t (whole a) (whole b)
flagged operation t a b false false z f h =
    record { a = a; b = b; left = refl; right = refl; has_result = z; unfit = f }
flagged operation t a b true fits z f h = let flag = rw z at h in cc
flagged operation t a b false true z f h = let flag = rw (z, f) at h in cc

told : (operation : Operation) (t : WholeType) (x y : Cell) → is_flagged operation t x y ≡ true
    → Overflows operation t x y
told operation t (whole a) (whole b) h = flagged operation t a b _ _ refl refl h
told operation t (whole a) _ h = cc
told operation t _ y h = cc

law : FlagTellsOverflow
law operation t x y =
    (told operation t x y, λ o. rw (o.left, o.right, o.has_result, o.unfit) refl)

pub returns : goal.returns
returns c = law
