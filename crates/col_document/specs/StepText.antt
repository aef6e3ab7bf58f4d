-- The names of steps, as documents give them.
use Rattle.std.specs.Prelude.{ℕ, List, [], ◌∷◌, codes}
use Rattle.col_eval.specs.declared.expr.Op.{Op}
use Rattle.col_eval.specs.declared.expr.Op.TheVariants.{Add, WrappingAdd, CheckedAdd}
use Rattle.col_eval.specs.declared.expr.Op.TheVariants.{SaturatingAdd, Sub, WrappingSub, CheckedSub}
use Rattle.col_eval.specs.declared.expr.Op.TheVariants.{SaturatingSub, Mul, WrappingMul, CheckedMul}
use Rattle.col_eval.specs.declared.expr.Op.TheVariants.{SaturatingMul, Div, CheckedDiv, Rem}
use Rattle.col_eval.specs.declared.expr.Op.TheVariants.{CheckedRem}

-- the name of a step
abbrev pub step_text : Op → List ℕ
step_text Add = codes "add"
step_text WrappingAdd = codes "wrapping_add"
step_text CheckedAdd = codes "checked_add"
step_text SaturatingAdd = codes "saturating_add"
step_text Sub = codes "sub"
step_text WrappingSub = codes "wrapping_sub"
step_text CheckedSub = codes "checked_sub"
step_text SaturatingSub = codes "saturating_sub"
step_text Mul = codes "mul"
step_text WrappingMul = codes "wrapping_mul"
step_text CheckedMul = codes "checked_mul"
step_text SaturatingMul = codes "saturating_mul"
step_text Div = codes "div"
step_text CheckedDiv = codes "checked_div"
step_text Rem = codes "rem"
step_text CheckedRem = codes "checked_rem"

-- the steps that documents name
abbrev pub named_steps : List Op
named_steps =
    Add
    ∷ WrappingAdd
    ∷ CheckedAdd
    ∷ SaturatingAdd
    ∷ Sub
    ∷ WrappingSub
    ∷ CheckedSub
    ∷ SaturatingSub
    ∷ Mul
    ∷ WrappingMul
    ∷ CheckedMul
    ∷ SaturatingMul
    ∷ Div
    ∷ CheckedDiv
    ∷ Rem
    ∷ CheckedRem
    ∷ []
