use Rattle.std.proofs.Common.{◌∙◌, Ok, ap, sym}
use Rattle.col_model.specs.Cell.{whole}
use Rattle.col_model.specs.WholeStep.{exact_result, saturating}
use Rattle.col_basic.proofs.StepLemmas.{total_step}
use Rattle.col_basic.proofs.FormLemmas.{nearest-fitting}
use Rattle.col_basic.proofs.kernels.SaturatingTotalForm.number.Goals as goal

pub returns : goal.returns
returns g c =
    let operation = g.O.Operator.operation in
    let t = g.T.NativeWhole.whole_type in
    let a = g.T.NativeWhole.value c.args.a in
    let b = g.T.NativeWhole.value c.args.b in
    total_step operation saturating t a b _ (g.met.O.TotalOperator.total_law b)
    (g.met.O.TotalOperator.fitting_law t a b)
    (λ f. c.clamped.ensures ∙ nearest-fitting t (exact_result operation a b) f)
    (ap (λ n. Ok (whole n)) (sym c.clamped.ensures))
