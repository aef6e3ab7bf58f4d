use Rattle.std.proofs.Common.{◌∙◌, ap}
use Rattle.std.specs.Prelude.{not}
use Rattle.col_basic.proofs.StepLemmas.{flag_step}
use Rattle.col_basic.proofs.kernels.overflowing_number.Goals as goal

pub returns-clause-flag : goal.returns-clause-flag
returns-clause-flag g c =
    let b = g.T.NativeWhole.value c.args.b in
    ap not c.is_some-fits.ensures
    ∙ flag_step g.T.NativeWhole.value g.O.Operator.operation g.T.NativeWhole.whole_type
    (g.T.NativeWhole.value c.args.a) b c.checked.result (g.met.O.TotalOperator.total_law b)
    c.checked.ensures
