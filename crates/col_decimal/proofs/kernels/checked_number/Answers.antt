use Rattle.std.specs.Int.{w128}
use Rattle.std.proofs.lemmas.Int.{to_z-of_z}
use Rattle.col_decimal.proofs.StepLemmas.{step-checked}
use Rattle.col_decimal.proofs.kernels.checked_number.Goals as goal

pub returns : goal.returns
returns g c =
    let passed = to_z-of_z w128 c.args.a c.ranges.a in
    let other = to_z-of_z w128 c.args.b c.ranges.b in
    let found = rw (passed, other) at c.checked.ensures in
    step-checked g.O.DecimalOperator.operation c.args.bounds.precision c.args.bounds.scale
    c.args.a c.args.b c.checked.result found
