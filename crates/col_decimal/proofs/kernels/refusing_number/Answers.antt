use Rattle.std.proofs.Common.{FitsSigned, rules}
use Rattle.std.specs.Int.{w128}
use Rattle.std.proofs.lemmas.Int.{to_z-of_z}
use Rattle.col_decimal.proofs.StepLemmas.{step-found, step-unfit}
use Rattle.col_decimal.proofs.kernels.refusing_number.Goals as goal

pub returns-in-Some : goal.returns-in-Some
returns-in-Some g c =
    let fits : FitsSigned w128 c.in-Some.number = search rules in
    let passed = to_z-of_z w128 c.args.a c.ranges.a in
    let other = to_z-of_z w128 c.args.b c.ranges.b in
    let found = rw (passed, other) at c.in-Some.ensures in
    rw (to_z-of_z w128 c.in-Some.number fits)
    (step-found g.O.DecimalOperator.operation c.args.bounds.precision c.args.bounds.scale
    c.args.a c.args.b g.F.RefusingForm.form c.in-Some.number found)

pub returns-in-None : goal.returns-in-None
returns-in-None g c =
    let passed = to_z-of_z w128 c.args.a c.ranges.a in
    let other = to_z-of_z w128 c.args.b c.ranges.b in
    let none = rw (passed, other) at c.in-None.ensures in
    let unfit = rw (passed, other) at c.unfit.ensures in
    rw (step-unfit g.O.DecimalOperator.operation c.args.bounds.precision c.args.bounds.scale
    c.args.a c.args.b g.F.RefusingForm.form none)
    unfit
