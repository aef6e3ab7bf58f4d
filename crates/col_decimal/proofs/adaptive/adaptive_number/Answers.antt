use Rattle.std.proofs.Common.{FitsSigned, rules}
use Rattle.std.specs.Int.{w128}
use Rattle.std.proofs.lemmas.Int.{to_z-of_z}
use Rattle.col_decimal.proofs.AdaptiveLemmas.{step-brought, step-not_brought}
use Rattle.col_decimal.proofs.adaptive.adaptive_number.Goals as goal

pub returns-in-Some : goal.returns-in-Some
returns-in-Some g c =
    let scales = c.args.scales in
    let passed = to_z-of_z w128 c.args.a c.ranges.a in
    let other = to_z-of_z w128 c.args.b c.ranges.b in
    let brought = rw (passed, other) at c.in-Some.ensures in
    let left : FitsSigned w128 c.in-Some.left = search rules in
    let right : FitsSigned w128 c.in-Some.right = search rules in
    let number =
    rw (
      scales.digits,
      scales.larger,
      to_z-of_z w128 c.in-Some.left left,
      to_z-of_z w128 c.in-Some.right right,
    ) at c.refusing_number.ensures in
    step-brought g.O.DecimalOperator.operation scales.left scales.right c.args.a c.args.b
    (c.in-Some.left, c.in-Some.right) _ brought number

pub returns-in-None : goal.returns-in-None
returns-in-None g c =
    let passed = to_z-of_z w128 c.args.a c.ranges.a in
    let other = to_z-of_z w128 c.args.b c.ranges.b in
    let none = rw (passed, other) at c.in-None.ensures in
    let unfit = rw other at c.unfit.ensures in
    step-not_brought g.O.DecimalOperator.operation c.args.scales.left c.args.scales.right
    c.args.a c.args.b c.args.scales.bounds.precision _ none unfit
