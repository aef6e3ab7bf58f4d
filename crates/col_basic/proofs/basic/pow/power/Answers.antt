use Rattle.std.proofs.Common.{FitsSigned, rules, to_z-of_z}
use Rattle.std.specs.Int.{int_pow, w128}
use Rattle.col_basic.proofs.UnaryLemmas.{checked_as_cell}
use Rattle.col_basic.proofs.basic.pow.power.Goals as goal

pub returns : goal.returns
returns g c =
    let base : FitsSigned w128 c.to_i128.result = search rules in
    let is = rw (to_z-of_z base, c.to_i128.ensures.value) at c.in_ok-checked_pow.ensures in
    let power : FitsSigned w128 c.in_ok-checked_pow.field-0 = search rules in
    checked_as_cell g.T.NativeWhole.value g.T.NativeWhole.whole_type
    (int_pow (g.T.NativeWhole.value c.args.a) c.args.exponent) c.in_ok-checked_pow.field-0
    c.from_i128.result is.1 (rw (to_z-of_z power) at c.from_i128.ensures)
