use Rattle.std.proofs.Common.{◌≡◌, ◌^◌, pos, FitsSigned, rules}
use Rattle.std.specs.Int.{w128, w64}
use Rattle.col_decimal.proofs.DecimalLemmas.{power_fits, quotient_worked}
use Rattle.col_decimal.proofs.bounds.Bounds.unscaled.Goals as goal

pub nonzero_div-n : goal.nonzero_div-n
nonzero_div-n c =
    let n = c.in-Ok-Ok.n in
    let power = c.in-Ok-Ok.power in
    let fits : FitsSigned w64 n = search rules in
    let power_small : FitsSigned w64 power = search rules in
    let same : power ≡ pos (10 ^ c.args.self.scale) = search rules in
    quotient_worked w64 n power c.args.self.scale fits power_small same

pub nonzero_div-result : goal.nonzero_div-result
nonzero_div-result c =
    let bounds = c.args.self in
    let fits : FitsSigned w128 bounds.power =
    rw bounds.is_power (power_fits bounds.scale bounds.low) in
    quotient_worked w128 c.args.n bounds.power bounds.scale c.ranges.n fits bounds.is_power
