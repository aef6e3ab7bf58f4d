use Rattle.std.proofs.Common.{◌≡◌, ◌-◌, ◌*◌, ◌≤◌, ◌∙◌, ap, arith, drop, length, length-drop}
use Rattle.std.proofs.Common.{min, take}
use Rattle.std.proofs.lemmas.List.{take-take, take_min}
use Rattle.col_reduce.proofs.aggregate.masked.chunk_of.Goals as goal

pub returns : goal.returns
returns g c =
    let values = c.args.values.now in
    let rest = drop (64 * c.args.i) values in
    let size = length-drop (64 * c.args.i) values in
    let short : c.min.result ≤ length values - 64 * c.args.i = omega arith in
    let count : c.min.result ≡ min 64 (length rest) = omega (arith, size) in
    take-take c.min.result (length values - 64 * c.args.i) rest short
    ∙ ap (λ n. take n rest) count ∙ take_min 64 rest
