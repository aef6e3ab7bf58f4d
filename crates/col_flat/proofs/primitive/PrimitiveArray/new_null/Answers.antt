use Rattle.std.proofs.Common.{◌≡◌, length, map, rules, arith}
use Rattle.std.proofs.lemmas.List.{length-map}
use Rattle.std.proofs.lemmas.Result.{IfOk-weaker}
use Rattle.col_flat.proofs.PartsLemmas.{column-cells, masked_slots-replicate}
use Rattle.col_flat.proofs.RefusalLemmas.{ButForMemory-held}
use Rattle.col_flat.proofs.primitive.PrimitiveArray.new_null.Goals as goal

pub returns-clause-range : goal.returns-clause-range
returns-clause-range g c =
    ButForMemory-held c.from_flags.result _ _
    (rw c.as_slice.ensures.value
    (omega (arith, c.in_ok-values.ensures.len, c.in_ok-flags.ensures.len)))
    c.from_flags.ensures.range

pub returns-clause-value : goal.returns-clause-value
returns-clause-value g c =
    let values = map g.T.NativeType.numbers c.in_ok-values.values.items in
    let count : length values ≡ c.args.length =
    rw length-map (omega (arith, c.in_ok-values.ensures.len)) in
    let flags = c.in_ok-flags.ensures.items_if_clones_equal (λ y k. search rules) in
    IfOk-weaker c.from_flags.result _ _ (λ array column.
    column-cells array _ _ _ column
    (rw (c.as_slice.ensures.value, flags)
    (masked_slots-replicate values c.args.length count)))
    c.from_flags.ensures.value
