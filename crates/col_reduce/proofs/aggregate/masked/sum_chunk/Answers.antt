use Rattle.std.proofs.Common.{◌∙◌, ◌≤◌, ap, arith, length, map, sym}
use Rattle.std.proofs.lemmas.List.{length-map}
use Rattle.col_model.specs.Whole.{wrapped_number}
use Rattle.col_reduce.specs.Chosen.{chosen_sum}
use Rattle.col_reduce.proofs.MaskLemmas.{chosen_sum-full}
use Rattle.col_reduce.proofs.aggregate.masked.sum_chunk.Goals as goal

pub returns-then-chosen-eq18446744073709551615 : goal.returns-then-chosen-eq18446744073709551615
returns-then-chosen-eq18446744073709551615 g c =
    let numbers = map g.T.NativeWhole.value c.args.values.now in
    let short : length numbers ≤ 64 =
    omega (arith, c.requires, length-map c.args.values.now g.T.NativeWhole.value) in
    c.sum_slice.ensures.answer
    ∙ ap (wrapped_number g.T.NativeWhole.whole_type) (sym (chosen_sum-full 64 numbers short)
    ∙ ap (chosen_sum numbers) (sym c.if-chosen-eq18446744073709551615.true))
