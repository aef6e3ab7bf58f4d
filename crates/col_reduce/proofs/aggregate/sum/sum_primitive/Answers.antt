use Rattle.std.proofs.Common.{◌∙◌, ap, length, sym}
use Rattle.std.proofs.lemmas.List.{length-map}
use Rattle.col_flat.proofs.PartsLemmas.{row_count-values}
use Rattle.col_flat.specs.Parts.{column_of}
use Rattle.col_types.specs.Column.{row_count}
use Rattle.col_reduce.proofs.MaskLemmas.{length-mask}
use Rattle.col_reduce.proofs.aggregate.sum.sum_primitive.Goals as goal

pub sum_masked-requires : goal.sum_masked-requires
sum_masked-requires g c =
    length-mask c.args.array.now.validity c.in-Some.mask.now
    (row_count (column_of c.args.array.now)) c.in-Some.ensures.value c.in-Some.ensures.one_length
    ∙ row_count-values c.args.array.now ∙ ap length (sym c.values.ensures)
    ∙ length-map c.values.result.now g.T.NativeType.numbers
    ∙ ap length (sym c.as_slice-values.ensures)
