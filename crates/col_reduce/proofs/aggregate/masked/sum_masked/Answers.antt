use Rattle.std.proofs.Common.{◌*◌, ◌∙◌, sym}
use Rattle.col_reduce.proofs.MaskLemmas.{IsMaskedSoFar-none, IsMaskedSoFar-some, length-cut}
use Rattle.col_reduce.proofs.aggregate.masked.sum_masked.Goals as goal
use Rattle.col_reduce.proofs.aggregate.masked.sum_masked.Goals.{then-chosen-ne0, else-chosen-ne0}

pub sum_chunk-requires : goal.sum_chunk-requires
sum_chunk-requires g c =
    rw c.chunk_of.ensures (length-cut c.args.values.now (64 * c.loop-i.i) 64)

pub loop-i-preserved : goal.loop-i-preserved
loop-i-preserved g c =
    elim c.if-chosen-ne0.branch [
      | then-chosen-ne0 w ↦ rw (w.total-is, w.found-is)
          (IsMaskedSoFar-some g.T.NativeType.numbers g.T.NativeWhole.value
          g.met.T.NativeWhole.value_law c.args.values.now w.chunk_of.result.now c.args.mask.now
          c.loop-i.i c.chunk-chosen.result (g.T.NativeWhole.value w.sum_chunk.result) _
          c.loop-i.invariant c.requires c.chunk-chosen.ensures w.if-chosen-ne0.true
          w.chunk_of.ensures w.sum_chunk.ensures w.add_modulo-total.ensures)
      | else-chosen-ne0 w ↦ rw (w.total-is, w.found-is)
          (IsMaskedSoFar-none g.T.NativeType.numbers c.args.values.now c.args.mask.now c.loop-i.i
          c.loop-i.invariant c.requires (sym c.chunk-chosen.ensures ∙ w.if-chosen-ne0.false))
    ]
