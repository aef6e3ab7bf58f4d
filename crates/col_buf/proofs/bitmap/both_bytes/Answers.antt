-- Each word holds both values of the next chunks.
use Rattle.std.proofs.Common.{◌∙◌, ap, ap₂, zero-add, arith, length, bit_and}
use Rattle.col_buf.specs.Bitmap.{bit_at, both}
use Rattle.col_buf.proofs.BitLemmas.{bits_from_is}
use Rattle.col_buf.proofs.PackedLemmas.{both_more, length-both}
use Rattle.col_buf.proofs.bitmap.both_bytes.Goals as goal

pub loop-i-preserved : goal.loop-i-preserved
loop-i-preserved c = rw (c.in_ok-extend_from_slice.ensures.items, c.to_le_bytes.ensures) (record {
  size = grind arith;
  same = both_more c.loop-i.bytes.items c.args.lhs.now c.args.rhs.now c.loop-i.i
      (bit_and c.chunk.result c.chunk-in-loop-i.result) c.requires c.loop-i.invariant.size
      (ap₂ bit_and c.chunk.ensures c.chunk-in-loop-i.ensures) c.loop-i.invariant.same;
})

pub returns-clause-value : goal.returns-clause-value
returns-clause-value c =
    bits_from_is c.loop-i.bytes.items 0 (length c.args.lhs.now) (both c.args.lhs.now c.args.rhs.now)
    (length-both c.args.lhs.now c.args.rhs.now c.requires)
    (λ i h. ap (bit_at c.loop-i.bytes.items) (zero-add i) ∙ c.loop-i.invariant.same i (omega arith))
