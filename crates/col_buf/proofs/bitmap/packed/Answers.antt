-- Each byte holds the next eight values.
use Rattle.std.proofs.Common.{◌*◌, ◌∙◌, ap, refl, zero-add, arith, length, take}
use Rattle.std.proofs.lemmas.List.{take_rest}
use Rattle.col_buf.specs.Bitmap.{bit_at, number_of}
use Rattle.col_buf.proofs.BitLemmas.{bits_from_is}
use Rattle.col_buf.proofs.PackedLemmas.{packed_more}
use Rattle.col_buf.proofs.bitmap.packed.Goals as goal

pub loop-k-preserved : goal.loop-k-preserved
loop-k-preserved c = rw c.in_ok-push.ensures.items (record {
  size = grind arith;
  same = packed_more c.loop-k.bytes.items c.args.values.now c.loop-k.k c.packed_byte.result
      c.loop-k.invariant.size
      (c.packed_byte.ensures
      ∙ ap (λ xs. number_of (take 8 xs)) (take_rest c.args.values.now (8 * c.loop-k.k)))
      c.loop-k.invariant.same;
})

pub returns-clause-value : goal.returns-clause-value
returns-clause-value c =
    bits_from_is c.loop-k.bytes.items 0 (length c.args.values.now) c.args.values.now refl
    (λ i h. ap (bit_at c.loop-k.bytes.items) (zero-add i) ∙ c.loop-k.invariant.same i (omega arith))
