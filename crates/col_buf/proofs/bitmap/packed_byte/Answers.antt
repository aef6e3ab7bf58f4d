-- A value more is a bit more.
use Rattle.std.proofs.Common.{◌*◌, ◌%◌, ◌^◌, ◌∙◌, ap₂, arith, bit_or, get_or, false}
use Rattle.col_buf.proofs.PackedLemmas.{digit_of_bool, number_more}
use Rattle.col_buf.proofs.bitmap.packed_byte.Goals as goal

pub loop-j-preserved : goal.loop-j-preserved
loop-j-preserved c =
    ap₂ (λ b d. bit_or b (d * 2 ^ c.loop-j.j % 256)) c.loop-j.invariant
    (c.from.ensures ∙ digit_of_bool (get_or c.args.values.now c.loop-j.j false))
    ∙ number_more c.args.values.now c.loop-j.j (omega arith) (omega arith)
