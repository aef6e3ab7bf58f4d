-- The word of eight bytes is the number of their bits.
use Rattle.std.proofs.Common.{arith}
use Rattle.col_buf.proofs.BitLemmas.{word_is}
use Rattle.col_buf.proofs.bitmap.whole_word.Goals as goal

pub returns : goal.returns
returns c = word_is c.args.bytes.now c.from_le_bytes.result (omega arith)
    (λ k. omega (arith, c.type_inv.bytes k)) c.from_le_bytes.ensures
