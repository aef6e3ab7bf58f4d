-- The bits of the bytes from a byte on are bits of all bytes.
use Rattle.std.proofs.Common.{arith}
use Rattle.col_buf.proofs.BitLemmas.{bits_from-cut}
use Rattle.col_buf.proofs.bitmap.bits_of.Goals as goal

pub returns : goal.returns
returns c = grind (arith, bits_from-cut)
