-- There are as many truth values as bits.
use Rattle.std.proofs.Common.{arith}
use Rattle.col_buf.proofs.BitLemmas.{length-bits_from}
use Rattle.col_buf.proofs.bitmap.Bitmap.len.Goals as goal

pub returns : goal.returns
returns c = grind (arith, length-bits_from, c.self.view_is)
