-- The part of a part is a part of the values.
use Rattle.std.proofs.Common.{arith}
use Rattle.col_buf.proofs.CutLemmas.{cut-cut}
use Rattle.col_buf.proofs.buffer.Buffer.sliced.Goals as goal

pub returns : goal.returns
returns g c = grind (arith, cut-cut, c.self.view_is)
