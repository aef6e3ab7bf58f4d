-- There are as many truth values as bits.
use Rattle.std.proofs.Common.{arith}
use Rattle.col_buf.proofs.BitLemmas.{length-view}
use Rattle.col_buf.proofs.bitmap.Bitmap.chunk.Goals as goal

pub chunk_of-requires-clause-within : goal.chunk_of-requires-clause-within
chunk_of-requires-clause-within c =
    let n = length-view _ _ _ _ c.self.view_is in
    omega (arith, c.requires)
