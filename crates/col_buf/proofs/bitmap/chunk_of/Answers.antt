-- Nine bytes, shifted and masked, are the chunk.
use Rattle.std.proofs.Common.{◌*◌, ◌≤◌, arith}
use Rattle.col_buf.proofs.ChunkLemmas.{chunk_is}
use Rattle.col_buf.proofs.bitmap.chunk_of.Goals as goal

pub returns : goal.returns
returns c =
    let within : 64 * c.args.i ≤ c.args.count = omega arith in
    let whole = chunk_is c.args.bytes.now c.args.start c.args.count c.args.i c.requires.packed.first
    within in
    cc
