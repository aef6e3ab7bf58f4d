-- The true values so far.
use Rattle.std.proofs.Common.{◌≡◌, ◌*◌, take}
use Rattle.col_buf.proofs.ChunkLemmas.{set_count}
use Rattle.col_buf.proofs.bitmap.Bitmap.unset_bits.Given as goal

abbrev pub invariant-loop-i : goal.invariant-loop-i
invariant-loop-i l = l.set ≡ set_count (take (64 * l.i) l.self)
