-- The bytes so far hold the values so far.
use Rattle.std.proofs.Common.{◌≡◌, ℕ, ◌*◌, ◌<◌, length, get_or, false}
use Rattle.col_buf.specs.Bitmap.{bit_at}
use Rattle.col_buf.proofs.bitmap.packed.Given as goal

abbrev pub invariant-loop-k : goal.invariant-loop-k
invariant-loop-k l = record {
  size : length l.bytes.items ≡ l.k;
  same : (i : ℕ) → i < 8 * l.k → bit_at l.bytes.items i ≡ get_or l.values i false;
}
