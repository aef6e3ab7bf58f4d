-- The bytes so far hold both values so far.
use Rattle.std.proofs.Common.{◌≡◌, ℕ, ◌*◌, ◌<◌, length, get_or, false}
use Rattle.col_buf.specs.Bitmap.{bit_at, both}
use Rattle.col_buf.proofs.bitmap.both_bytes.Given as goal

abbrev pub invariant-loop-i : goal.invariant-loop-i
invariant-loop-i l = record {
  size : length l.bytes.items ≡ 8 * l.i;
  same : (k : ℕ) → k < 64 * l.i → bit_at l.bytes.items k ≡ get_or (both l.lhs l.rhs) k false;
}
