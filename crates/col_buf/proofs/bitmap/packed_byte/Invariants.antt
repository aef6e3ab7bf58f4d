-- The byte so far is the number of the values so far.
use Rattle.std.proofs.Common.{◌≡◌, take}
use Rattle.col_buf.specs.Bitmap.{number_of}
use Rattle.col_buf.proofs.bitmap.packed_byte.Given as goal

abbrev pub invariant-loop-j : goal.invariant-loop-j
invariant-loop-j l = l.byte ≡ number_of (take l.j l.values)
