-- Reading a mask by its words: what the iterator of slots keeps. No other crate's clause cites it.
use Rattle.std.specs.Prelude.{◌≡◌, ℕ, ◌-◌, ◌%◌, ◌<◌, ◌≤◌, ◌^◌, Bool, List, length, take, drop}
use Rattle.col_buf.specs.Bitmap.{number_of}

-- how many flags are left of the 64 that were read last, where the row is the next one
abbrev pub flags_in_word : ℕ → ℕ
flags_in_word row = (64 - row % 64) % 64

-- the row is within the flags, or at their end, and the word has the flags that are left of the 64
-- that were read last
pub record IsReading (flags : List Bool) (row word : ℕ) : Type 0 where
  pub within : row ≤ length flags
  pub counted : length flags < 2 ^ 64
  pub bits : word ≡ number_of (take (flags_in_word row) (drop row flags))
