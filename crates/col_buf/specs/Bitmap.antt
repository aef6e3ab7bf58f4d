-- Truth values as the bits of bytes, the least bit of a byte first.
use Rattle.std.specs.Prelude.{ℕ, ◌+◌, ◌*◌, ◌/◌, ◌%◌, ◌<◌, ◌≤◌, Bool, ◌&&◌, ◌==◌, if◌then◌else◌}
use Rattle.std.specs.Prelude.{List, [], ◌∷◌, length, map, slice_index}
use Rattle.std.specs.Int.{bit_at as bit_of}
use Rattle.std.specs.List.{range_with_len}
use Rattle.col_buf.specs.Cut.{cut}

-- bit i mod 8 of byte i / 8, false past the end
abbrev pub bit_at : List ℕ → ℕ → Bool
bit_at bytes i = bit_of (slice_index bytes (i / 8)) (i % 8) == 1

-- so many bits from a bit on
unfoldable pub bits_from : List ℕ → ℕ → ℕ → List Bool
bits_from bytes offset count = map (bit_at bytes) (range_with_len offset count)

-- so many bits from a bit on lie within the bytes
abbrev pub HasBits : List ℕ → ℕ → ℕ → Type 0
HasBits bytes offset count = offset + count ≤ 8 * length bytes

-- a first bit and a number of bits: the first lies in the first byte, and the last within the bytes
pub record IsPacked (bytes : List ℕ) (start count : ℕ) : Type 0 where
  pub first : start < 8
  pub within : HasBits bytes start count

-- the number whose bits are the truth values, the least bit first
abbrev pub number_of : List Bool → ℕ
number_of [] = 0
number_of (b ∷ truths) = (if b then 1 else 0) + 2 * number_of truths

-- the number whose bits are the 64 truth values from place 64 * i on, false past the end
abbrev pub chunk_at : List Bool → ℕ → ℕ
chunk_at truths i = number_of (cut truths (64 * i) 64)

-- place by place, whether both are true
abbrev pub both : List Bool → List Bool → List Bool
both [] right = []
both (a ∷ left) [] = []
both (a ∷ left) (b ∷ right) = (a && b) ∷ both left right
