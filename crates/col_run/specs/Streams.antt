-- Sources and sinks: what a call takes or adds, their counts, and the calls that fail.
use Rattle.std.specs.Prelude.{◌≡◌, ℕ, ◌^◌, ◌+◌, ◌-◌, ◌<◌, ◌≤◌, ◌==◌, min, Bool, ◌⊎◌, List, []}
use Rattle.std.specs.Prelude.{◌++◌, length, take, Option, Some, None, ⊤}
use Rattle.std.specs.List.{list_any}

-- the greatest number that a count reaches: there it stands still
abbrev pub last_count : ℕ
last_count = 2 ^ 64 - 1

-- so many more, or the last number that a count reaches
abbrev pub raised_count : ℕ → ℕ → ℕ
raised_count n more = min (n + more) last_count

-- whether the call with this number is one of those that fail
abbrev pub is_failing_call : List ℕ → ℕ → Bool
is_failing_call fails call = list_any (λ n. n == call) fails

-- a count of faults rose, or it stands at the last number that it has
abbrev pub FaultsRose : ℕ → ℕ → Type 0
FaultsRose old new = (old < new) ⊎ (new ≡ last_count)

-- the bytes went from the front of what was left, where that is told
abbrev pub TakesFront : Option (List ℕ) → List ℕ → Option (List ℕ) → Type 0
TakesFront None bytes new = new ≡ None
TakesFront (Some left) bytes None = ⊥
TakesFront (Some left) bytes (Some rest) = left ≡ bytes ++ rest

-- nothing is left, where that is told
abbrev pub IsSpent : Option (List ℕ) → Type 0
IsSpent None = ⊤
IsSpent (Some left) = left ≡ []

-- the bytes were all that was left, where that is told
abbrev pub TakesAll : Option (List ℕ) → List ℕ → Option (List ℕ) → Type 0
TakesAll None bytes new = new ≡ None
TakesAll (Some left) bytes new = (left ≡ bytes) × (new ≡ Some [])

-- so many bytes went from the front of what was left, where that is told
abbrev pub TakesCount : Option (List ℕ) → ℕ → Option (List ℕ) → Type 0
TakesCount old count new = (front : List ℕ) × TakesFront old front new × (length front ≡ count)

-- at most so many bytes went from the front of what was left, where that is told
abbrev pub TakesAtMost : Option (List ℕ) → ℕ → Option (List ℕ) → Type 0
TakesAtMost old most new = (front : List ℕ) × TakesFront old front new × (length front ≤ most)

-- the bytes came to the end of what was written, where that is told
abbrev pub AddsBytes : Option (List ℕ) → List ℕ → Option (List ℕ) → Type 0
AddsBytes None bytes new = new ≡ None
AddsBytes (Some written) bytes new = new ≡ Some (written ++ bytes)

-- some front of the bytes, short of all of them, came to the end of what was written, where that
-- is told
abbrev pub AddsFront : Option (List ℕ) → List ℕ → Option (List ℕ) → Type 0
AddsFront old bytes new =
    (count : ℕ) × (count < length bytes) × AddsBytes old (take count bytes) new
