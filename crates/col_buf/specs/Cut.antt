-- Parts of a list.
use Rattle.std.specs.Prelude.{ℕ, ◌+◌, ◌≤◌, List, length, take, drop}

-- so many elements from a place on lie within the list
abbrev pub IsWithin : {X : Type 0} → List X → ℕ → ℕ → Type 0
IsWithin xs offset count = offset + count ≤ length xs

-- so many elements from a place on
abbrev pub cut : {X : Type 0} → List X → ℕ → ℕ → List X
cut xs offset count = take count (drop offset xs)
