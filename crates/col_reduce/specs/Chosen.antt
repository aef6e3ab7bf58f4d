-- Sums of the values that the bits of a number choose.
use Rattle.std.specs.Prelude.{ℕ, ◌/◌, ◌%◌, ◌==◌, ℤ, pos, ◌+ℤ◌, if◌then◌else◌, List, [], ◌∷◌}

-- the sum, however large, of the numbers whose bit is 1, the first one's bit being the least: 5, 7
-- and 9 under the bits of 5 give 14
abbrev pub chosen_sum : List ℤ → ℕ → ℤ
chosen_sum [] chosen = pos 0
chosen_sum (n ∷ ns) chosen =
    (if chosen % 2 == 1 then n else pos 0) +ℤ chosen_sum ns (chosen / 2)
