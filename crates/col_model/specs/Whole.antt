-- The types of whole numbers, which numbers fit one, and what stands there for one that does not.
use Rattle.std.specs.Prelude.{ℕ, ◌-◌, ◌^◌, ℤ, pos, neg_ℤ, ◌-ℤ◌, int_le, int_lt, Bool, ◌&&◌}
use Rattle.std.specs.Prelude.{if◌then◌else◌, List, [], ◌∷◌, Option, Some, None}
use Rattle.std.specs.Int.{Width, int_rem_euclid}
use mir.Val.{bits, hbits}

-- a whole-number type: with a sign or without one, of a width in bits
pub data WholeType : Type 0 where
  signed : Width → WholeType
  unsigned : Width → WholeType

-- the width of a type in bits
abbrev pub bit_count : WholeType → ℕ
bit_count (signed w) = bits w
bit_count (unsigned w) = bits w

-- the least number of a type of width w: -2 ^ (w - 1) where it has a sign, else 0
-- (`hbits w` is w - 1)
abbrev pub least_number : WholeType → ℤ
least_number (signed w) = neg_ℤ (pos (2 ^ hbits w))
least_number (unsigned w) = pos 0

-- the greatest number of a type: 2 ^ (w - 1) - 1 where it has a sign, else 2 ^ w - 1
abbrev pub greatest_number : WholeType → ℤ
greatest_number (signed w) = pos (2 ^ hbits w - 1)
greatest_number (unsigned w) = pos (2 ^ bits w - 1)

-- a number fits a type where it lies between the type's least and its greatest number
abbrev pub is_fitting : WholeType → ℤ → Bool
is_fitting t n = int_le (least_number t) n && int_le n (greatest_number t)

-- the number where it fits, else none
abbrev pub checked_number : WholeType → ℤ → Option ℤ
checked_number t n = if is_fitting t n then Some n else None

-- the one of the numbers m and m - 2 ^ w that the type has, m being from 0 to 2 ^ w - 1
abbrev pub lowered_into : WholeType → ℤ → ℤ
lowered_into t m = if int_le m (greatest_number t) then m else m -ℤ pos (2 ^ bit_count t)

-- the one number of the type that differs from n by a multiple of 2 ^ w
abbrev pub wrapped_number : WholeType → ℤ → ℤ
wrapped_number t n = lowered_into t (int_rem_euclid n (pos (2 ^ bit_count t)))

-- the number of the type that is nearest to n: n, or the end of the type that n is past
abbrev pub nearest_number : WholeType → ℤ → ℤ
nearest_number t n =
    if int_lt n (least_number t) then least_number t
    else (if int_lt (greatest_number t) n then greatest_number t else n)

-- a value in front of a list, where both are there
abbrev pub option_cons : {X : Type 0} → Option X → Option (List X) → Option (List X)
option_cons None rest = None
option_cons (Some x) None = None
option_cons (Some x) (Some xs) = Some (x ∷ xs)

-- numbers beside the types of their fields: all of them where each fits its own, else none
abbrev pub checked_numbers : List WholeType → List ℤ → Option (List ℤ)
checked_numbers [] ns = Some []
checked_numbers (t ∷ ts) [] = Some []
checked_numbers (t ∷ ts) (n ∷ ns) = option_cons (checked_number t n) (checked_numbers ts ns)

-- numbers beside the types of their fields, each wrapped into its own
abbrev pub wrapped_numbers : List WholeType → List ℤ → List ℤ
wrapped_numbers [] ns = []
wrapped_numbers (t ∷ ts) [] = []
wrapped_numbers (t ∷ ts) (n ∷ ns) = wrapped_number t n ∷ wrapped_numbers ts ns
