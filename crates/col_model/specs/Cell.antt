-- What a column holds at one row, and why a row is refused.
use Rattle.std.specs.Prelude.{ℕ, zero, suc, ℤ, Bool, List}

-- a null, a whole number, a truth value, the numbers of an interval's parts, the bytes of a text or
-- of a binary value, or the cells of a list's elements: a null has no value
mutual
  pub data Cell : Type 0 where
    null : Cell
    whole : ℤ → Cell
    truth : Bool → Cell
    parts : List ℤ → Cell
    octets : List ℕ → Cell
    list : Elements → Cell

  -- the cells of a list's elements, in their order
  pub data Elements : Type 0 where
    no_elements : Elements
    element : Cell → Elements → Elements

-- how many elements there are
abbrev pub element_count : Elements → ℕ
element_count no_elements = zero
element_count (element c es) = suc (element_count es)

-- why a step or a cast refuses a row
pub data Cause : Type 0 where
  overflow : Cause
  divide_by_zero : Cause
  out_of_range : Cause
  out_of_spec : Cause
  row_length : Cause
