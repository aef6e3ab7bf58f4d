-- The parts that arrays and scalars of native values are made of, and the cells they stand for.
use Rattle.std.specs.Prelude.{◌≡◌, ℕ, ◌+◌, ℤ, Bool, true, false, List, [], ◌∷◌, length, map, Option}
use Rattle.std.specs.Prelude.{Some, None, option_map, unwrap_or, IsTrue, ⊤}
use Rattle.std.specs.List.{list_all}
use Rattle.col_buf.specs.Bitmap.{both}
use Rattle.col_buf.specs.Cut.{cut}
use Rattle.col_model.specs.Cell.{Cell, null, whole, parts}
use Rattle.col_types.specs.DataKind.{DataKind}
use Rattle.col_types.specs.Column.{Column}

-- an array's parts: its type; for each slot the value that is stored there, as the numbers of its
-- fields; and the mask, where it has one: for each slot whether it is valid
pub record PrimitiveParts : Type 0 where
  pub data_type : DataKind
  pub values : List (List ℤ)
  pub validity : Option (List Bool)

-- a scalar's parts: its type, and its value, where it is not null, as the numbers of its fields
pub record ScalarParts : Type 0 where
  pub data_type : DataKind
  pub slot : Option (List ℤ)

-- a mask has a flag for each of so many slots
abbrev pub IsMaskOf : Option (List Bool) → ℕ → Type 0
IsMaskOf None count = ⊤
IsMaskOf (Some flags) count = length flags ≡ count

-- a value as a cell: the one number of a whole number, or the numbers of an interval's fields
abbrev pub value_cell : List ℤ → Cell
value_cell [] = parts []
value_cell (n ∷ []) = whole n
value_cell (n ∷ m ∷ ns) = parts (n ∷ m ∷ ns)

-- a slot as a cell
abbrev pub slot_cell : Option (List ℤ) → Cell
slot_cell None = null
slot_cell (Some ns) = value_cell ns

-- a slot of a native type as a cell, by the numbers that its values stand for
abbrev pub native_cell : {T : Type 0} → (T → List ℤ) → Option T → Cell
native_cell numbers slot = slot_cell (option_map numbers slot)

-- what a flag leaves of a value: beneath a false one there is none
abbrev pub slot_beneath : Bool → List ℤ → Option (List ℤ)
slot_beneath true ns = Some ns
slot_beneath false ns = None

-- the slots of values beneath their flags; a value without a flag is valid: 7 and 9 beneath true
-- and false are 7 and null, and beneath no flags 7 and 9
abbrev pub masked_slots : List (List ℤ) → List Bool → List (Option (List ℤ))
masked_slots [] flags = []
masked_slots (ns ∷ values) [] = Some ns ∷ masked_slots values []
masked_slots (ns ∷ values) (valid ∷ flags) = slot_beneath valid ns ∷ masked_slots values flags

-- an array's slots: without a mask all are valid, and what is stored beneath a null is none of
-- them: arrays of 7 and 9 and of 7 and 0, both beneath true and false, have the same slots
abbrev pub slots_of : PrimitiveParts → List (Option (List ℤ))
slots_of a = masked_slots a.values (unwrap_or a.validity [])

-- the column that an array stands for
abbrev pub column_of : PrimitiveParts → Column
column_of a = record { data_type = a.data_type; cells = map slot_cell (slots_of a) }

-- how many cells are null
abbrev pub null_count_of : List Cell → ℕ
null_count_of [] = 0
null_count_of (null ∷ cells) = 1 + null_count_of cells
null_count_of (_ ∷ cells) = null_count_of cells

-- so many slots of an array from a row on
abbrev pub cut_parts : PrimitiveParts → ℕ → ℕ → PrimitiveParts
cut_parts a offset count = record {
  data_type = a.data_type;
  values = cut a.values offset count;
  validity = option_map (λ flags. cut flags offset count) a.validity;
}

-- a mask has these flags; without one all of them are true
abbrev pub HasFlags : Option (List Bool) → List Bool → Type 0
HasFlags None flags = IsTrue (list_all (λ flag. flag) flags)
HasFlags (Some mask) flags = mask ≡ flags

-- two masks, where there are two, have one length
abbrev pub HaveOneLength : Option (List Bool) → Option (List Bool) → Type 0
HaveOneLength None right = ⊤
HaveOneLength (Some flags) None = ⊤
HaveOneLength (Some flags) (Some others) = length flags ≡ length others

-- the flags that are true in both masks; without a mask all flags are
abbrev pub flags_of_both : Option (List Bool) → Option (List Bool) → Option (List Bool)
flags_of_both None right = right
flags_of_both (Some flags) None = Some flags
flags_of_both (Some flags) (Some others) = Some (both flags others)

-- both values of two slots; null where one of the two is null
abbrev pub both_slots : {X Y : Type 0} → Option X → Option Y → Option (X × Y)
both_slots None right = None
both_slots (Some x) None = None
both_slots (Some x) (Some y) = Some (x, y)

-- row by row both values, null where one of the two is null; as long as the shorter list
abbrev pub zipped_slots : {X Y : Type 0} → List (Option X) → List (Option Y) → List (Option (X × Y))
zipped_slots [] right = []
zipped_slots (x ∷ left) [] = []
zipped_slots (x ∷ left) (y ∷ right) = both_slots x y ∷ zipped_slots left right

-- the rows of two arrays: both values, null where one of the two is null; 1 and null beside 2 and 3
-- give 1 with 2 and null
abbrev pub slot_pairs : PrimitiveParts → PrimitiveParts → List (Option (List ℤ × List ℤ))
slot_pairs left right = zipped_slots (slots_of left) (slots_of right)

-- the numbers of both values
abbrev pub pair_numbers : {X Y M N : Type 0} → (X → M) → (Y → N) → X × Y → M × N
pair_numbers left right pair = (left pair.0, right pair.1)
