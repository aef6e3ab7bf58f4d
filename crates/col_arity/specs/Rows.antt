-- What a closure gives for the rows of arrays.
use Rattle.std.specs.Prelude.{◌≡◌, ◌≢◌, Bool, false, ℤ, pos, List, [], ◌∷◌, length, map, Contains}
use Rattle.std.specs.Prelude.{zip, Option, Some, None, Result, Ok, Err, ⊤, ◌⊎◌}
use Rattle.col_model.specs.Whole.{WholeType}
use Rattle.col_types.specs.declared.error.Error.{Error}
use Rattle.col_types.specs.declared.error.Error.TheVariants.{InvalidArgumentError}
use Rattle.col_types.specs.declared.error.Reason.TheVariants.{Lengths}
use Rattle.col_types.specs.Column.{row_count}
use Rattle.col_types.specs.DataKind.{DataKind}
use Rattle.col_flat.specs.Parts.{PrimitiveParts, column_of, slots_of}

-- the closure may be called for each value of the slots
abbrev pub IsCallableAtValid : {X N : Type 0} → (X → N) → (X → Type 0) → List (Option N) → Type 0
IsCallableAtValid {X} numbers pre slots = (x : X) → Contains slots (Some (numbers x)) → pre x

-- the closure may be called for each of the stored values, also for those beneath nulls
abbrev pub IsCallableAtStored : {X N : Type 0} → (X → N) → (X → Type 0) → List N → Type 0
IsCallableAtStored {X} numbers pre values = (x : X) → Contains values (numbers x) → pre x

-- the closure answers, for the value with these numbers, what is seen so
pub record AnswersWith {X R N S : Type 0} (numbers : X → N) (post : X → R → Type 0)
    (seen : R → S) (n : N) (s : S) : Type 0 where
  pub value : X
  pub answer : R
  pub is_value : numbers value ≡ n
  pub answers : post value answer
  pub is_answer : seen answer ≡ s

-- the closure refuses the value with these numbers
pub record RefusesWith {X N : Type 0} (numbers : X → N) (refuses : X → Type 0)
    (n : N) : Type 0 where
  pub value : X
  pub is_value : numbers value ≡ n
  pub refused : refuses value

-- row by row: what is allowed for the value, and `none` at a null; as long as one another
abbrev pub MapsSlots : {X S : Type 0} → (X → S → Type 0) → S → List (Option X) → List S → Type 0
MapsSlots allows none [] [] = ⊤
MapsSlots allows none [] (s ∷ made) = ⊥
MapsSlots allows none (slot ∷ slots) [] = ⊥
MapsSlots allows none (None ∷ slots) (s ∷ made) = (s ≡ none) × MapsSlots allows none slots made
MapsSlots allows none (Some x ∷ slots) (s ∷ made) = allows x s × MapsSlots allows none slots made

-- some row refuses, and each row above it is null or allows some answer
abbrev pub RefusesFirst : {X S : Type 0} → (X → S → Type 0) → (X → Type 0) → List (Option X)
    → Type 0
RefusesFirst allows refuses [] = ⊥
RefusesFirst allows refuses (None ∷ slots) = RefusesFirst allows refuses slots
RefusesFirst {S = S} allows refuses (Some x ∷ slots) =
    refuses x ⊎ (((s : S) × allows x s) × RefusesFirst allows refuses slots)

-- the closure refuses so the first value that it refuses, and answers each value above it
abbrev pub IsFirstRefusal : {X R N : Type 0} → (X → N) → (X → Result R Error → Type 0)
    → List (Option N) → Error → Type 0
IsFirstRefusal numbers post slots e =
    RefusesFirst (AnswersWith numbers (λ x r. post x (Ok r)) (λ r. r))
    (RefusesWith numbers (λ x. post x (Err e))) slots

-- an array of the type whose slots are made row by row
pub record IsMapped {N : Type 0} (t : DataKind) (allows : N → Option (List ℤ) → Type 0)
    (slots : List (Option N)) (array : PrimitiveParts) : Type 0 where
  pub data_type : array.data_type ≡ t
  pub rows : MapsSlots allows None slots (slots_of array)

-- an array of the type, and flags, whose slots and flags are made row by row; a null's flag is
-- false
pub record IsMappedWithFlags {N : Type 0} (t : DataKind)
    (allows : N → Option (List ℤ) × Bool → Type 0) (slots : List (Option N))
    (array : PrimitiveParts) (flags : List Bool) : Type 0 where
  pub data_type : array.data_type ≡ t
  pub one_length : length flags ≡ length (slots_of array)
  pub rows : MapsSlots allows (None, false) slots (zip (slots_of array) flags)

-- the error that the lengths differ, where they do
abbrev pub IsLengths : PrimitiveParts → PrimitiveParts → Error → Type 0
IsLengths left right e =
    (row_count (column_of left) ≢ row_count (column_of right)) × (e ≡ InvalidArgumentError Lengths)

-- the numbers of the value whose fields are all 0
abbrev pub zero_numbers : List WholeType → List ℤ
zero_numbers types = map (λ t. pos 0) types
