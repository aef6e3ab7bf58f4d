-- Small readings of JSON values, each giving a value or nothing.
use Rattle.std.specs.Prelude.{ℕ, suc, List, [], Option, Some, option_and_then}
use Rattle.serde_json.specs.Data.{Data, Items, no_items, item}
use Rattle.col_model.specs.Whole.{option_cons}

infixl 10 ◌>>=◌
-- a value is read on; nothing stays nothing
abbrev pub ◌>>=◌ : {A B : Type 0} → Option A → (A → Option B) → Option B
value >>= next = option_and_then next value

-- each item read, in order; nothing where one is not read
abbrev pub each : {A : Type 0} → (Data → Option A) → Items → Option (List A)
each read_one no_items = Some []
each read_one (item d ds) = option_cons (read_one d) (each read_one ds)

-- how many items there are
abbrev pub item_count : Items → ℕ
item_count no_items = 0
item_count (item d ds) = suc (item_count ds)
