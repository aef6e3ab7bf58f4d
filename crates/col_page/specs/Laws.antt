-- What holds of what is made of a number of rows.
use Rattle.std.specs.Prelude.{◌≡◌, ℕ, ℤ, pos, neg_ℤ, false, [], ◌∷◌, map, Result, Ok}
use Rattle.col_model.specs.Cell.{whole}
use Rattle.col_types.specs.DataKind.{DataKind}
use Rattle.col_types.specs.DataKind as kind
use Rattle.col_types.specs.declared.error.Error.{Error}
use Rattle.col_reduce.specs.Total.{TypedCell}
use Rattle.col_page.specs.Generator.{made_document, made_table, made_trees}
use Rattle.col_page.specs.Sums.{has_error_sum, sum_of_tree}

-- no tree over a made table is refused, and each gives a column of a type that is summed
abbrev pub NoMadeSumIsRefused : Type 0
NoMadeSumIsRefused = (count : ℕ) → has_error_sum (made_document count) ≡ false

-- a total that is a number
abbrev pub total : DataKind → ℤ → Result TypedCell Error
total t n = Ok (record { data_type = t; cell = whole n })

-- the sums of the trees over the table of 64 rows
abbrev pub SumsOf64Rows : Type 0
SumsOf64Rows = map (λ tree. sum_of_tree tree (made_table 64)) made_trees
    ≡ total kind.int64 (neg_ℤ (pos 22104))
    ∷ total kind.uint64 (pos 89440)
    ∷ total kind.uint64 (pos 6148914691236516491)
    ∷ total kind.int64 (neg_ℤ (pos 549803))
    ∷ []
