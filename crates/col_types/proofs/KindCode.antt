-- How the prover stores a type, so that a type may stand in the value of a model: its levels.
use Rattle.std.specs.Prelude.{◌≡◌, ℕ, ◌==◌, cond, List, [], ◌∷◌, Some, None, refl}
use Rattle.std.specs.Coded.{Coded, code_by, coded×, coded_list, coded_ℕ}
use Rattle.std.proofs.Common.{ap}
use Rattle.col_types.specs.DataKind.{DataKind}
use Rattle.col_types.specs.DataKind as kind
use Rattle.col_types.proofs.UnitNumber.{unit_number, unit_at, unit_at-unit_number}
use Rattle.col_types.proofs.UnitNumber.{span_number, span_at, span_at-span_number}
use Rattle.col_types.proofs.UnitNumber.{key_number, key_at, key_at-key_number}
use Rattle.col_model.proofs.CellCode.{truth_number, truth_number-one}

-- a level of a type: the number of its variant, two numbers, and a text
abbrev pub Level : Type 0
Level = ℕ × (ℕ × (ℕ × List ℕ))

-- a level of these parts
abbrev level : ℕ → ℕ → ℕ → List ℕ → Level
level variant a b text = (variant, (a, (b, text)))

-- the levels of a type, the outermost first
abbrev pub levels_of : DataKind → List Level
levels_of kind.null = level 0 0 0 [] ∷ []
levels_of kind.boolean = level 1 0 0 [] ∷ []
levels_of kind.int8 = level 2 0 0 [] ∷ []
levels_of kind.int16 = level 3 0 0 [] ∷ []
levels_of kind.int32 = level 4 0 0 [] ∷ []
levels_of kind.int64 = level 5 0 0 [] ∷ []
levels_of kind.uint8 = level 6 0 0 [] ∷ []
levels_of kind.uint16 = level 7 0 0 [] ∷ []
levels_of kind.uint32 = level 8 0 0 [] ∷ []
levels_of kind.uint64 = level 9 0 0 [] ∷ []
levels_of (kind.timestamp u None) = level 10 (unit_number u) 0 [] ∷ []
levels_of (kind.timestamp u (Some text)) = level 11 (unit_number u) 0 text ∷ []
levels_of kind.date32 = level 12 0 0 [] ∷ []
levels_of kind.date64 = level 13 0 0 [] ∷ []
levels_of (kind.time32 u) = level 14 (unit_number u) 0 [] ∷ []
levels_of (kind.time64 u) = level 15 (unit_number u) 0 [] ∷ []
levels_of (kind.duration u) = level 16 (unit_number u) 0 [] ∷ []
levels_of (kind.interval u) = level 17 (span_number u) 0 [] ∷ []
levels_of kind.binary = level 18 0 0 [] ∷ []
levels_of (kind.fixed_size_binary size) = level 19 size 0 [] ∷ []
levels_of kind.large_binary = level 20 0 0 [] ∷ []
levels_of kind.utf8 = level 21 0 0 [] ∷ []
levels_of kind.large_utf8 = level 22 0 0 [] ∷ []
levels_of (kind.list name item is_nullable) =
    level 23 (truth_number is_nullable) 0 name ∷ levels_of item
levels_of (kind.fixed_size_list name item is_nullable size) =
    level 24 (truth_number is_nullable) size name ∷ levels_of item
levels_of (kind.large_list name item is_nullable) =
    level 25 (truth_number is_nullable) 0 name ∷ levels_of item
levels_of (kind.dictionary k values is_ordered) =
    level 26 (truth_number is_ordered) (key_number k) [] ∷ levels_of values
levels_of (kind.decimal precision scale) = level 27 precision scale [] ∷ []

-- a type from its outermost level and the type within
abbrev pub kind_over : ℕ → ℕ → ℕ → List ℕ → DataKind → DataKind
kind_over variant a b text inner =
    cond (variant == 0) kind.null (
    cond (variant == 1) kind.boolean (
    cond (variant == 2) kind.int8 (
    cond (variant == 3) kind.int16 (
    cond (variant == 4) kind.int32 (
    cond (variant == 5) kind.int64 (
    cond (variant == 6) kind.uint8 (
    cond (variant == 7) kind.uint16 (
    cond (variant == 8) kind.uint32 (
    cond (variant == 9) kind.uint64 (
    cond (variant == 10) (kind.timestamp (unit_at a) None) (
    cond (variant == 11) (kind.timestamp (unit_at a) (Some text)) (
    cond (variant == 12) kind.date32 (
    cond (variant == 13) kind.date64 (
    cond (variant == 14) (kind.time32 (unit_at a)) (
    cond (variant == 15) (kind.time64 (unit_at a)) (
    cond (variant == 16) (kind.duration (unit_at a)) (
    cond (variant == 17) (kind.interval (span_at a)) (
    cond (variant == 18) kind.binary (
    cond (variant == 19) (kind.fixed_size_binary a) (
    cond (variant == 20) kind.large_binary (
    cond (variant == 21) kind.utf8 (
    cond (variant == 22) kind.large_utf8 (
    cond (variant == 23) (kind.list text inner (a == 1)) (
    cond (variant == 24) (kind.fixed_size_list text inner (a == 1) b) (
    cond (variant == 25) (kind.large_list text inner (a == 1)) (
    cond (variant == 26) (kind.dictionary (key_at b) inner (a == 1)) (
    kind.decimal a b)))))))))))))))))))))))))))

-- a type from its levels
abbrev pub kind_at : List Level → DataKind
kind_at [] = kind.null
kind_at (l ∷ levels) = kind_over l.0 l.1.0 l.1.1.0 l.1.1.1 (kind_at levels)

-- the levels give the type back
pub kind_at-levels_of : (t : DataKind) → kind_at (levels_of t) ≡ t
kind_at-levels_of kind.null = refl
kind_at-levels_of kind.boolean = refl
kind_at-levels_of kind.int8 = refl
kind_at-levels_of kind.int16 = refl
kind_at-levels_of kind.int32 = refl
kind_at-levels_of kind.int64 = refl
kind_at-levels_of kind.uint8 = refl
kind_at-levels_of kind.uint16 = refl
kind_at-levels_of kind.uint32 = refl
kind_at-levels_of kind.uint64 = refl
kind_at-levels_of (kind.timestamp u None) = ap (λ v. kind.timestamp v None) (unit_at-unit_number u)
kind_at-levels_of (kind.timestamp u (Some text)) = rw (unit_at-unit_number u)
kind_at-levels_of kind.date32 = refl
kind_at-levels_of kind.date64 = refl
kind_at-levels_of (kind.time32 u) = ap kind.time32 (unit_at-unit_number u)
kind_at-levels_of (kind.time64 u) = ap kind.time64 (unit_at-unit_number u)
kind_at-levels_of (kind.duration u) = ap kind.duration (unit_at-unit_number u)
kind_at-levels_of (kind.interval u) = ap kind.interval (span_at-span_number u)
kind_at-levels_of kind.binary = refl
kind_at-levels_of (kind.fixed_size_binary size) = refl
kind_at-levels_of kind.large_binary = refl
kind_at-levels_of kind.utf8 = refl
kind_at-levels_of kind.large_utf8 = refl
kind_at-levels_of (kind.list name item is_nullable) =
    rw (kind_at-levels_of item, truth_number-one is_nullable)
kind_at-levels_of (kind.fixed_size_list name item is_nullable size) =
    rw (kind_at-levels_of item, truth_number-one is_nullable)
kind_at-levels_of (kind.large_list name item is_nullable) =
    rw (kind_at-levels_of item, truth_number-one is_nullable)
kind_at-levels_of (kind.dictionary k values is_ordered) =
    rw (kind_at-levels_of values, key_at-key_number k, truth_number-one is_ordered)
kind_at-levels_of (kind.decimal precision scale) = refl

-- the code of types, for models whose value holds one
abbrev pub kind_code : Coded DataKind
kind_code =
    code_by (List Level)
    (coded_list (coded× coded_ℕ (coded× coded_ℕ (coded× coded_ℕ (coded_list coded_ℕ)))))
    levels_of kind_at kind_at-levels_of
