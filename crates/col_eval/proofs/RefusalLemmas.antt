-- What all rows give is the cell of each, or their least refusal.
use Rattle.std.proofs.Common.{◌≡◌, ℕ, zero, suc, ◌<◌, ◌≤◌, inl, inr, true, false, nat_le, cond}
use Rattle.std.proofs.Common.{List, [], ◌∷◌, map, slice_get, Some, refl, ap, arith}
use Rattle.std.proofs.lemmas.Bool.{leb-true, leb-false}
use Rattle.std.proofs.Math.Nat.{eq-or-lt_of_le}
use Rattle.col_model.specs.Cell.{Cell, Cause}
use Rattle.col_eval.specs.Meaning.{RowAnswer, cell, refused_at, RowsAnswer, all_cells, refusal}
use Rattle.col_eval.specs.Meaning.{in_front, sooner, gathered}
use Rattle.col_eval.specs.Laws.{IsGatheredFrom, IsLeastRefusal, IsNoLater}

-- a lesser or equal step, at the first row
IsNoLater-first : (number other other_row : ℕ) → number ≤ other → IsNoLater number 0 other other_row
IsNoLater-first number other other_row h =
    elim (eq-or-lt_of_le h) [ inl same ↦ inr (same, omega arith) | inr less ↦ inl less ]

-- no cell is a refusal
cells_refuse_nothing : (cells : List Cell) (row number : ℕ) (c : Cause)
    → slice_get (map cell cells) row ≡ Some (refused_at number c) → ⊥
cells_refuse_nothing [] row number c h = cc
cells_refuse_nothing (x ∷ cells) zero number c h = cc
cells_refuse_nothing (x ∷ cells) (suc row) number c h = cells_refuse_nothing cells row number c h

-- one row down
IsNoLater-down : (number row other other_row : ℕ) → IsNoLater number row other other_row
    → IsNoLater number (suc row) other (suc other_row)
IsNoLater-down number row other other_row h =
    elim h [ inl less ↦ inl less | inr same ↦ inr (same.0, omega arith) ]

-- the least refusal stays so below a row that refuses later, or not at all
IsLeastRefusal-below : (a : RowAnswer) (rows : List RowAnswer) (number : ℕ) (cause : Cause)
    → ((other : ℕ) (c : Cause) → a ≡ refused_at other c → number < other)
    → IsLeastRefusal rows number cause → IsLeastRefusal (a ∷ rows) number cause
IsLeastRefusal-below a rows number cause later h = record {
  row = suc h.row;
  refuses = h.refuses;
  is_least = λ other other_row c refused. elim other_row as
      (λ at. slice_get (a ∷ rows) at ≡ Some (refused_at other c)
      → IsNoLater number (suc h.row) other at) [
        | zero ↦ λ here. inl (later other c cc)
        | suc below ↦ λ there. IsNoLater-down number h.row other below
            (h.is_least other below c there)
      ] refused;
}

-- one more cell in front
IsGatheredFrom-in_front : (c : Cell) (rows : List RowAnswer) (all : RowsAnswer)
    → IsGatheredFrom rows all → IsGatheredFrom (cell c ∷ rows) (in_front c all)
IsGatheredFrom-in_front c rows (all_cells cells) h =
    ap (λ (below : List RowAnswer). cell c ∷ below) h
IsGatheredFrom-in_front c rows (refusal number cause) h =
    IsLeastRefusal-below (cell c) rows number cause (λ other d e. absurd cc) h

-- the first row's refusal is the least where no row below refuses sooner
IsLeastRefusal-first : (rows : List RowAnswer) (number : ℕ) (cause : Cause)
    → ((other other_row : ℕ) (c : Cause) → slice_get rows other_row ≡ Some (refused_at other c)
    → number ≤ other) → IsLeastRefusal (refused_at number cause ∷ rows) number cause
IsLeastRefusal-first rows number cause later = record {
  row = 0;
  refuses = refl;
  is_least = λ other other_row c refused. elim other_row as
      (λ at. slice_get (refused_at number cause ∷ rows) at ≡ Some (refused_at other c)
      → IsNoLater number 0 other at) [
        | zero ↦ λ here. inr (cc, omega arith)
        | suc below ↦ λ there. IsNoLater-first number other (suc below) (later other below c there)
      ] refused;
}

-- a refusal that is no later has no greater step
IsNoLater-step : (number row other other_row : ℕ) → IsNoLater number row other other_row
    → number ≤ other
IsNoLater-step number row other other_row h =
    elim h [ inl less ↦ omega arith | inr same ↦ omega arith ]

-- one more refusal in front
IsGatheredFrom-sooner : (rows : List RowAnswer) (number : ℕ) (cause : Cause) (all : RowsAnswer)
    → IsGatheredFrom rows all
    → IsGatheredFrom (refused_at number cause ∷ rows) (sooner number cause all)
IsGatheredFrom-sooner rows number cause (all_cells cells) h =
    IsLeastRefusal-first rows number cause
    (λ other other_row c refused. absurd
    (cells_refuse_nothing cells other_row other c (rw h at refused)))
IsGatheredFrom-sooner rows number cause (refusal k d) h =
    elim (nat_le number k) as
    (λ b. nat_le number k ≡ b
    → IsGatheredFrom (refused_at number cause ∷ rows)
    (cond b (refusal number cause) (refusal k d))) [
      | true ↦ λ e. IsLeastRefusal-first rows number cause
          (λ other other_row c refused. omega (
            arith,
            leb-true number k e,
            IsNoLater-step k h.row other other_row
                (h.is_least other other_row c refused),
          ))
      | false ↦ λ e. IsLeastRefusal-below (refused_at number cause) rows k d
          (λ other c same. let at : number ≡ other = cc in omega (arith, leb-false number k e)) h
    ] refl

-- all rows together give the cell of each, or their least refusal
pub IsGatheredFrom-gathered : (rows : List RowAnswer) → IsGatheredFrom rows (gathered rows)
IsGatheredFrom-gathered [] = refl
IsGatheredFrom-gathered (cell c ∷ rows) =
    IsGatheredFrom-in_front c rows (gathered rows) (IsGatheredFrom-gathered rows)
IsGatheredFrom-gathered (refused_at number cause ∷ rows) =
    IsGatheredFrom-sooner rows number cause (gathered rows) (IsGatheredFrom-gathered rows)
