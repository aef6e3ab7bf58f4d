use Rattle.std.proofs.Common.{◌≡◌, [], ◌∷◌, Ok, refl, inl, inr}
use Rattle.std.proofs.lemmas.List.Elements.{All-head, All-tail}
use Rattle.col_model.specs.Cell.{Cell, null, whole}
use Rattle.col_model.specs.Whole.{WholeType}
use Rattle.col_model.specs.Bitwise.{bitwise_xor}
use Rattle.col_basic.specs.Bits.{xor_step}
use Rattle.col_basic.specs.Laws.{IsNullOrFits, XorTwiceKeepsSlots}
use Rattle.col_basic.specs.Laws.{left_beside_number}
use Rattle.col_basic.proofs.BitLemmas.{xor_twice}
use Rattle.col_basic.proofs.laws.xor_twice_keeps_slots.Goals as goal

-- one row
one_row : (t : WholeType) (x y : Cell) → IsNullOrFits t x
    → (c : Cell) × ((xor_step t x y ≡ Ok c) × (xor_step t c y ≡ left_beside_number x y))
one_row t x (whole b) (inl h) = (null, (rw h refl, rw h refl))
one_row t x (whole b) (inr (a, (h, f))) =
    (whole (bitwise_xor t a b), (rw h refl, rw (h, xor_twice t a b f) refl))
one_row t x _ (inl h) = (null, (rw h refl, refl))
one_row t x _ (inr (a, (h, f))) = (null, (rw h refl, refl))

-- row by row
law : XorTwiceKeepsSlots
law t [] right h = record { once = []; changed = refl; changed_back = refl }
law t (x ∷ left) [] h = record { once = []; changed = refl; changed_back = refl }
law t (x ∷ left) (y ∷ right) h =
    let first = one_row t x y (All-head (IsNullOrFits t) x left h) in
    let rest = law t left right (All-tail (IsNullOrFits t) x left h) in
    record {
      once = first.0 ∷ rest.once;
      changed = rw (first.1.0, rest.changed) refl;
      changed_back = rw (first.1.1, rest.changed_back) refl;
    }

pub returns : goal.returns
returns c = law
