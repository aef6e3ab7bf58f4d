use Rattle.std.proofs.Common.{◌≡◌, [], ◌∷◌, Ok, refl, inl, inr}
use Rattle.std.proofs.lemmas.List.Elements.{All-head, All-tail}
use Rattle.col_model.specs.Cell.{Cell, null, whole}
use Rattle.col_model.specs.Whole.{WholeType}
use Rattle.col_model.specs.Bitwise.{bitwise_not}
use Rattle.col_basic.specs.Bits.{not_step}
use Rattle.col_basic.specs.Laws.{IsNullOrFits, NotTwiceKeepsSlots}
use Rattle.col_basic.proofs.BitLemmas.{not_twice}
use Rattle.col_basic.proofs.laws.not_twice_keeps_slots.Goals as goal

-- one cell
one_cell : (t : WholeType) (c : Cell) → IsNullOrFits t c
    → (d : Cell) × ((not_step t c ≡ Ok d) × (not_step t d ≡ Ok c))
one_cell t c (inl h) = (null, (rw h refl, rw h refl))
one_cell t c (inr (n, (h, f))) =
    (whole (bitwise_not t n), (rw h refl, rw (h, not_twice t n f) refl))

-- row by row
law : NotTwiceKeepsSlots
law t [] h = record { once = []; turned = refl; turned_back = refl }
law t (c ∷ cells) h =
    let first = one_cell t c (All-head (IsNullOrFits t) c cells h) in
    let rest = law t cells (All-tail (IsNullOrFits t) c cells h) in
    record {
      once = first.0 ∷ rest.once;
      turned = rw (first.1.0, rest.turned) refl;
      turned_back = rw (first.1.1, rest.turned_back) refl;
    }

pub returns : goal.returns
returns c = law
