-- One slot more behind others.
use Rattle.std.proofs.Common.{◌≡◌, ◌∷◌, ◌++◌, [], Bool, ℤ, List, length, Option, Some, None}
use Rattle.std.proofs.Common.{is_some, option_map, unwrap_or, refl, ap, arith}
use Rattle.col_flat.specs.Parts.{masked_slots, slot_beneath}

-- one slot more beneath its flag
pub masked_slots-push : (values : List (List ℤ)) (flags : List Bool) (ns : List ℤ) (b : Bool)
    → length flags ≡ length values
    → masked_slots (values ++ ns ∷ []) (flags ++ b ∷ [])
    ≡ masked_slots values flags ++ slot_beneath b ns ∷ []
masked_slots-push [] [] ns b e = refl
masked_slots-push [] (f ∷ flags) ns b e = absurd (omega arith)
masked_slots-push (v ∷ values) [] ns b e = absurd (omega arith)
masked_slots-push (v ∷ values) (f ∷ flags) ns b e =
    ap (λ (rest : List (Option (List ℤ))). slot_beneath f v ∷ rest)
    (masked_slots-push values flags ns b (omega arith))

-- a slot's flag and the value that is stored for it stand for that slot
pub slot_beneath-stored : {T : Type 0} (numbers : T → List ℤ) (slot : Option T) (x : T)
    → slot_beneath (is_some slot) (numbers (unwrap_or slot x)) ≡ option_map numbers slot
slot_beneath-stored numbers None x = refl
slot_beneath-stored numbers (Some v) x = refl
