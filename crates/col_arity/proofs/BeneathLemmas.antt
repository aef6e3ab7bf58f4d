-- Facts on answers whose nulls are those of the arrays that they are made from.
use Rattle.std.proofs.Common.{◌≡◌, suc, ℤ, Bool, false, List, [], ◌∷◌, length, map, is_some, Option}
use Rattle.std.proofs.Common.{Some, None, unwrap_or, refl, sym, ap, ◌∙◌, arith}
use Rattle.std.specs.List.{zip}
use Rattle.std.proofs.lemmas.List.{length-map}
use Rattle.col_types.specs.DataKind.{DataKind}
use Rattle.col_flat.specs.Parts.{HasFlags, IsMaskOf, PrimitiveParts, masked_slots}
use Rattle.col_flat.proofs.PartsLemmas.{IsMaskOf-flags, length-masked_slots, masked_slots-flags}
use Rattle.col_arity.specs.Rows.{AnswersWith, IsMapped, IsMappedWithFlags, MapsSlots}

-- as many rows are made as there are slots
pub length-made : {X S : Type 0} (allows : X → S → Type 0) (none : S) (slots : List (Option X))
    (made : List S) → MapsSlots allows none slots made → length slots ≡ length made
length-made allows none [] [] h = refl
length-made allows none [] (s ∷ made) h = absurd h
length-made allows none (slot ∷ slots) [] h = absurd h
length-made allows none (None ∷ slots) (s ∷ made) h =
    ap suc (length-made allows none slots made h.1)
length-made allows none (Some x ∷ slots) (s ∷ made) h =
    ap suc (length-made allows none slots made h.1)

-- values that are made row by row, beneath the flags of the rows
maps_beneath : {X : Type 0} (allows : X → Option (List ℤ) → Type 0) (stored : X → List ℤ → Type 0)
    (none : List ℤ) → ((x : X) (ns : List ℤ) → stored x ns → allows x (Some ns))
    → (slots : List (Option X)) (values : List (List ℤ)) → MapsSlots stored none slots values
    → MapsSlots allows None slots (masked_slots values (map is_some slots))
maps_beneath allows stored none wider [] [] h = tt
maps_beneath allows stored none wider [] (ns ∷ values) h = absurd h
maps_beneath allows stored none wider (slot ∷ slots) [] h = absurd h
maps_beneath allows stored none wider (None ∷ slots) (ns ∷ values) h =
    (refl, maps_beneath allows stored none wider slots values h.1)
maps_beneath allows stored none wider (Some x ∷ slots) (ns ∷ values) h =
    (wider x ns h.0, maps_beneath allows stored none wider slots values h.1)

-- a null has the flag of what stands beneath it
null_beneath : (none : List ℤ) {ns : List ℤ} (b : Bool)
    → ◌≡◌ {A = List ℤ × Bool} (ns, b) (none, false)
    → ◌≡◌ {A = Option (List ℤ) × Bool} (None, b) (None, false)
null_beneath none b is =
    let same : b ≡ false = ap (λ (p : List ℤ × Bool). p.1) is in
    rw same refl

-- the same for values with flags beside them
maps_beneath_flags : {X : Type 0} (allows : X → Option (List ℤ) × Bool → Type 0)
    (stored : X → List ℤ × Bool → Type 0) (none : List ℤ)
    → ((x : X) (ns : List ℤ) (b : Bool) → stored x (ns, b) → allows x (Some ns, b))
    → (slots : List (Option X)) (values : List (List ℤ)) (truths : List Bool)
    → length truths ≡ length values → MapsSlots stored (none, false) slots (zip values truths)
    → MapsSlots allows (None, false) slots (zip (masked_slots values (map is_some slots)) truths)
maps_beneath_flags allows stored none wider [] [] truths e h = tt
maps_beneath_flags allows stored none wider [] (ns ∷ values) [] e h = absurd (omega arith)
maps_beneath_flags allows stored none wider [] (ns ∷ values) (b ∷ truths) e h = absurd h
maps_beneath_flags allows stored none wider (slot ∷ slots) [] truths e h = absurd h
maps_beneath_flags allows stored none wider (slot ∷ slots) (ns ∷ values) [] e h =
    absurd (omega arith)
maps_beneath_flags allows stored none wider (None ∷ slots) (ns ∷ values) (b ∷ truths) e h = (
  null_beneath none b h.0,
  maps_beneath_flags allows stored none wider slots values truths
      (omega arith) h.1,
)
maps_beneath_flags allows stored none wider (Some x ∷ slots) (ns ∷ values) (b ∷ truths) e h = (
  wider x ns b h.0,
  maps_beneath_flags allows stored none wider slots values truths
      (omega arith) h.1,
)

-- as many pairs as elements of either of two lists of one length
length_zip : {X Y : Type 0} (xs : List X) (ys : List Y) → length ys ≡ length xs
    → length (zip xs ys) ≡ length xs
length_zip [] [] e = refl
length_zip [] (y ∷ ys) e = absurd (omega arith)
length_zip (x ∷ xs) [] e = absurd (omega arith)
length_zip (x ∷ xs) (y ∷ ys) e = ap suc (length_zip xs ys (omega arith))

-- an answer as a slot
pub AnswersWith-some : {X R N S : Type 0} {numbers : X → N} {post : X → R → Type 0} {seen : R → S}
    {n : N} {s : S} → AnswersWith numbers post seen n s
    → AnswersWith numbers post (λ r. Some (seen r)) n (Some s)
AnswersWith-some h = record {
  value = h.value;
  answer = h.answer;
  is_value = h.is_value;
  answers = h.answers;
  is_answer = ap Some h.is_answer;
}

-- an answer whose values are made row by row, beneath a mask that tells which rows are valid
pub IsMapped-beneath : {X R N : Type 0} (numbers : X → N) (post : X → R → Type 0)
    (seen : R → List ℤ) (none : List ℤ) (t : DataKind) (slots : List (Option N))
    (values : List (List ℤ)) (mask : Option (List Bool)) (array : PrimitiveParts)
    → HasFlags mask (map is_some slots)
    → MapsSlots (AnswersWith numbers post seen) none slots values
    → array ≡ record { data_type = t; values = values; validity = mask }
    → IsMapped t (AnswersWith numbers post (λ r. Some (seen r))) slots array
IsMapped-beneath numbers post seen none t slots values mask array flags made is = rw is (record {
  data_type = refl;
  rows = rw (masked_slots-flags values mask (map is_some slots) flags)
      (maps_beneath (AnswersWith numbers post (λ r. Some (seen r)))
      (AnswersWith numbers post seen) none
      (λ x ns h. AnswersWith-some h) slots values made);
})

-- a mask that tells which rows are valid has a flag for each value that is made
pub IsMaskOf-made : {X T : Type 0} (allows : X → List ℤ → Type 0) (none : List ℤ)
    (slots : List (Option X)) (numbers : T → List ℤ) (values : List T) (mask : Option (List Bool))
    → HasFlags mask (map is_some slots) → MapsSlots allows none slots (map numbers values)
    → IsMaskOf mask (length values)
IsMaskOf-made allows none slots numbers values mask flags made =
    IsMaskOf-flags mask (map is_some slots) (length values) flags
    (length-map slots is_some ∙ length-made allows none slots (map numbers values) made
    ∙ length-map values numbers)

-- values and flags that are made row by row, beneath a mask that tells which rows are valid
pub IsMappedWithFlags-beneath : {X R N : Type 0} (numbers : X → N) (post : X → R → Type 0)
    (seen : R → List ℤ) (flag : R → Bool) (none : List ℤ) (t : DataKind) (slots : List (Option N))
    (values : List (List ℤ)) (truths flags : List Bool) (mask : Option (List Bool))
    (array : PrimitiveParts) → HasFlags mask (map is_some slots) → length truths ≡ length values
    → MapsSlots (AnswersWith numbers post (λ r. (seen r, flag r))) (none, false) slots
    (zip values truths) → array ≡ record { data_type = t; values = values; validity = mask }
    → flags ≡ truths → IsMappedWithFlags t (AnswersWith numbers post (λ r. (Some (seen r), flag r)))
    slots array flags
IsMappedWithFlags-beneath numbers post seen flag none t slots values truths flags mask array valid
    one_length made is same = rw (is, same) (record {
      data_type = refl;
      one_length = one_length ∙ sym (length-masked_slots values (unwrap_or mask []));
      rows = rw (masked_slots-flags values mask (map is_some slots) valid)
          (maps_beneath_flags (AnswersWith numbers post (λ r. (Some (seen r), flag r)))
          (AnswersWith numbers post (λ r. (seen r, flag r))) none
          (λ x ns b h. record {
            value = h.value;
            answer = h.answer;
            is_value = h.is_value;
            answers = h.answers;
            is_answer = ap (λ (p : List ℤ × Bool). (Some p.0, p.1)) h.is_answer;
          })
          slots values truths one_length made);
    })

-- flags that are made beside values are as many as these
pub IsMaskOf-made_flags : {X T : Type 0} (allows : X → List ℤ × Bool → Type 0)
    (none : List ℤ × Bool) (slots : List (Option X)) (numbers : T → List ℤ) (values : List T)
    (truths : List Bool) (mask : Option (List Bool)) → HasFlags mask (map is_some slots)
    → length truths ≡ length values → MapsSlots allows none slots (zip (map numbers values) truths)
    → IsMaskOf mask (length values)
IsMaskOf-made_flags allows none slots numbers values truths mask flags one_length made =
    IsMaskOf-flags mask (map is_some slots) (length values) flags
    (length-map slots is_some ∙ length-made allows none slots (zip (map numbers values) truths) made
    ∙ length_zip (map numbers values) truths (one_length ∙ sym (length-map values numbers))
    ∙ length-map values numbers)
