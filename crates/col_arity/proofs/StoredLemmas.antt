-- Facts on loops that answer values where they stand.
use Rattle.std.proofs.Common.{◌≡◌, ℕ, suc, ◌+◌, ◌<◌, ◌≤◌, List, [], ◌∷◌, ◌++◌, length, map}
use Rattle.std.proofs.Common.{get_or, set, take, drop, Option, Some, None, ap, sym, ◌∙◌, arith}
use Rattle.std.proofs.Common.{add-one, ℤ, Bool, true, false, is_some, unwrap_or, refl, IsTrue}
use Rattle.std.specs.Bool.{⊤}
use Rattle.std.specs.List.{zip}
use Rattle.std.proofs.Math.Seq.{drop-cons}
use Rattle.std.proofs.lemmas.List.{drop-set-lt, drop_all, map_push}
use Rattle.std.proofs.lemmas.List.{take_all, take_more_set, get_or-map, length-map}
use Rattle.std.specs.List.{list_all}
use Rattle.col_types.specs.DataKind.{DataKind}
use Rattle.col_flat.specs.Parts.{HasFlags, IsMaskOf, PrimitiveParts, column_of, masked_slots}
use Rattle.col_flat.specs.Parts.{slot_pairs, slots_of, zipped_slots}
use Rattle.col_flat.proofs.PartsLemmas.{IsMaskOf-flags, masked_slots-flags, row_count-values}
use Rattle.col_types.specs.Column.{row_count}
use Rattle.col_arity.proofs.BeneathLemmas.{AnswersWith-some, length-made}
use Rattle.col_arity.specs.Rows.{AnswersWith, IsCallableAtStored, IsCallableAtValid, IsMapped}
use Rattle.col_arity.specs.Rows.{MapsSlots}
use Rattle.col_arity.proofs.RowLemmas.{MapsSoFar, MapsSoFar-end}

-- the values from a row on, as rows that are all valid
abbrev pub stored_from : {T N : Type 0} → (T → N) → List T → ℕ → List (Option N)
stored_from numbers values i = map Some (map numbers (drop i values))

-- the rows of two lists of values from a row on
abbrev pub stored_pairs_from : {T D M N : Type 0} → (T → M) → (D → N) → List T → List D → ℕ
    → List (Option (M × N))
stored_pairs_from left right values others i =
    map Some (zip (map left (drop i values)) (map right (drop i others)))

-- what stands behind a row is the same after a store there
behind_set : {T : Type 0} (values : List T) (i : ℕ) (v : T)
    → drop (i + 1) (set values i v) ≡ drop (i + 1) values
behind_set values i v = drop-set-lt (i + 1) values i v (omega arith)

-- the value at a row in front of what stands behind it
row_first : {T : Type 0} (values : List T) (i : ℕ) (x : T) → i < length values
    → x ≡ get_or values i x → drop i values ≡ x ∷ drop (i + 1) values
row_first values i x within is =
    rw add-one (drop-cons values i x within ∙ ap (λ y. y ∷ drop (suc i) values) (sym is))

-- the same where another is stored in its place
at_row : {T : Type 0} (values : List T) (i : ℕ) (x v : T) → i < length values
    → x ≡ get_or values i x → drop i values ≡ x ∷ drop (i + 1) (set values i v)
at_row values i x v within is = rw (behind_set values i v) (row_first values i x within is)

-- one row on
pub stored_from-next : {T N : Type 0} (numbers : T → N) (values : List T) (i : ℕ) (x v : T)
    → i < length values → x ≡ get_or values i x
    → stored_from numbers values i ≡ Some (numbers x) ∷ stored_from numbers (set values i v) (i + 1)
stored_from-next numbers values i x v within is =
    ap (λ rest. map Some (map numbers rest)) (at_row values i x v within is)

-- an answer more
pub stored-more : {T N : Type 0} (numbers : T → N) (values : List T) (i : ℕ) (v : T)
    → i < length values
    → map numbers (take (i + 1) (set values i v)) ≡ map numbers (take i values) ++ numbers v ∷ []
stored-more numbers values i v within =
    ap (map numbers) (take_more_set values i v within) ∙ map_push numbers (take i values) v

-- one row of two lists on
pub stored_pairs_from-next : {T D M N : Type 0} (left : T → M) (right : D → N) (values : List T)
    (others : List D) (i : ℕ) (x v : T) (y : D) → i < length values → length others ≡ length values
    → x ≡ get_or values i x → y ≡ get_or others i y → stored_pairs_from left right values others i
    ≡ Some (left x, right y) ∷ stored_pairs_from left right (set values i v) others (i + 1)
stored_pairs_from-next left right values others i x v y within same is other =
    let there : i < length others = omega arith in
    ap (λ rest. map Some (zip (map left rest) (map right (drop i others))))
    (at_row values i x v within is)
    ∙ ap (λ rest. map Some (zip (left x ∷ map left (drop (i + 1) (set values i v)))
    (map right rest))) (row_first others i y there other)

-- at the end all is answered
pub stored-end : {T X N : Type 0} {allows : X → N → Type 0} {none : N}
    {slots left : List (Option X)} (numbers : T → N) (values : List T) (i : ℕ)
    → MapsSoFar allows none slots left (map numbers (take i values)) → length values ≤ i → left ≡ []
    → MapsSlots allows none slots (map numbers values)
stored-end numbers values i soFar behind is =
    rw (take_all i values behind) at (MapsSoFar-end soFar is)

-- no row stands behind the last one
pub stored_from-end : {T N : Type 0} (numbers : T → N) (values : List T) (i : ℕ)
    → length values ≤ i → stored_from numbers values i ≡ []
stored_from-end numbers values i behind =
    ap (λ rest. map Some (map numbers rest)) (drop_all i values behind)

pub stored_pairs_from-end : {T D M N : Type 0} (left : T → M) (right : D → N) (values : List T)
    (others : List D) (i : ℕ) → length values ≤ i
    → stored_pairs_from left right values others i ≡ []
stored_pairs_from-end left right values others i behind =
    ap (λ rest. map Some (zip (map left rest) (map right (drop i others))))
    (drop_all i values behind)

-- each slot that is not null has the value that is stored at its row
abbrev pub Shows : {N : Type 0} → List N → List (Option N) → Type 0
Shows [] [] = ⊤
Shows [] (slot ∷ slots) = ⊥
Shows (n ∷ values) [] = ⊥
Shows (n ∷ values) (None ∷ slots) = Shows values slots
Shows (n ∷ values) (Some m ∷ slots) = (m ≡ n) × Shows values slots

-- the slots of an array show the values that it stores
pub shows_one : (values : List (List ℤ)) (flags : List Bool)
    → Shows values (masked_slots values flags)
shows_one [] flags = tt
shows_one (ns ∷ values) [] = (refl, shows_one values [])
shows_one (ns ∷ values) (true ∷ flags) = (refl, shows_one values flags)
shows_one (ns ∷ values) (false ∷ flags) = shows_one values flags

-- the rows of two lists of slots show both values
shows_zipped : {M N : Type 0} (left : List M) (right : List N) (lhs : List (Option M))
    (rhs : List (Option N)) → Shows left lhs → Shows right rhs
    → Shows (zip left right) (zipped_slots lhs rhs)
shows_zipped [] right [] rhs l r = tt
shows_zipped [] right (x ∷ lhs) rhs l r = absurd l
shows_zipped (m ∷ left) right [] rhs l r = absurd l
shows_zipped (m ∷ left) [] (x ∷ lhs) [] l r = tt
shows_zipped (m ∷ left) [] (x ∷ lhs) (y ∷ rhs) l r = absurd r
shows_zipped (m ∷ left) (n ∷ right) (x ∷ lhs) [] l r = absurd r
shows_zipped (m ∷ left) (n ∷ right) (None ∷ lhs) (None ∷ rhs) l r =
    shows_zipped left right lhs rhs l r
shows_zipped (m ∷ left) (n ∷ right) (None ∷ lhs) (Some y ∷ rhs) l r =
    shows_zipped left right lhs rhs l r.1
shows_zipped (m ∷ left) (n ∷ right) (Some x ∷ lhs) (None ∷ rhs) l r =
    shows_zipped left right lhs rhs l.1 r
shows_zipped (m ∷ left) (n ∷ right) (Some x ∷ lhs) (Some y ∷ rhs) l r =
    (cc (l.0, r.0), shows_zipped left right lhs rhs l.1 r.1)

-- the rows of two arrays show both values
pub shows_pairs : (a b : PrimitiveParts) → Shows (zip a.values b.values) (slot_pairs a b)
shows_pairs a b = shows_zipped a.values b.values (slots_of a) (slots_of b)
    (shows_one a.values (unwrap_or a.validity [])) (shows_one b.values (unwrap_or b.validity []))

-- rows that are all valid are the values that they show
shows_all : {N : Type 0} (values : List N) (slots : List (Option N)) → Shows values slots
    → IsTrue (list_all (λ flag. flag) (map is_some slots)) → slots ≡ map Some values
shows_all [] [] s h = refl
shows_all [] (slot ∷ slots) s h = absurd s
shows_all (n ∷ values) [] s h = absurd s
shows_all (n ∷ values) (None ∷ slots) s h = cc
shows_all (n ∷ values) (Some m ∷ slots) s h = cc (s.0, shows_all values slots s.1 h)

-- the rows of two arrays without nulls are the values that they store
pub stored_rows : {T D : Type 0} (left : T → List ℤ) (right : D → List ℤ) (values : List T)
    (others : List D) (a b : PrimitiveParts) → map left values ≡ a.values
    → map right others ≡ b.values → HasFlags None (map is_some (slot_pairs a b))
    → slot_pairs a b ≡ map Some (zip (map left values) (map right others))
stored_rows left right values others a b l r flags = rw (l, r)
    (shows_all (zip a.values b.values) (slot_pairs a b) (shows_pairs a b) flags)

-- two arrays with as many rows store as many values
pub stored_length : {T D : Type 0} (left : T → List ℤ) (right : D → List ℤ) (values : List T)
    (others : List D) (a b : PrimitiveParts) → map left values ≡ a.values
    → map right others ≡ b.values → row_count (column_of a) ≡ row_count (column_of b)
    → length others ≡ length values
stored_length left right values others a b l r rows =
    sym (length-map others right) ∙ ap length r ∙ sym (row_count-values b) ∙ sym rows
    ∙ row_count-values a ∙ sym (ap length l) ∙ length-map values left

-- a closure that may be called for rows that are all valid may be called for their values
pub callable_each : {X N : Type 0} (numbers : X → N) (pre : X → Type 0) (values : List N)
    → IsCallableAtValid numbers pre (map Some values) → IsCallableAtStored numbers pre values
callable_each numbers pre values callable = λ x within.
    let k = within.0 in
    let there : k < length (map Some values) = omega (arith, within.1, length-map values Some) in
    let first = get_or-map Some values k (numbers x) (Some (numbers x)) within.1 in
    callable x (k, there, cc (first, within.2))

-- what is made of all stored values, beneath the flags of the rows that show them
maps_shown : {X : Type 0} (allows : X → Option (List ℤ) → Type 0) (stored : X → List ℤ → Type 0)
    (none : List ℤ) → ((x : X) (ns : List ℤ) → stored x ns → allows x (Some ns))
    → (values : List X) (slots : List (Option X)) (made : List (List ℤ)) → Shows values slots
    → MapsSlots stored none (map Some values) made
    → MapsSlots allows None slots (masked_slots made (map is_some slots))
maps_shown allows stored none wider [] [] [] s h = tt
maps_shown allows stored none wider [] [] (ns ∷ made) s h = absurd h
maps_shown allows stored none wider [] (slot ∷ slots) made s h = absurd s
maps_shown allows stored none wider (x ∷ values) [] made s h = absurd s
maps_shown allows stored none wider (x ∷ values) (slot ∷ slots) [] s h = absurd h
maps_shown allows stored none wider (x ∷ values) (None ∷ slots) (ns ∷ made) s h =
    (refl, maps_shown allows stored none wider values slots made s h.1)
maps_shown allows stored none wider (x ∷ values) (Some y ∷ slots) (ns ∷ made) s h =
    (rw s.0 (wider x ns h.0), maps_shown allows stored none wider values slots made s.1 h.1)

-- an array whose values are made of all stored ones, beneath a mask that tells which are valid
pub IsMapped-stored : {X R N : Type 0} (numbers : X → N) (post : X → R → Type 0)
    (seen : R → List ℤ) (none : List ℤ) (t : DataKind) (stored : List N) (slots : List (Option N))
    (made : List (List ℤ)) (mask : Option (List Bool)) (array : PrimitiveParts)
    → Shows stored slots → HasFlags mask (map is_some slots)
    → MapsSlots (AnswersWith numbers post seen) none (map Some stored) made
    → array ≡ record { data_type = t; values = made; validity = mask }
    → IsMapped t (AnswersWith numbers post (λ r. Some (seen r))) slots array
IsMapped-stored numbers post seen none t stored slots made mask array shows flags answers is =
    rw is (record {
      data_type = refl;
      rows = rw (masked_slots-flags made mask (map is_some slots) flags)
          (maps_shown (AnswersWith numbers post (λ r. Some (seen r)))
          (AnswersWith numbers post seen) none (λ x ns h. AnswersWith-some h) stored slots made
          shows answers);
    })

-- as many rows as the values that they show
length-shown : {N : Type 0} (values : List N) (slots : List (Option N)) → Shows values slots
    → length slots ≡ length values
length-shown [] [] s = refl
length-shown [] (slot ∷ slots) s = absurd s
length-shown (n ∷ values) [] s = absurd s
length-shown (n ∷ values) (None ∷ slots) s = ap suc (length-shown values slots s)
length-shown (n ∷ values) (Some m ∷ slots) s = ap suc (length-shown values slots s.1)

-- a mask that tells which rows are valid has a flag for each value that is made
pub IsMaskOf-stored : {N T : Type 0} (allows : N → List ℤ → Type 0) (none : List ℤ)
    (stored : List N) (slots : List (Option N)) (numbers : T → List ℤ) (made : List T)
    (mask : Option (List Bool)) → Shows stored slots → HasFlags mask (map is_some slots)
    → MapsSlots allows none (map Some stored) (map numbers made) → IsMaskOf mask (length made)
IsMaskOf-stored allows none stored slots numbers made mask shows flags answers =
    IsMaskOf-flags mask (map is_some slots) (length made) flags
    (length-map slots is_some ∙ length-shown stored slots shows ∙ sym (length-map stored Some)
    ∙ length-made allows none (map Some stored) (map numbers made) answers
    ∙ length-map made numbers)
