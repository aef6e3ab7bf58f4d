-- Facts on what a closure gives for the rows of arrays.
use Rattle.std.proofs.Common.{◌≡◌, zero, suc, Bool, List, [], ◌∷◌, ◌++◌}
use Rattle.std.proofs.Common.{length, map, Option, Some, None, Result, Ok, Err, refl, sym}
use Rattle.std.proofs.Common.{ap, ◌∙◌, arith, inl, inr}
use Rattle.std.specs.List.{zip}
use Rattle.std.proofs.lemmas.List.{append-nil, append_assoc, length-map, length_push, map_push}
use Rattle.col_types.specs.Answer.{UnlessMemory}
use Rattle.col_types.specs.declared.error.Error.{Error}
use Rattle.col_types.specs.declared.error.Error.TheVariants.{Memory}
use Rattle.col_arity.specs.Rows.{AnswersWith, IsCallableAtValid, IsFirstRefusal}
use Rattle.col_arity.specs.Rows.{MapsSlots}

-- what follows what was made for the front of the slots is what is made for those that are left
pub record MapsSoFar {X S : Type 0} (allows : X → S → Type 0) (none : S)
    (slots left : List (Option X)) (made : List S) : Type 0 where
  pub then : (later : List S) → MapsSlots allows none left later
      → MapsSlots allows none slots (made ++ later)

-- a value is answered as the closure answers it
AnswersWith-of : {X R N S : Type 0} {numbers : X → N} {post : X → R → Type 0} {seen : R → S}
    (x : X) (r : R) → post x r → AnswersWith numbers post seen (numbers x) (seen r)
AnswersWith-of x r h =
    record { value = x; answer = r; is_value = refl; answers = h; is_answer = refl }

-- one value on, with the closure's answer
pub MapsSoFar-value : {X R N S : Type 0} {numbers : X → N} {post : X → R → Type 0} {seen : R → S}
    {none : S} {slots left rest : List (Option N)} {made next : List S} (x : X) (r : R)
    → MapsSoFar (AnswersWith numbers post seen) none slots left made
    → left ≡ Some (numbers x) ∷ rest → post x r → next ≡ made ++ seen r ∷ []
    → MapsSoFar (AnswersWith numbers post seen) none slots rest next
MapsSoFar-value {seen = seen} {made = made} x r soFar is answered more = record {
  then = λ later h. rw (more, append_assoc made (seen r ∷ []) later)
      (soFar.then (seen r ∷ later) (rw is (AnswersWith-of x r answered, h)));
}

-- one null on
pub MapsSoFar-null : {X S : Type 0} {allows : X → S → Type 0} {none : S}
    {slots left rest : List (Option X)} {made next : List S} → MapsSoFar allows none slots left made
    → left ≡ None ∷ rest → next ≡ made ++ none ∷ [] → MapsSoFar allows none slots rest next
MapsSoFar-null {none = none} {made = made} soFar is more = record {
  then = λ later h. rw (more, append_assoc made (none ∷ []) later)
      (soFar.then (none ∷ later) (rw is (refl, h)));
}

-- at the end all is made
pub MapsSoFar-end : {X S : Type 0} {allows : X → S → Type 0} {none : S}
    {slots left : List (Option X)} {made : List S} → MapsSoFar allows none slots left made
    → left ≡ [] → MapsSlots allows none slots made
MapsSoFar-end soFar is = rw append-nil at (soFar.then [] (rw is tt))

-- what is refused first among the slots that are left is refused first among all
pub record RefusesSoFar {X R N : Type 0} (numbers : X → N) (post : X → Result R Error → Type 0)
    (slots left : List (Option N)) : Type 0 where
  pub then : (e : Error) → IsFirstRefusal numbers post left e → IsFirstRefusal numbers post slots e

-- one value on, which the closure answers
pub RefusesSoFar-value : {X R N : Type 0} {numbers : X → N} {post : X → Result R Error → Type 0}
    {slots left rest : List (Option N)} (x : X) (r : R) → RefusesSoFar numbers post slots left
    → left ≡ Some (numbers x) ∷ rest → post x (Ok r) → RefusesSoFar numbers post slots rest
RefusesSoFar-value x r soFar is answered =
    record { then = λ e h. soFar.then e (rw is (inr ((r, AnswersWith-of x r answered), h))) }

-- one null on
pub RefusesSoFar-null : {X R N : Type 0} {numbers : X → N} {post : X → Result R Error → Type 0}
    {slots left rest : List (Option N)} → RefusesSoFar numbers post slots left
    → left ≡ None ∷ rest → RefusesSoFar numbers post slots rest
RefusesSoFar-null soFar is = record { then = λ e h. soFar.then e (rw is h) }

-- a fact holds unless memory is wanted
UnlessMemory-from : (e : Error) (fact : Type 0) → fact → UnlessMemory e fact
UnlessMemory-from Memory fact h = tt
UnlessMemory-from _ fact h = h

-- the closure's refusal at the first of the slots that are left
pub RefusesSoFar-end : {X R N : Type 0} {numbers : X → N} {post : X → Result R Error → Type 0}
    {slots left rest : List (Option N)} (x : X) (e : Error) → RefusesSoFar numbers post slots left
    → left ≡ Some (numbers x) ∷ rest → post x (Err e)
    → UnlessMemory e (IsFirstRefusal numbers post slots e)
RefusesSoFar-end x e soFar is h = UnlessMemory-from e _
    (soFar.then e (rw is (inl (record { value = x; is_value = refl; refused = h }))))

-- the closure may be called for the values of the slots that are left
pub callable_rest : {X N : Type 0} (numbers : X → N)
    (pre : X → Type 0) {left rest : List (Option N)} {slot : Option N}
    → IsCallableAtValid numbers pre left → left ≡ slot ∷ rest → IsCallableAtValid numbers pre rest
callable_rest numbers pre callable is =
    λ x within. callable x (rw is (suc within.0, omega (arith, within.1), within.2))

-- and for the first of them
pub callable_first : {X N : Type 0} (numbers : X → N)
    (pre : X → Type 0) {left rest : List (Option N)} (x : X) → IsCallableAtValid numbers pre left
    → left ≡ Some (numbers x) ∷ rest → pre x
callable_first numbers pre x callable is = callable x (rw is (zero, omega arith, refl))

-- a row more of two lists of one length
zip-push : {X Y : Type 0} (xs : List X) (ys : List Y) (x : X) (y : Y) → length ys ≡ length xs
    → zip (xs ++ x ∷ []) (ys ++ y ∷ []) ≡ zip xs ys ++ (x, y) ∷ []
zip-push [] [] x y e = refl
zip-push [] (b ∷ ys) x y e = absurd (omega arith)
zip-push (a ∷ xs) [] x y e = absurd (omega arith)
zip-push {X} {Y} (a ∷ xs) (b ∷ ys) x y e =
    ap (λ (rest : List (X × Y)). (a, b) ∷ rest) (zip-push xs ys x y (omega arith))

-- a value pushed behind others, seen by its numbers
pub map-more : {T N : Type 0} (numbers : T → N) (values : List T) {values' : List T} {x : T}
    {ns : N} → values' ≡ values ++ x ∷ [] → numbers x ≡ ns
    → map numbers values' ≡ map numbers values ++ ns ∷ []
map-more {N = N} numbers values {x = x} more is =
    ap (map numbers) more ∙ map_push numbers values x
    ∙ ap (λ (n : N). map numbers values ++ n ∷ []) is

-- and with a flag beside it
pub zip-more : {T N : Type 0} (numbers : T → N) (values : List T) (flags : List Bool) (b : Bool)
    {values' : List T} {flags' : List Bool} {x : T} {ns : N} → length flags ≡ length values
    → values' ≡ values ++ x ∷ [] → numbers x ≡ ns → flags' ≡ flags ++ b ∷ []
    → zip (map numbers values') flags' ≡ zip (map numbers values) flags ++ (ns, b) ∷ []
zip-more numbers values flags b {ns = ns} one_length more is more_flags =
    rw (map-more numbers values more is, more_flags)
    (zip-push (map numbers values) flags ns b (one_length ∙ sym (length-map values numbers)))

-- then they are as many as one another again
pub length-more : {X Y : Type 0} (xs : List X) (ys : List Y) (x : X) (y : Y) {xs' : List X}
    {ys' : List Y} → length ys ≡ length xs → xs' ≡ xs ++ x ∷ [] → ys' ≡ ys ++ y ∷ []
    → length ys' ≡ length xs'
length-more xs ys x y e p q =
    rw (p, q) (omega (arith, length_push xs x, length_push ys y))
