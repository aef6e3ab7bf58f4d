-- What is read of the items of a list, one after another.
use Rattle.std.proofs.Common.{◌≡◌, Bool, true, false, cond, List, ◌∷◌, ◌++◌, Option, Some, None}
use Rattle.std.proofs.Common.{option_map, refl}
use Rattle.std.proofs.lemmas.Option.{none-some, same_Some}
use Rattle.col_model.specs.Whole.{option_cons}
use Rattle.col_document.specs.Json.{◌>>=◌}

-- what is done, in front of what the rest gives
abbrev pub front : {Y : Type 0} → List Y → Option (List Y) → Option (List Y)
front done None = None
front done (Some rest) = Some (done ++ rest)

-- what is read on was there
pub bind_some : {X Y : Type 0} (f : X → Option Y) (o : Option X) (y : Y) → (o >>= f) ≡ Some y
    → (x : X) × (o ≡ Some x) × (f x ≡ Some y)
bind_some f None y e = absurd (none-some y e)
bind_some f (Some x) y e = (x, refl, e)

-- a list that is there has a first item and a rest
pub option_cons-some : {Y : Type 0} (o : Option Y) (rest : Option (List Y)) (ys : List Y)
    → option_cons o rest ≡ Some ys → (y : Y) × (zs : List Y) × (o ≡ Some y) × (rest ≡ Some zs)
    × (y ∷ zs ≡ ys)
option_cons-some None rest ys e = absurd (none-some ys e)
option_cons-some (Some y) None ys e = absurd (none-some ys e)
option_cons-some (Some y) (Some zs) ys e = (y, zs, refl, refl, same_Some _ _ e)

-- a value where a test holds, under a function
pub option_map-tested : {X Y : Type 0} (f : X → Y) (b : Bool) (x : X)
    → cond b (Some (f x)) None ≡ option_map f (cond b (Some x) None)
option_map-tested f true x = refl
option_map-tested f false x = refl

-- a value stays under a function that gives back what it gets
pub option_map-same : {X : Type 0} (o : Option X) → option_map (λ x. x) o ≡ o
option_map-same None = refl
option_map-same (Some x) = refl
