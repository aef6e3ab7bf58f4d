-- Lists that a loop goes through.
use Rattle.std.proofs.Common.{◌≡◌, ℕ, suc, ◌+◌, ◌<◌, List, ◌∷◌, length, drop, get_or, ap₂, sym}
use Rattle.std.proofs.Common.{◌∙◌, arith}
use Rattle.std.proofs.Math.Seq.{drop-cons}

-- the next element, and what is left behind it
pub drop-next : {X : Type 0} (xs : List X) (i : ℕ) (x : X) → i < length xs → x ≡ get_or xs i x
    → drop i xs ≡ x ∷ drop (i + 1) xs
drop-next {X} xs i x h is =
    let next : suc i ≡ i + 1 = omega arith in
    drop-cons xs i x h
    ∙ ap₂ (λ (y : X) (k : ℕ). y ∷ drop k xs) (sym is) next
