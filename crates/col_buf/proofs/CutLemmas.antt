-- Lemmas on parts of a list.
use Rattle.std.proofs.Common.{◌≡◌, ℕ, ◌+◌, ◌-◌, ◌≤◌, List, take, drop, arith, sym, ap, ◌∙◌}
use Rattle.std.proofs.Common.{length-take}
use Rattle.std.proofs.lemmas.List.{drop-take, drop-drop, take-take}
use Rattle.col_buf.specs.Cut.{IsWithin, cut}

-- a part of a part is a part of the whole
pub cut-cut : {X : Type 0} (xs : List X) (start count offset n : ℕ) →
    IsWithin (cut xs start count) offset n →
    cut (cut xs start count) offset n ≡ cut xs (start + offset) n
cut-cut xs start count offset n within =
    let fits : offset + n ≤ count = omega (arith, length-take count (drop start xs)) in
    let whole : offset + (count - offset) ≡ count = omega arith in
    let e : drop offset (take count (drop start xs)) ≡
    take (count - offset) (drop offset (drop start xs)) =
    ap (λ m. drop offset (take m (drop start xs))) (sym whole)
    ∙ drop-take offset (count - offset) (drop start xs) in
    let shorter : n ≤ count - offset = omega arith in
    ap (take n) e ∙ take-take n (count - offset) (drop offset (drop start xs)) shorter
    ∙ ap (take n) (drop-drop offset start xs)
