-- What calls take from the front of a list, and what they add to an end.
use Rattle.std.proofs.Common.{◌≡◌, ℕ, ◌+◌, ◌≤◌, List, ◌++◌, length, take, drop, Option, Some}
use Rattle.std.proofs.Common.{None, sym, ◌∙◌, ap, subst, arith, append_assoc, length-append}
use Rattle.std.proofs.lemmas.List.{take-take, length-take-le}
use Rattle.std.proofs.Math.Seq.{take-add}
use Rattle.col_run.specs.Streams.{TakesFront, AddsBytes}

-- two fronts, one after the other, are one
pub takes_more : (old mid new : Option (List ℕ)) (xs ys : List ℕ)
    → TakesFront old xs mid → TakesFront mid ys new → TakesFront old (xs ++ ys) new
takes_more None None new xs ys first second = second
takes_more None (Some left) new xs ys first second = cc
takes_more (Some left) None new xs ys first second = absurd first
takes_more (Some left) (Some rest) None xs ys first second = absurd second
takes_more (Some left) (Some rest) (Some last) xs ys first second =
    first ∙ ap (λ (l : List ℕ). xs ++ l) second ∙ sym (append_assoc xs ys last)

-- two additions, one after the other, are one
pub adds_more : (old mid new : Option (List ℕ)) (xs ys : List ℕ)
    → AddsBytes old xs mid → AddsBytes mid ys new → AddsBytes old (xs ++ ys) new
adds_more None None new xs ys first second = second
adds_more None (Some bytes) new xs ys first second = cc
adds_more (Some bytes) None new xs ys first second = cc
adds_more (Some bytes) (Some more) new xs ys first second =
    let same : more ≡ bytes ++ xs = cc in
    second
    ∙ ap (λ (l : List ℕ). Some (l ++ ys)) same
    ∙ ap (λ (l : List ℕ). Some l) (append_assoc bytes xs ys)

-- the next bytes of a list were added
pub adds_next : (old mid new : Option (List ℕ)) (xs : List ℕ) (i k n : ℕ)
    → AddsBytes old (take i xs) mid → AddsBytes mid (take k (take n (drop i xs))) new → k ≤ n
    → AddsBytes old (take (i + k) xs) new
adds_next old mid new xs i k n first second below =
    let next : take i xs ++ take k (take n (drop i xs)) ≡ take (i + k) xs =
    ap (λ (l : List ℕ). take i xs ++ l) (take-take k n (drop i xs) below) ∙ sym (take-add i k xs)
    in
    let both = adds_more old mid new (take i xs) (take k (take n (drop i xs))) first second in
    subst (λ (l : List ℕ). AddsBytes old l new) next both

-- how long a list is, once a front of a piece came to its end
pub length_with_front : (xs piece : List ℕ) (k most : ℕ)
    → k ≤ length piece → length xs + length piece ≤ most → length (xs ++ take k piece) ≤ most
length_with_front xs piece k most fits room =
    omega (arith, length-append xs (take k piece), length-take-le k piece fits)
