-- The lexing of a text that begins with a number without a point and an exponent.
use Rattle.std.proofs.Common.{◌≡◌, ℕ, suc, ◌+◌, ◌-◌, ◌<◌, ◌≤◌, List, [], ◌∷◌, length, take, drop}
use Rattle.std.proofs.Common.{get_or, Bool, true, false, cond, ◌==◌, ◌||◌, Some, option_and_then}
use Rattle.std.proofs.Common.{true≢false, length-drop, refl, sym, ap, ◌∙◌, subst, arith}
use Rattle.std.proofs.lemmas.Bool.{ne_eqb, eqb-true}
use Rattle.std.proofs.lemmas.List.{drop-drop}
use Rattle.std.specs.List.{prefix_len}
use Rattle.std.specs.Char.{is_ascii_digit}
use Rattle.json.specs.Token.{number, bad}
use Rattle.json.specs.Word.{is_operator, is_space, head, ends_word, after_digits, after_minus}
use Rattle.json.specs.Word.{after_whole, after_fraction, after_exponent, after_number}
use Rattle.json.specs.Word.{number_before, word}
use Rattle.json.specs.Lex.{token, other, class, lex, lex_byte, in_word, between}
use Rattle.json.proofs.Printed.Numbers.{in_word-ended}
use Rattle.col_json.proofs.CursorLemmas.{head-at}

-- a byte that passes a test is no byte that fails it
apart : (f : ℕ → Bool) (x k : ℕ) → f x ≡ true → f k ≡ false → (x == k) ≡ false
apart f x k passes fails = ne_eqb x k (λ e. true≢false (sym passes ∙ ap f e ∙ fails))

-- the bytes that a number begins with
abbrev begins_number : ℕ → Bool
begins_number x = (x == 45) || is_ascii_digit x

-- such a byte is of no other use
class-number : (x : ℕ) → begins_number x ≡ true → class x ≡ other
class-number x h =
    let no = λ (k : ℕ) (e : begins_number k ≡ false). apart begins_number x k h e in
    rw (
      no 34 refl,
      no 92 refl,
      no 123 refl,
      no 125 refl,
      no 91 refl,
      no 93 refl,
      no 58 refl,
      no 44 refl,
      no 32 refl,
      no 9 refl,
      no 10 refl,
      no 13 refl,
    ) refl

-- digits begin a number
digit-begins : (x : ℕ) → is_ascii_digit x ≡ true → begins_number x ≡ true
digit-begins x h = go (x == 45) where
  go : (b : Bool) → (b || is_ascii_digit x) ≡ true
  go true = refl
  go false = h

-- digits are passed within a word
digits-passed : (u : List ℕ)
    → lex in_word u ≡ lex in_word (drop (prefix_len is_ascii_digit u) u)
unfolding lex
digits-passed [] = refl
digits-passed (x ∷ xs) = go (is_ascii_digit x) refl (digits-passed xs) where
  go : (b : Bool) → is_ascii_digit x ≡ b
      → lex in_word xs ≡ lex in_word (drop (prefix_len is_ascii_digit xs) xs)
      → lex in_word (x ∷ xs)
      ≡ lex in_word (drop (cond b (1 + prefix_len is_ascii_digit xs) 0) (x ∷ xs))
  go true e later =
      let one_more : suc (prefix_len is_ascii_digit xs) ≡ 1 + prefix_len is_ascii_digit xs =
      omega arith in
      ap (λ c. lex_byte in_word c x xs (λ m. lex m xs)) (class-number x (digit-begins x e))
      ∙ later ∙ ap (λ n. lex in_word (drop n (x ∷ xs))) one_more
  go false e later = refl

-- behind a whole number comes what follows its digits
whole-read : (u : List ℕ) → 0 < prefix_len is_ascii_digit u
    → (head u ≡ 48 → prefix_len is_ascii_digit u ≡ 1)
    → after_whole u ≡ Some (drop (prefix_len is_ascii_digit u) u)
whole-read u some alone = go (head u == 48) refl where
  more : after_digits u ≡ Some (drop (prefix_len is_ascii_digit u) u)
  more = rw (ne_eqb (prefix_len is_ascii_digit u) 0 (λ e. omega (arith, some, e))) refl

  go : (b : Bool) → (head u == 48) ≡ b → cond b (Some (drop 1 u)) (after_digits u)
      ≡ Some (drop (prefix_len is_ascii_digit u) u)
  go true e = ap (λ n. Some (drop n u)) (sym (alone (eqb-true (head u) 48 e)))
  go false e = more

-- a rest that ends the word begins with neither a point nor an exponent
rest-left : (r : List ℕ) → ends_word r ≡ true
    → option_and_then after_exponent (after_fraction r) ≡ Some r
rest-left r h =
    let no = λ (k : ℕ) (e : (is_operator k || is_space k) ≡ false).
    apart (λ y. is_operator y || is_space y) (head r) k h e in
    rw (no 46 refl, no 101 refl, no 69 refl) refl

-- the number ends where its digits end
number-read : (t : List ℕ) → 0 < prefix_len is_ascii_digit (after_minus t)
    → (head (after_minus t) ≡ 48 → prefix_len is_ascii_digit (after_minus t) ≡ 1)
    → ends_word (drop (prefix_len is_ascii_digit (after_minus t)) (after_minus t)) ≡ true
    → after_number t
    ≡ Some (drop (prefix_len is_ascii_digit (after_minus t)) (after_minus t))
unfolding after_number
number-read t some alone ended =
    ap (λ o. option_and_then after_exponent (option_and_then after_fraction o))
    (whole-read (after_minus t) some alone)
    ∙ rest-left (drop (prefix_len is_ascii_digit (after_minus t)) (after_minus t)) ended

-- a word that begins as a number is no literal
word-number : (t : List ℕ) → begins_number (head t) ≡ true
    → word t ≡ number_before t (after_number t)
unfolding word
word-number t h =
    let no = λ (k : ℕ) (e : begins_number k ≡ false). apart begins_number (head t) k h e in
    rw (no 116 refl, no 102 refl, no 110 refl) refl

-- digits at the front are there
first-digit : (x : ℕ) (xs : List ℕ) → 0 < prefix_len is_ascii_digit (x ∷ xs)
    → is_ascii_digit x ≡ true
first-digit x xs = go (is_ascii_digit x) where
  go : (b : Bool) → 0 < cond b (1 + prefix_len is_ascii_digit xs) 0 → b ≡ true
  go true h = refl
  go false h = absurd (omega (arith, h))

-- a minus sign or a digit begins the number, and the bytes behind it are passed
first-passed : (b : Bool) (x : ℕ) (xs : List ℕ) → (x == 45) ≡ b
    → 0 < prefix_len is_ascii_digit (cond b xs (x ∷ xs))
    → (begins_number x ≡ true) × (lex in_word xs
    ≡ lex in_word (drop (prefix_len is_ascii_digit (cond b xs (x ∷ xs))) (cond b xs (x ∷ xs))))
unfolding lex
first-passed true x xs e some = (ap (λ b. b || is_ascii_digit x) e, digits-passed xs)
first-passed false x xs e some =
    let first = digit-begins x (first-digit x xs some) in (
      first,
      sym (ap (λ c. lex_byte in_word c x xs (λ m. lex m xs)) (class-number x first))
          ∙ digits-passed (x ∷ xs),
    )

-- a text that begins with digits, behind a minus sign or none, and then ends its word, is lexed
-- as that number
pub number-lexed : (t : List ℕ) → 0 < prefix_len is_ascii_digit (after_minus t)
    → (head (after_minus t) ≡ 48 → prefix_len is_ascii_digit (after_minus t) ≡ 1)
    → ends_word (drop (prefix_len is_ascii_digit (after_minus t)) (after_minus t)) ≡ true
    → lex between t
    ≡ token (number (take (length t
    - length (drop (prefix_len is_ascii_digit (after_minus t)) (after_minus t))) t))
    ∷ lex between (drop (prefix_len is_ascii_digit (after_minus t)) (after_minus t))
unfolding lex
number-lexed [] some alone ended = absurd (omega (arith, some))
number-lexed (x ∷ xs) some alone ended =
    let t : List ℕ = x ∷ xs in
    let rest : List ℕ = drop (prefix_len is_ascii_digit (after_minus t)) (after_minus t) in
    let first = first-passed (x == 45) x xs refl some in
    let is : word t ≡ number (take (length t - length rest) t) =
    word-number t first.0 ∙ ap (number_before t) (number-read t some alone ended)
    ∙ ap (λ b. cond b (number (take (length t - length rest) t)) bad) ended in
    ap (λ c. lex_byte between c x xs (λ m. lex m xs)) (class-number x first.0)
    ∙ ap (λ w. token w ∷ lex in_word xs) is
    ∙ ap (λ ls. token (number (take (length t - length rest) t)) ∷ ls)
    (first.1 ∙ in_word-ended rest ended)

-- the same from a place of a text on, by the places where its digits begin and end
pub number-from : (t : List ℕ) (at first end : ℕ) → drop first t ≡ after_minus (drop at t)
    → at ≤ first → end ≡ first + prefix_len is_ascii_digit (drop first t) → first < end
    → end ≤ length t → (get_or t first 32 ≡ 48 → end ≡ first + 1)
    → (is_operator (get_or t end 32) || is_space (get_or t end 32)) ≡ true
    → lex between (drop at t)
    ≡ token (number (take (end - at) (drop at t))) ∷ lex between (drop end t)
number-from t at first end minus before counted some enough alone over =
    let all = drop at t in
    let u = drop first t in
    let k = prefix_len is_ascii_digit u in
    let left : drop k u ≡ drop end t =
    drop-drop k first t ∙ ap (λ j. drop j t) (omega (arith, counted)) in
    let ended : ends_word (drop k u) ≡ true =
    ap ends_word left ∙ ap (λ x. is_operator x || is_space x) (head-at t end) ∙ over in
    let one : head u ≡ 48 → k ≡ 1 =
    λ zero_first. omega (arith, counted, alone (sym (head-at t first) ∙ zero_first)) in
    let lexed = number-lexed all
    (subst (λ x. 0 < prefix_len is_ascii_digit x) minus (omega (arith, counted, some)))
    (subst (λ x. head x ≡ 48 → prefix_len is_ascii_digit x ≡ 1) minus one)
    (subst (λ x. ends_word (drop (prefix_len is_ascii_digit x) x) ≡ true) minus ended) in
    let here = subst (λ x. lex between all
    ≡ token (number (take (length all - length (drop (prefix_len is_ascii_digit x) x)) all))
    ∷ lex between (drop (prefix_len is_ascii_digit x) x)) (sym minus) lexed in
    let long : length all - length (drop end t) ≡ end - at =
    omega (arith, length-drop at t, length-drop end t, enough, some, before) in
    here ∙ ap (λ r. token (number (take (length all - length r) all)) ∷ lex between r) left
    ∙ ap (λ j. token (number (take j all)) ∷ lex between (drop end t)) long
