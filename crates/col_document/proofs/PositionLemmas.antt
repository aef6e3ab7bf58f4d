-- The names of counts and of positions.
use Rattle.std.proofs.Common.{◌≡◌, ℕ, zero, suc, ◌^◌, ◌<◌, Bool, true, false, not, ◌||◌, cond}
use Rattle.std.proofs.Common.{◌==◌, List, [], ◌∷◌, ◌++◌, length, get_or, Option, Some, None, refl}
use Rattle.std.proofs.Common.{sym, arith}
use Rattle.std.specs.Prelude.{slice_index, codes}
use Rattle.std.specs.Fmt.{decimal}
use Rattle.std.specs.Str.Parse.{digits_value}
use Rattle.std.proofs.lemmas.Bool.{and_parts}
use Rattle.std.proofs.lemmas.Bool.Decides.{Decides-eqb, Decides-ltb, nat_tests}
use Rattle.std.proofs.lemmas.Fmt.{decimal_digit, decimal_is_IsNumeral, decimal-digits_value}
use Rattle.std.proofs.lemmas.Fmt.{first_decimal}
use Rattle.std.proofs.lemmas.Option.{cond_some, none-some}
use Rattle.std.proofs.lemmas.Str.Parse.{numerals_by_value, tells_all_ascii_digits}
use Rattle.col_document.specs.Document.{count_named, is_digits, is_shortest, position_named}
use Rattle.col_document.proofs.NumberTextLemmas.{Decides-is_digits}

-- the shortest digits of a number are its text
decimal-shortest : (digits : List ℕ) → is_shortest digits ≡ true → digits_value 10 digits < 2 ^ 32
    → digits ≡ decimal (digits_value 10 digits)
decimal-shortest digits e h =
    let own = numerals_by_value _ tells_all_ascii_digits in
    let parts = and_parts (is_digits digits) _ e in
    let numeral = (Decides-is_digits digits).0 parts.0 in
    sym (decimal-digits_value own digits (own.from digits numeral.1) numeral.0
    (λ z. grind (arith, nat_tests)) (omega arith))

-- a number's text is shortest
is_shortest-decimal : (i : ℕ) → i < 2 ^ 32 → is_shortest (decimal i) ≡ true
is_shortest-decimal zero h = rw (decimal_digit 0 (omega arith)) refl
is_shortest-decimal (suc n) h =
    let first : 48 < get_or (decimal (suc n)) 0 0 = first_decimal (suc n) (omega arith)
    (omega arith) in
    let tail : (length (decimal (suc n)) == 1 || not
    (slice_index (decimal (suc n)) 0 == 48)) ≡ true = grind (arith, nat_tests) in
    rw (
      (Decides-is_digits (decimal (suc n))).1
          (decimal_is_IsNumeral (suc n) (omega arith)).0,
      tail,
    ) refl

-- digits that name a count are its text
pub digits-of_count : (digits : List ℕ) (n : ℕ) → count_named digits ≡ Some n
    → (digits ≡ decimal n) × (n < 2 ^ 32)
digits-of_count digits n e =
    let found = cond_some _ (digits_value 10 digits) n e in
    let tests = and_parts (is_shortest digits) _ found.0 in
    let small : digits_value 10 digits < 2 ^ 32 = (Decides-ltb _ (2 ^ 32)).0 tests.1 in
    let own = decimal-shortest digits tests.0 small in
    (rw (← found.1) own, rw (← found.1) small)

-- and a count's text names it
pub count-of_digits : (digits : List ℕ) (n : ℕ) → digits ≡ decimal n → n < 2 ^ 32
    → count_named digits ≡ Some n
count-of_digits digits n e h =
    rw (
      e,
      is_shortest-decimal n h,
      (decimal_is_IsNumeral n (omega arith)).1,
      (Decides-ltb n
          (2 ^ 32)).1 h,
    ) refl

-- what is there only where a test holds
some_where : {T : Type 0} (b : Bool) (o : Option T) (x : T) → cond b o None ≡ Some x
    → (b ≡ true) × (o ≡ Some x)
some_where true o x e = (refl, e)
some_where false o x e = absurd (none-some x e)

-- a name tells its position
pub position-from_name : (text : List ℕ) (i : ℕ) → position_named text ≡ Some i
    → (text ≡ codes "c" ++ decimal i) × (i < 2 ^ 32)
position-from_name [] i e = absurd (none-some i e)
position-from_name (c ∷ digits) i e =
    let found = some_where (c == 99) (count_named digits) i e in
    let own = digits-of_count digits i found.1 in
    let first : c ≡ 99 = (Decides-eqb c 99).0 found.0 in
    (cc, own.1)

-- a position has its name
pub name-of_position : (text : List ℕ) (i : ℕ) → text ≡ codes "c" ++ decimal i → i < 2 ^ 32
    → position_named text ≡ Some i
name-of_position text i e h = rw e (count-of_digits (decimal i) i refl h)
