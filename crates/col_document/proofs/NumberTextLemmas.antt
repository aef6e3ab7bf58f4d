-- What a text spells, and what `parse` answers for it.
use Rattle.std.proofs.Common.{◌≡◌, ℕ, ◌^◌, ◌<◌, Bool, true, false, not, ◌&&◌, ◌||◌, ◌==◌, cond}
use Rattle.std.proofs.Common.{List, [], ◌∷◌, length, Some, None, Result, Ok, Err, ℤ, pos, negsuc}
use Rattle.std.proofs.Common.{zero, suc, ◌-◌, refl, ap, sym, ◌∙◌, inl, inr, arith, Decides}
use Rattle.std.specs.Prelude.{int_le, nat_lt, neg_ℤ, option_map, slice_index}
use Rattle.std.specs.Result.{OkIff, result_ok}
use Rattle.std.specs.Int.{Width, w8, w16, w32, w64}
use Rattle.std.specs.Str.Parse.{IsNumeral, ParsesSigned, ParsesUnsigned, digits_value}
use Rattle.std.specs.Str.Parse.{signed_digits_value, starts_with_minus, without_leading_plus}
use Rattle.std.specs.Str.Parse.{without_leading_sign}
use Rattle.std.proofs.lemmas.Bool.{false≢true}
use Rattle.std.proofs.lemmas.Bool.Decides.{Decides-and, Decides-eqb, Decides-ltb, eqb_tells}
use Rattle.std.proofs.lemmas.Bool.Decides.{nat_tests}
use Rattle.std.proofs.lemmas.Str.Parse.{numerals_by_value, tells_all_ascii_digits}
use Rattle.std.proofs.lemmas.Str.Parse.{without_leading_plus_none}
use Rattle.std.proofs.lemmas.Nat.{pow_pos}
use mir.Val.{SFits, bits, hbits}
use Rattle.col_model.specs.Whole.{signed, unsigned, is_fitting}
use Rattle.col_document.specs.Document.{count_named, is_digits, is_shortest, number_read}
use Rattle.col_document.specs.Document.{position_named}
use Rattle.col_document.proofs.ListLemmas.{option_map-same, option_map-tested}

-- what `ok` gives of an answer whose condition is tested
pub result_ok-tested : {T E : Type 0} (r : Result T E) (P : Type 0) (v : T) (b : Bool) → Decides b P
    → OkIff r P v → result_ok r ≡ cond b (Some v) None
result_ok-tested (Ok x) P v true d h = ap Some h.1
result_ok-tested (Ok x) P v false d h = absurd (false≢true (d.1 h.0))
result_ok-tested (Err e) P v true d h = absurd (h (d.0 refl))
result_ok-tested (Err e) P v false d h = refl

-- the test of digits says what a numeral is
pub Decides-is_digits : (text : List ℕ) → Decides (is_digits text) (IsNumeral 10 text)
Decides-is_digits text =
    let own = numerals_by_value _ tells_all_ascii_digits in
    Decides-and _ _ (Decides-ltb 0 (length text)) (own.to text, own.from text)

-- a number from -m to m - 1 is one whose size says so
size_pos : (m n : ℕ) → 0 < m
    → Decides (int_le (neg_ℤ (pos m)) (pos n) && int_le (pos n) (pos (m - 1))) (n < m)
size_pos zero n h = absurd (omega arith)
size_pos (suc k) n h = (λ e. grind (arith, nat_tests), λ f. grind (arith, nat_tests))

-- the same of a negative number
size_negsuc : (m n : ℕ) → 0 < m
    → Decides (int_le (neg_ℤ (pos m)) (negsuc n) && int_le (negsuc n) (pos (m - 1))) (n < m)
size_negsuc zero n h = absurd (omega arith)
size_negsuc (suc k) n h = (λ e. grind (arith, nat_tests), λ f. grind (arith, nat_tests))

-- a number of a type with a sign fits where its size says so
pub Decides-is_fitting : (w : Width) (z : ℤ) → Decides (is_fitting (signed w) z) (SFits w z)
Decides-is_fitting w (pos n) =
    let own = size_pos (2 ^ hbits w) n (pow_pos (hbits w)) in
    (λ e. record { sfits = own.0 e }, λ f. own.1 f.sfits)
Decides-is_fitting w (negsuc n) =
    let own = size_negsuc (2 ^ hbits w) n (pow_pos (hbits w)) in
    (λ e. record { sfits = own.0 e }, λ f. own.1 f.sfits)

-- a number of a type without a sign fits where it is below 2 ^ w
pub is_fitting-below : (w : Width) (n : ℕ)
    → is_fitting (unsigned w) (pos n) ≡ nat_lt n (2 ^ bits w)
is_fitting-below w n =
    let some = pow_pos (bits w) in
    grind (arith, nat_tests)

-- what `parse` answers for a number text of a type with a sign
pub signed-spelled : {E : Type 0} (w : Width) (text : List ℕ) (r : Result ℤ E)
    → ParsesSigned w 10 text r → option_map (λ z. z) (result_ok r) ≡ number_read (signed w) text
signed-spelled w text r h =
    option_map-same (result_ok r)
    ∙ result_ok-tested r _ _ _
    (Decides-and _ _ (Decides-is_digits (without_leading_sign text))
    (Decides-is_fitting w (signed_digits_value 10 text))) h

-- the second of two tests fails
and_false : (b : Bool) → (b && false) ≡ false
and_false true = refl
and_false false = refl

-- a text with a minus sign in front is no digits
is_digits-minus : (text : List ℕ) → starts_with_minus text ≡ true
    → is_digits (without_leading_plus text) ≡ false
is_digits-minus [] e = absurd (false≢true e)
is_digits-minus (c ∷ cs) e =
    let minus : c ≡ 45 = (Decides-eqb c 45).0 e in
    rw minus (and_false _)

-- the digits of a number without a sign, and of one whose sign its type has
unsigned_number : (w : Width) (text : List ℕ) (minus : Bool) → starts_with_minus text ≡ minus
    → option_map pos (cond (is_digits (without_leading_plus text)
    && nat_lt (digits_value 10 (without_leading_plus text)) (2 ^ bits w))
    (Some (digits_value 10 (without_leading_plus text))) None)
    ≡ number_read (unsigned w) text
unsigned_number w text true e = rw (is_digits-minus text e, e) refl
unsigned_number w text false e =
    rw (e, is_fitting-below w (digits_value 10 (without_leading_plus text)))
    (sym (option_map-tested pos _ _))

-- what `parse` answers for a number text of a type without a sign
unsigned-spelled : {E : Type 0} (w : Width) (text : List ℕ) (r : Result ℕ E)
    → ParsesUnsigned (bits w) 10 text r
    → option_map pos (result_ok r) ≡ number_read (unsigned w) text
unsigned-spelled w text r h =
    let digits = without_leading_plus text in
    ap (option_map pos)
    (result_ok-tested r _ _ _
    (Decides-and _ _ (Decides-is_digits digits)
    (Decides-ltb (digits_value 10 digits) (2 ^ bits w))) h)
    ∙ unsigned_number w text _ refl

-- `unsigned-spelled` at 8 bits: `grind` does not find the width from a number
pub spelled_8 : {E : Type 0} (text : List ℕ) (r : Result ℕ E) → ParsesUnsigned 8 10 text r
    → option_map pos (result_ok r) ≡ number_read (unsigned w8) text
spelled_8 text r h = unsigned-spelled w8 text r h

-- `unsigned-spelled` at 16 bits: `grind` does not find the width from a number
pub spelled_16 : {E : Type 0} (text : List ℕ) (r : Result ℕ E) → ParsesUnsigned 16 10 text r
    → option_map pos (result_ok r) ≡ number_read (unsigned w16) text
spelled_16 text r h = unsigned-spelled w16 text r h

-- `unsigned-spelled` at 32 bits: `grind` does not find the width from a number
pub spelled_32 : {E : Type 0} (text : List ℕ) (r : Result ℕ E) → ParsesUnsigned 32 10 text r
    → option_map pos (result_ok r) ≡ number_read (unsigned w32) text
spelled_32 text r h = unsigned-spelled w32 text r h

-- `unsigned-spelled` at 64 bits: `grind` does not find the width from a number
pub spelled_64 : {E : Type 0} (text : List ℕ) (r : Result ℕ E) → ParsesUnsigned 64 10 text r
    → option_map pos (result_ok r) ≡ number_read (unsigned w64) text
spelled_64 text r h = unsigned-spelled w64 text r h

-- for the types with a sign, and for those without one
pub ruleset spelled = (signed-spelled, spelled_8, spelled_16, spelled_32, spelled_64)

-- a text that begins neither with a sign nor with a zero in front of others
abbrev pub begins_shortest : List ℕ → Bool
begins_shortest text =
    not (slice_index text 0 == 43) && (length text == 1 || not (slice_index text 0 == 48))

-- the last of two true tests adds nothing
last_of_and : (x y z : Bool) → (x && y) ≡ true → (z && y) ≡ z
last_of_and x true true e = refl
last_of_and x true false e = refl
last_of_and true false z e = absurd (false≢true e)
last_of_and false false z e = absurd (false≢true e)

-- what `parse` answers for such a text
pub shortest-parsed : {E : Type 0} (text : List ℕ) (r : Result ℕ E) → begins_shortest text ≡ true
    → ParsesUnsigned 32 10 text r
    → result_ok r ≡ count_named text
shortest-parsed text r begins h =
    let plain : without_leading_plus text ≡ text = without_leading_plus_none text
    (grind (arith, nat_tests)) in
    let read = rw plain at h in
    let digits : is_shortest text ≡ is_digits text = last_of_and _ _ (is_digits text) begins in
    rw digits (result_ok-tested r _ _ _
    (Decides-and _ _ (Decides-is_digits text) (Decides-ltb (digits_value 10 text) (2 ^ 32))) read)

-- a text that does not begin with `c` names no position
pub position_named-other : (text : List ℕ) → ((rest : List ℕ) → text ≡ 99 ∷ rest → ⊥)
    → position_named text ≡ None
position_named-other [] h = refl
position_named-other (c ∷ digits) h =
    elim (eqb_tells c 99) [
      | inl t ↦ absurd
          (h digits (ap (λ k. k ∷ digits) t.1))
      | inr t ↦ rw t.0 refl
    ]
