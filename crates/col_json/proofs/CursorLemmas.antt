-- Lexing a text from a place on, and the rules for commas and colons.
use Rattle.std.proofs.Common.{◌≡◌, ℕ, ◌+◌, ◌-◌, ◌<◌, ◌≤◌, List, [], ◌∷◌, ◌++◌, length, get_or}
use Rattle.std.proofs.Common.{drop, take, Bool, true, false}
use Rattle.std.proofs.Common.{◌==◌, ◌||◌, nat_lt, cond, Option, Some, None, inl, inr, ◌⊎◌, subst}
use Rattle.std.proofs.Common.{true≢false, length-drop, refl, sym, ap, ◌∙◌, arith}
use Rattle.std.proofs.lemmas.Bool.{eqb-true, eq-eqb}
use Rattle.std.proofs.Math.Nat.{lt_of_not-le}
use Rattle.std.proofs.lemmas.List.{append_assoc, drop_more, get_or-drop, get_or_past}
use Rattle.std.proofs.lemmas.List.{take_more}
use Rattle.json.specs.Lex as Lexing
use Rattle.json.specs.Lex.{Lexeme, token, comma, colon, lex, lex_byte, between, in_word, in_string}
use Rattle.json.specs.Lex.{operator, space, begins_colon}
use Rattle.json.specs.Lex.{Place, fresh, after_value, after_comma, after_key, may_begin, may_close}
use Rattle.json.specs.Lex.{punctuate}
use Rattle.json.specs.Text.{content, plain, prepend}
use Rattle.json.specs.Token as spec
use Rattle.col_json.specs.declared.cursor.Place as code
use Rattle.col_json.specs.declared.cursor.Place.TheVariants.{Fresh, AfterValue, AfterComma}
use Rattle.col_json.specs.Cursor.{place_of}
use Rattle.json.specs.Word.{ends_word, is_operator, is_space, word}

-- ---- bytes

-- one of two tests holds
or-true : (a b : Bool) → (a || b) ≡ true → (a ≡ true) ⊎ (b ≡ true)
or-true true b e = inl refl
or-true false b e = inr e

-- what holds of each space holds of a byte that is one
by-space : (P : ℕ → Type 0) → P 32 → P 9 → P 10 → P 13 → (x : ℕ) → is_space x ≡ true → P x
by-space P a b c d x e = last (or-true _ _ e) where
  is : (y : ℕ) → P y → (x == y) ≡ true → P x
  is y h same = subst P (sym (eqb-true x y same)) h

  first : ((x == 32) ≡ true) ⊎ ((x == 9) ≡ true) → P x
  first (inl h) = is 32 a h
  first (inr h) = is 9 b h

  more : (((x == 32) || (x == 9)) ≡ true) ⊎ ((x == 10) ≡ true) → P x
  more (inl h) = first (or-true _ _ h)
  more (inr h) = is 10 c h

  last : (((x == 32) || (x == 9) || (x == 10)) ≡ true) ⊎ ((x == 13) ≡ true) → P x
  last (inl h) = more (or-true _ _ h)
  last (inr h) = is 13 d h

-- a byte that is no space stands in the text
pub within : (t : List ℕ) (i x : ℕ) → get_or t i 32 ≡ x → (x == 32) ≡ false → i < length t
within t i x e other =
    lt_of_not-le (λ past. true≢false (sym (eq-eqb x 32 (sym e ∙ get_or_past t i 32 past)) ∙ other))

-- the text from a byte on
pub from-byte : (t : List ℕ) (i x : ℕ) → get_or t i 32 ≡ x → (x == 32) ≡ false
    → drop i t ≡ x ∷ drop (i + 1) t
from-byte t i x e other =
    drop_more t i 32 (within t i x e other) ∙ ap (λ y. y ∷ drop (i + 1) t) e

-- the lexemes from a byte on, by those of any text that begins with it
pub by-byte : (t : List ℕ) (i x : ℕ) {ls : List ℕ → List Lexeme} → get_or t i 32 ≡ x
    → (x == 32) ≡ false → ((xs : List ℕ) → lex between (x ∷ xs) ≡ ls xs)
    → lex between (drop i t) ≡ ls (drop (i + 1) t)
by-byte t i x e other is = ap (lex between) (from-byte t i x e other) ∙ is (drop (i + 1) t)

-- the first byte of the text from a place on
pub head-at : (t : List ℕ) (i : ℕ) → get_or (drop i t) 0 32 ≡ get_or t i 32
head-at t i = get_or-drop i t 0 32 ∙ ap (λ k. get_or t k 32) (omega arith)

-- the text from the four bytes of `null` on
pub from-null : (t : List ℕ) (i : ℕ) → get_or t i 32 ≡ 110 → get_or t (i + 1) 32 ≡ 117
    → get_or t (i + 2) 32 ≡ 108 → get_or t (i + 3) 32 ≡ 108
    → drop i t ≡ 110 ∷ 117 ∷ 108 ∷ 108 ∷ drop (i + 4) t
from-null t i n u l m =
    let two : drop (i + 1 + 1) t ≡ drop (i + 2) t = ap (λ k. drop k t) (omega arith) in
    let three : drop (i + 2 + 1) t ≡ drop (i + 3) t = ap (λ k. drop k t) (omega arith) in
    let four : drop (i + 3 + 1) t ≡ drop (i + 4) t = ap (λ k. drop k t) (omega arith) in
    from-byte t i 110 n refl
    ∙ ap (λ xs. 110 ∷ xs) (from-byte t (i + 1) 117 u refl
    ∙ ap (λ xs. 117 ∷ xs) (two ∙ from-byte t (i + 2) 108 l refl
    ∙ ap (λ xs. 108 ∷ xs) (three ∙ from-byte t (i + 3) 108 m refl
    ∙ ap (λ xs. 108 ∷ xs) four)))

-- one more byte from a place on
pub take-more : (t : List ℕ) (from i d : ℕ) → from ≤ i → i < length t
    → take (i - from) (drop from t) ++ get_or t i d ∷ [] ≡ take (i + 1 - from) (drop from t)
take-more t from i d h below =
    let k = i - from in
    let short : k < length (drop from t) = omega (arith, length-drop from t) in
    let one : i + 1 - from ≡ k + 1 = omega arith in
    let last : get_or (drop from t) k d ≡ get_or t i d =
    get_or-drop from t k d ∙ ap (λ j. get_or t j d) (omega arith) in
    sym (ap (λ j. take j (drop from t)) one ∙ take_more (drop from t) k d short
    ∙ ap (λ x. take k (drop from t) ++ x ∷ []) last)

-- ---- lexemes

pub lex-space : (x : ℕ) (xs : List ℕ) → is_space x ≡ true → lex between (x ∷ xs) ≡ lex between xs
unfolding lex
lex-space x xs e = by-space (λ y. lex between (y ∷ xs) ≡ lex between xs) refl refl refl refl x e

pub lex-open_brace : (xs : List ℕ) → lex between (123 ∷ xs) ≡ token spec.begin_object ∷ lex between
    xs
unfolding lex
lex-open_brace xs = refl

pub lex-close_brace : (xs : List ℕ) → lex between (125 ∷ xs) ≡ token spec.end_object ∷ lex between
    xs
unfolding lex
lex-close_brace xs = refl

pub lex-open_bracket : (xs : List ℕ) → lex between (91 ∷ xs) ≡ token spec.begin_array ∷ lex between
    xs
unfolding lex
lex-open_bracket xs = refl

pub lex-close_bracket : (xs : List ℕ) → lex between (93 ∷ xs)
    ≡ token spec.end_array ∷ lex between xs
unfolding lex
lex-close_bracket xs = refl

pub lex-comma : (xs : List ℕ) → lex between (44 ∷ xs) ≡ comma ∷ lex between xs
unfolding lex
lex-comma xs = refl

pub lex-colon : (xs : List ℕ) → lex between (58 ∷ xs) ≡ colon ∷ lex between xs
unfolding lex
lex-colon xs = refl

-- what holds of each operator holds of a byte that is one
by-operator : (P : ℕ → Type 0) → P 123 → P 125 → P 91 → P 93 → P 58 → P 44 → (x : ℕ)
    → is_operator x ≡ true → P x
by-operator P a b c d e f x h = six (or-true _ _ h) where
  is : (y : ℕ) → P y → (x == y) ≡ true → P x
  is y p same = subst P (sym (eqb-true x y same)) p

  two : ((x == 123) ≡ true) ⊎ ((x == 125) ≡ true) → P x
  two (inl p) = is 123 a p
  two (inr p) = is 125 b p

  three : (((x == 123) || (x == 125)) ≡ true) ⊎ ((x == 91) ≡ true) → P x
  three (inl p) = two (or-true _ _ p)
  three (inr p) = is 91 c p

  four : (((x == 123) || (x == 125) || (x == 91)) ≡ true) ⊎ ((x == 93) ≡ true) → P x
  four (inl p) = three (or-true _ _ p)
  four (inr p) = is 93 d p

  five : (((x == 123) || (x == 125) || (x == 91) || (x == 93)) ≡ true) ⊎ ((x == 58) ≡ true) → P x
  five (inl p) = four (or-true _ _ p)
  five (inr p) = is 58 e p

  six : (((x == 123) || (x == 125) || (x == 91) || (x == 93) || (x == 58)) ≡ true)
      ⊎ ((x == 44) ≡ true) → P x
  six (inl p) = five (or-true _ _ p)
  six (inr p) = is 44 f p

pub lex-nothing : lex between [] ≡ []
unfolding lex
lex-nothing = refl

-- a word ends where an operator, a space or nothing follows
pub word-over : (xs : List ℕ) → ends_word xs ≡ true → lex in_word xs ≡ lex between xs
unfolding lex
word-over [] e = refl
word-over (x ∷ xs) e = either (or-true _ _ e) where
  P : ℕ → Type 0
  P y = lex in_word (y ∷ xs) ≡ lex between (y ∷ xs)

  either : (is_operator x ≡ true) ⊎ (is_space x ≡ true) → P x
  either (inl h) = by-operator P refl refl refl refl refl refl x h
  either (inr h) = by-space P refl refl refl refl x h

pub lex-null : (xs : List ℕ) → ends_word xs ≡ true
    → lex between (110 ∷ 117 ∷ 108 ∷ 108 ∷ xs) ≡ token spec.null ∷ lex between xs
unfolding lex word
lex-null xs e =
    ap (λ b. token (cond b spec.null spec.bad) ∷ lex in_word xs) e
    ∙ ap (λ ls. token spec.null ∷ ls) (word-over xs e)

-- ---- strings

-- a byte of a string that is no quote, no backslash and no control character
pub string-byte : (x : ℕ) (xs before : List ℕ) → (x == 34) ≡ false → (x == 92) ≡ false
    → nat_lt x 32 ≡ false
    → prepend before (content plain (x ∷ xs)) ≡ prepend (before ++ x ∷ []) (content plain xs)
unfolding content
string-byte x xs before a b c = rw (a, b, c) (both (content plain xs)) where
  both : (o : Option (List ℕ)) → prepend before (prepend (x ∷ []) o) ≡ prepend (before ++ x ∷ []) o
  both None = refl
  both (Some s) = ap Some (sym (append_assoc before (x ∷ []) s))

pub in_string-byte : (x : ℕ) (xs : List ℕ) → (x == 34) ≡ false → (x == 92) ≡ false
    → lex in_string (x ∷ xs) ≡ lex in_string xs
unfolding lex
in_string-byte x xs a b = rw (a, b) (other (is_operator x) (is_space x)) where
  other : (c d : Bool) → lex_byte in_string (cond c operator (cond d space Lexing.other)) x xs
      (λ next. lex next xs) ≡ lex in_string xs
  other true d = refl
  other false true = refl
  other false false = refl

-- the closing quote
pub string-over : (xs : List ℕ) → (content plain (34 ∷ xs) ≡ Some [])
    × (lex in_string (34 ∷ xs) ≡ lex between xs)
unfolding lex content
string-over xs = (refl, refl)

-- a string
pub lex-string : (xs s rest : List ℕ) → content plain xs ≡ Some s
    → lex in_string xs ≡ lex between rest
    → lex between (34 ∷ xs) ≡ token (spec.string s) ∷ lex between rest
unfolding lex
lex-string xs s rest e passed = rw e (ap (λ ls. token (spec.string s) ∷ ls) passed)

-- ---- commas and colons

-- a comma or a bracket is no colon
pub no-colon : (t : List ℕ) (i : ℕ)
    → (get_or t i 32 ≡ 44) ⊎ (get_or t i 32 ≡ 93) ⊎ (get_or t i 32 ≡ 125)
    → begins_colon (lex between (drop i t)) ≡ false
no-colon t i (inl e) = ap begins_colon (by-byte t i 44 e refl lex-comma)
no-colon t i (inr (inl e)) = ap begins_colon (by-byte t i 93 e refl lex-close_bracket)
no-colon t i (inr (inr e)) = ap begins_colon (by-byte t i 125 e refl lex-close_brace)

pub begins-number : (p : Place) (s : List ℕ) (ls : List Lexeme) → may_begin p ≡ true
    → punctuate p (token (spec.number s) ∷ ls) ≡ spec.number s ∷ punctuate after_value ls
unfolding punctuate
begins-number fresh s ls e = refl
begins-number after_comma s ls e = refl
begins-number after_value s ls e = absurd (true≢false (sym e))
begins-number after_key s ls e = absurd (true≢false (sym e))

pub begins-null : (p : Place) (ls : List Lexeme) → may_begin p ≡ true
    → punctuate p (token spec.null ∷ ls) ≡ spec.null ∷ punctuate after_value ls
unfolding punctuate
begins-null fresh ls e = refl
begins-null after_comma ls e = refl
begins-null after_value ls e = absurd (true≢false (sym e))
begins-null after_key ls e = absurd (true≢false (sym e))

pub begins-array : (p : Place) (ls : List Lexeme) → may_begin p ≡ true
    → punctuate p (token spec.begin_array ∷ ls) ≡ spec.begin_array ∷ punctuate fresh ls
unfolding punctuate
begins-array fresh ls e = refl
begins-array after_comma ls e = refl
begins-array after_value ls e = absurd (true≢false (sym e))
begins-array after_key ls e = absurd (true≢false (sym e))

pub begins-object : (p : Place) (ls : List Lexeme) → may_begin p ≡ true
    → punctuate p (token spec.begin_object ∷ ls) ≡ spec.begin_object ∷ punctuate fresh ls
unfolding punctuate
begins-object fresh ls e = refl
begins-object after_comma ls e = refl
begins-object after_value ls e = absurd (true≢false (sym e))
begins-object after_key ls e = absurd (true≢false (sym e))

pub begins-key : (p : Place) (s : List ℕ) (ls : List Lexeme) → may_begin p ≡ true
    → punctuate p (token (spec.string s) ∷ colon ∷ ls) ≡ spec.key s ∷ punctuate fresh ls
unfolding punctuate
begins-key fresh s ls e = refl
begins-key after_comma s ls e = refl
begins-key after_value s ls e = absurd (true≢false (sym e))
begins-key after_key s ls e = absurd (true≢false (sym e))

pub begins-string : (p : Place) (s : List ℕ) (ls : List Lexeme) → may_begin p ≡ true
    → begins_colon ls ≡ false
    → punctuate p (token (spec.string s) ∷ ls) ≡ spec.string s ∷ punctuate after_value ls
unfolding punctuate
begins-string fresh s ls e no_colon = rw no_colon refl
begins-string after_comma s ls e no_colon = rw no_colon refl
begins-string after_value s ls e no_colon = absurd (true≢false (sym e))
begins-string after_key s ls e no_colon = absurd (true≢false (sym e))

pub closes-array : (p : Place) (ls : List Lexeme) → may_close p ≡ true
    → punctuate p (token spec.end_array ∷ ls) ≡ spec.end_array ∷ punctuate after_value ls
unfolding punctuate
closes-array fresh ls e = refl
closes-array after_value ls e = refl
closes-array after_comma ls e = absurd (true≢false (sym e))
closes-array after_key ls e = absurd (true≢false (sym e))

pub closes-object : (p : Place) (ls : List Lexeme) → may_close p ≡ true
    → punctuate p (token spec.end_object ∷ ls) ≡ spec.end_object ∷ punctuate after_value ls
unfolding punctuate
closes-object fresh ls e = refl
closes-object after_value ls e = refl
closes-object after_comma ls e = absurd (true≢false (sym e))
closes-object after_key ls e = absurd (true≢false (sym e))

pub passes-comma : (ls : List Lexeme) → punctuate after_value (comma ∷ ls)
    ≡ punctuate after_comma ls
unfolding punctuate
passes-comma ls = refl

-- nothing is left where the text is over and no value is due
pub over : (p : code.Place) → (p ≡ AfterComma → ⊥) → punctuate (place_of p) [] ≡ []
unfolding punctuate
over Fresh other = refl
over AfterValue other = refl
over AfterComma other = absurd (other refl)
