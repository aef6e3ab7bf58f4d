-- Lemmas on bytes that are made of truth values.
use Rattle.std.proofs.Common.{◌≡◌, ℕ, zero, suc, ◌+◌, ◌-◌, ◌*◌, ◌/◌, ◌%◌, ◌^◌, ◌<◌, ◌≤◌, min, Bool}
use Rattle.std.proofs.Common.{true, false, cond, eqb, ◌&&◌, List, [], ◌∷◌, ◌++◌, length, get_or}
use Rattle.std.proofs.Common.{take, drop, refl, sym, ap, ap₂, ◌∙◌, arith, ⊎_elim, bit_and, bit_or}
use Rattle.std.proofs.Common.{pow-suc, w64, add-zero, add_comm}
use Rattle.std.proofs.lemmas.List.{length-take, get_or-take, get_or-drop, get_or_append_left}
use Rattle.std.proofs.lemmas.List.{get_or-append_right, take_more}
use Rattle.std.proofs.lemmas.Bool.{cases_lt}
use Rattle.std.proofs.lemmas.Nat.{pow_below, or_comm, or_shifted}
use Rattle.std.proofs.lemmas.Nat.Bits.{bit_at_and}
use Rattle.std.specs.Int.{bit_at as bit_of, to_le_bytes, from_bool}
use Rattle.col_buf.specs.Bitmap.{bit_at, number_of, chunk_at, both}
use Rattle.col_buf.proofs.BitLemmas.{bit_of-to_le_bytes}
use Rattle.col_buf.proofs.NumberLemmas.{test_of_digit, bit_of-number_of, number_of-below}
use Rattle.col_buf.proofs.ChunkLemmas.{bit_of-chunk_at}

-- further bytes leave the bits below
bit_at-append_left : (xs ys : List ℕ) (i : ℕ) → i < 8 * length xs →
    bit_at (xs ++ ys) i ≡ bit_at xs i
bit_at-append_left xs ys i h =
    let k : i / 8 < length xs = omega arith in
    ap (λ b. eqb (bit_of b (i % 8)) 1) (get_or_append_left xs ys 0 (i / 8) k)

-- and have their own bits above them
bit_at-append_right : (xs ys : List ℕ) (n i : ℕ) → length xs ≡ n → 8 * n ≤ i →
    bit_at (xs ++ ys) i ≡ eqb (bit_of (get_or ys ((i - 8 * n) / 8) 0) ((i - 8 * n) % 8)) 1
bit_at-append_right xs ys n i e h =
    let k : n ≤ i / 8 = omega arith in
    ap (λ b. eqb (bit_of b (i % 8)) 1) (get_or-append_right xs ys n (i / 8) 0 e k)
    ∙ ap₂ (λ j r. eqb (bit_of (get_or ys j 0) r) 1) (omega arith) (omega arith)

-- the number of two lists in a row
number_of-append : (xs ys : List Bool) →
    number_of (xs ++ ys) ≡ number_of xs + number_of ys * 2 ^ length xs
number_of-append [] ys = omega arith
number_of-append (b ∷ xs) ys =
    let twice : number_of ys * 2 ^ suc (length xs) ≡ number_of ys * (2 ^ length xs * 2) =
    ap (λ p. number_of ys * p) (pow-suc 2 (length xs)) in
    omega (arith, number_of-append xs ys)

-- a truth value as a number is its digit
pub digit_of_bool : (b : Bool) → from_bool b ≡ cond b 1 0
digit_of_bool true = refl
digit_of_bool false = refl

-- a shift by less than 8 keeps a digit whole
shifted_digit : (b : Bool) (j : ℕ) → j < 8 → cond b 1 0 * 2 ^ j % 256 ≡ cond b 1 0 * 2 ^ j
shifted_digit true j h = omega (arith, pow_below j 8 h)
shifted_digit false j h = omega arith

-- one value more in front of a power
number_push : (xs : List Bool) (b : Bool) (j : ℕ) → length xs ≡ j →
    number_of (xs ++ b ∷ []) ≡ cond b 1 0 * 2 ^ j + number_of xs
number_push xs b j e =
    number_of-append xs (b ∷ []) ∙ ap₂ (λ d p. number_of xs + d * 2 ^ p) (add-zero (cond b 1 0)) e
    ∙ add_comm (number_of xs) (cond b 1 0 * 2 ^ j)

-- a value more is a bit more
pub number_more : (values : List Bool) (j : ℕ) → j < length values → j < 8 →
    bit_or (number_of (take j values)) (cond (get_or values j false) 1 0 * 2 ^ j % 256) ≡
    number_of (take (j + 1) values)
number_more values j within h =
    let byte = number_of (take j values) in
    let value = get_or values j false in
    let size : length (take j values) ≡ j = omega (arith, length-take j values) in
    ap (bit_or byte) (shifted_digit value j h) ∙ or_comm byte (cond value 1 0 * 2 ^ j)
    ∙ or_shifted (cond value 1 0) j byte (number_of-below (take j values) j (omega arith))
    ∙ sym (number_push (take j values) value j size)
    ∙ ap number_of (sym (take_more values j false within))

-- the bytes so far hold the values so far, and one byte more does with the next eight values
pub packed_more : (bytes : List ℕ) (values : List Bool) (k byte : ℕ) → length bytes ≡ k →
    byte ≡ number_of (take 8 (drop (8 * k) values)) →
    ((i : ℕ) → i < 8 * k → bit_at bytes i ≡ get_or values i false) → (i : ℕ) → i < 8 * (k + 1) →
    bit_at (bytes ++ byte ∷ []) i ≡ get_or values i false
packed_more bytes values k byte size e same i h = ⊎_elim
    (λ (l : i < 8 * k). bit_at-append_left bytes (byte ∷ []) i (omega arith) ∙ same i l)
    (λ (l : 8 * k ≤ i). let j : i - 8 * k < 8 = omega arith in
    let zeroth : (i - 8 * k) / 8 ≡ 0 = omega arith in
    bit_at-append_right bytes (byte ∷ []) k i size l
    ∙ ap₂ (λ m r. eqb (bit_of (get_or (byte ∷ []) m 0) r) 1) zeroth (omega arith)
    ∙ test_of_digit (get_or values i false) (bit_of byte (i - 8 * k))
    (ap (λ b. bit_of b (i - 8 * k)) e ∙ bit_of-number_of (take 8 (drop (8 * k) values)) (i - 8 * k)
    ∙ ap (λ b. cond b 1 0)
    (get_or-take 8 (drop (8 * k) values) (i - 8 * k) false j
    ∙ get_or-drop (8 * k) values (i - 8 * k) false
    ∙ ap (λ m. get_or values m false) (omega arith))))
    (cases_lt i (8 * k))

-- both at a place
get_or-both : (left right : List Bool) (i : ℕ) → length left ≡ length right →
    get_or (both left right) i false ≡ (get_or left i false && get_or right i false)
get_or-both [] right i e = refl
get_or-both (a ∷ left) [] i e = absurd (omega arith)
get_or-both (a ∷ left) (b ∷ right) zero e = refl
get_or-both (a ∷ left) (b ∷ right) (suc i) e = get_or-both left right i (omega arith)

-- as many as in each list
pub length-both : (left right : List Bool) → length left ≡ length right →
    length (both left right) ≡ length left
length-both [] right e = refl
length-both (a ∷ left) [] e = absurd (omega arith)
length-both (a ∷ left) (b ∷ right) e = ap suc (length-both left right (omega arith))

-- the digit of both is the lesser of the digits
min_digits : (a b : Bool) → min (cond a 1 0) (cond b 1 0) ≡ cond (a && b) 1 0
min_digits true true = refl
min_digits true false = refl
min_digits false true = refl
min_digits false false = refl

-- a bit of two chunks
bit_of-and_chunks : (left right : List Bool) (i j : ℕ) → length left ≡ length right → j < 64 →
    bit_of (bit_and (chunk_at left i) (chunk_at right i)) j ≡
    cond (get_or (both left right) (64 * i + j) false) 1 0
bit_of-and_chunks left right i j e h =
    bit_at_and (chunk_at left i) (chunk_at right i) j
    ∙ ap₂ min (bit_of-chunk_at left i j h) (bit_of-chunk_at right i j h)
    ∙ min_digits (get_or left (64 * i + j) false) (get_or right (64 * i + j) false)
    ∙ ap (λ b. cond b 1 0) (sym (get_or-both left right (64 * i + j) e))

-- the bytes so far hold both values so far, and eight bytes more do with the next chunk
pub both_more : (bytes : List ℕ) (left right : List Bool) (i word : ℕ) →
    length left ≡ length right → length bytes ≡ 8 * i →
    word ≡ bit_and (chunk_at left i) (chunk_at right i) →
    ((k : ℕ) → k < 64 * i → bit_at bytes k ≡ get_or (both left right) k false) → (k : ℕ) →
    k < 64 * (i + 1) → bit_at (bytes ++ to_le_bytes w64 word) k ≡ get_or (both left right) k false
both_more bytes left right i word e size is same k h = ⊎_elim
    (λ (l : k < 64 * i). bit_at-append_left bytes (to_le_bytes w64 word) k (omega arith) ∙ same k l)
    (λ (l : 64 * i ≤ k). let j : k - 64 * i < 64 = omega arith in
    bit_at-append_right bytes (to_le_bytes w64 word) (8 * i) k size (omega arith)
    ∙ ap (λ m. eqb (bit_of (get_or (to_le_bytes w64 word) (m / 8) 0) (m % 8)) 1) (omega arith)
    ∙ ap (λ b. eqb b 1) (bit_of-to_le_bytes word (k - 64 * i) j)
    ∙ test_of_digit (get_or (both left right) k false) (bit_of word (k - 64 * i))
    (ap (λ w. bit_of w (k - 64 * i)) is ∙ bit_of-and_chunks left right i (k - 64 * i) e j
    ∙ ap (λ m. cond (get_or (both left right) m false) 1 0) (omega arith)))
    (cases_lt k (64 * i))
