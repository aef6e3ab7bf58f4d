-- Lemmas on the bits of bytes.
use Rattle.std.proofs.Common.{◌≡◌, ℕ, zero, suc, ◌+◌, ◌-◌, ◌*◌, ◌/◌, ◌%◌, ◌^◌, ◌<◌, ◌≤◌, Bool}
use Rattle.std.proofs.Common.{false, cond, eqb, List, length, get_or, map, drop, refl, sym, ap, ◌∙◌}
use Rattle.std.proofs.Common.{arith, w64, div-one, pow-suc, mul_comm, subst, ⊎_elim, add-zero, ap₂}
use Rattle.std.proofs.Common.{bit_and}
use Rattle.std.proofs.lemmas.List.{ext_get_or, length-take, length-drop, get_or-take, get_or-drop}
use Rattle.std.proofs.lemmas.List.{get_or_past, take_rest}
use Rattle.std.proofs.lemmas.List.FromFn.{length-map-range_with_len, get_or-map-range_with_len}
use Rattle.std.proofs.lemmas.Nat.{le_bytes_8, pow-add}
use Rattle.std.proofs.lemmas.Nat.Bits.{shr_and_one}
use Rattle.std.specs.Int.{bit_at as bit_of, to_le_bytes, from_le_bytes, bytes_low_first, byte_at}
use Rattle.std.specs.List.{range_with_len}
use Rattle.std.proofs.lemmas.Bool.{cases_lt}
use Rattle.col_buf.specs.Cut.{cut}
use Rattle.col_buf.specs.Bitmap.{bit_at, bits_from, number_of}
use Rattle.col_buf.proofs.NumberLemmas.{digit_of_bit, bit_of-mod, bit_of-shr, number_from_bits}

-- as many bits as are asked for
pub length-bits_from : (bytes : List ℕ) (offset count : ℕ) →
    length (bits_from bytes offset count) ≡ count
unfolding bits_from
length-bits_from bytes offset count = length-map-range_with_len (bit_at bytes) offset count

-- the bit at a place
pub get_or-bits_from : (bytes : List ℕ) (offset count i : ℕ) → i < count →
    get_or (bits_from bytes offset count) i false ≡ bit_at bytes (offset + i)
unfolding bits_from
get_or-bits_from bytes offset count i h =
    get_or-map-range_with_len (bit_at bytes) offset count i (offset + i) false h refl

-- truth values that are the bits at their places are those bits
pub bits_from_is : (bytes : List ℕ) (offset count : ℕ) (truths : List Bool) →
    length truths ≡ count →
    ((i : ℕ) → i < count → bit_at bytes (offset + i) ≡ get_or truths i false) →
    bits_from bytes offset count ≡ truths
bits_from_is bytes offset count truths e same =
    ext_get_or false (bits_from bytes offset count) truths
    (length-bits_from bytes offset count ∙ sym e)
    (λ i h. let k : i < count = omega (arith, length-bits_from bytes offset count) in
    get_or-bits_from bytes offset count i k ∙ same i k)

-- the bits behind the first bytes
pub bit_at-drop : (bytes : List ℕ) (at i : ℕ) → bit_at (drop at bytes) i ≡ bit_at bytes (8 * at + i)
bit_at-drop bytes at i =
    let d : at + i / 8 ≡ (8 * at + i) / 8 = omega arith in
    let m : i % 8 ≡ (8 * at + i) % 8 = omega arith in
    ap (λ b. eqb (bit_of b (i % 8)) 1) (get_or-drop at bytes (i / 8) 0)
    ∙ ap (λ k. eqb (bit_of (get_or bytes k 0) (i % 8)) 1) d
    ∙ ap (λ k. eqb (bit_of (get_or bytes ((8 * at + i) / 8) 0) k) 1) m

-- bits from a place on are those of the bytes from its byte on
pub bits_from-drop : (bytes : List ℕ) (at offset count : ℕ) →
    bits_from (drop at bytes) offset count ≡ bits_from bytes (8 * at + offset) count
bits_from-drop bytes at offset count =
    bits_from_is (drop at bytes) offset count (bits_from bytes (8 * at + offset) count)
    (length-bits_from bytes (8 * at + offset) count)
    (λ i h. bit_at-drop bytes at (offset + i) ∙ ap (bit_at bytes) (sym (omega arith))
    ∙ sym (get_or-bits_from bytes (8 * at + offset) count i h))

-- a part of the bits is the bits from its own place on
pub cut-bits_from : (bytes : List ℕ) (start count offset n : ℕ) → offset + n ≤ count →
    cut (bits_from bytes start count) offset n ≡ bits_from bytes (start + offset) n
cut-bits_from bytes start count offset n within =
    let all = bits_from bytes start count in
    let size : length (cut all offset n) ≡ n =
    simp (length-take, length-drop) (omega (arith, length-bits_from bytes start count)) in
    sym (bits_from_is bytes (start + offset) n (cut all offset n) size
    (λ i h. let k : offset + i < count = omega arith in
    ap (bit_at bytes) (omega arith) ∙ sym (get_or-bits_from bytes start count (offset + i) k)
    ∙ sym (get_or-drop offset all i false) ∙ sym (get_or-take n (drop offset all) i false h)))

-- the digit of a bit of bytes
pub digit_of_bit_at : (bytes : List ℕ) (i : ℕ) →
    cond (bit_at bytes i) 1 0 ≡ bit_of (get_or bytes (i / 8) 0) (i % 8)
digit_of_bit_at bytes i = digit_of_bit (get_or bytes (i / 8) 0) (i % 8)

-- a byte of a number's bytes
get_or-bytes_low_first : (first size n k : ℕ) → k < size →
    get_or (bytes_low_first first size n) k 0 ≡ byte_at (first + k) n
get_or-bytes_low_first first zero n k h = absurd (omega arith)
get_or-bytes_low_first first (suc size) n zero h = ap (λ i. byte_at i n) (omega arith)
get_or-bytes_low_first first (suc size) n (suc k) h =
    get_or-bytes_low_first (suc first) size n k (omega arith) ∙ ap (λ i. byte_at i n) (omega arith)

-- a power of 256 as one of 2
bytes_power : (k : ℕ) → 256 ^ k ≡ 2 ^ (8 * k)
bytes_power zero = refl
bytes_power (suc k) =
    pow-suc 256 k ∙ ap (λ m. m * 256) (bytes_power k) ∙ mul_comm (2 ^ (8 * k)) 256
    ∙ sym (pow-add 2 8 (8 * k)) ∙ ap (λ m. 2 ^ m) (omega arith)

-- a byte is eight bits of the number
byte_at_is : (k n : ℕ) → byte_at k n ≡ n / 2 ^ (8 * k) % 2 ^ 8
byte_at_is zero n = ap (λ m. m % 256) (sym (div-one n))
byte_at_is (suc k) n = ap (λ m. n / m % 256) (bytes_power (suc k))

-- the bits of a number's eight bytes are the bits of the number
pub bit_of-to_le_bytes : (n i : ℕ) → i < 64 →
    bit_of (get_or (to_le_bytes w64 n) (i / 8) 0) (i % 8) ≡ bit_of n i
bit_of-to_le_bytes n i h =
    let k : i / 8 < 8 = omega arith in
    let r : i % 8 < 8 = omega arith in
    let place : 8 * (i / 8) + i % 8 ≡ i = omega arith in
    ap (λ b. bit_of b (i % 8))
    (get_or-bytes_low_first 0 8 n (i / 8) k ∙ ap (λ m. byte_at m n) (omega arith)
    ∙ byte_at_is (i / 8) n) ∙ bit_of-mod (n / 2 ^ (8 * (i / 8))) 8 (i % 8) r
    ∙ bit_of-shr n (8 * (i / 8)) (i % 8) ∙ ap (bit_of n) place

-- the first eight bytes, 0 past their end
abbrev pub first_eight : List ℕ → List ℕ
first_eight bytes = map (λ k. get_or bytes k 0) (range_with_len 0 8)

-- each of them is a byte
first_eight-lt : (bytes : List ℕ) → ((k : ℕ) → get_or bytes k 0 < 256) → (i : ℕ) →
    get_or (first_eight bytes) i 0 < 256
first_eight-lt bytes small i = ⊎_elim
    (λ (h : i < 8). subst (λ b. b < 256)
    (sym (get_or-map-range_with_len (λ k. get_or bytes k 0) 0 8 i i 0 h (omega arith)))
    (small i))
    (λ (h : 8 ≤ i). subst (λ b. b < 256) (sym (get_or_past (first_eight bytes) i 0 h))
    (omega arith))
    (cases_lt i 8)

-- the word of the first eight bytes is the number of their bits
pub word_is : (bytes : List ℕ) (n : ℕ) → n < 2 ^ 64 → ((k : ℕ) → get_or bytes k 0 < 256) →
    n ≡ from_le_bytes w64 (first_eight bytes) → n ≡ number_of (bits_from bytes 0 64)
word_is bytes n fits small e =
    number_from_bits n 64 (bits_from bytes 0 64) fits (omega (arith, length-bits_from bytes 0 64))
    (λ i h. let k : i / 8 < 8 = omega arith in
    sym (bit_of-to_le_bytes n i h)
    ∙ ap (λ ys. bit_of (get_or ys (i / 8) 0) (i % 8))
    (le_bytes_8 (first_eight bytes) n refl (first_eight-lt bytes small) e)
    ∙ ap (λ b. bit_of b (i % 8))
    (get_or-map-range_with_len (λ j. get_or bytes j 0) 0 8 (i / 8) (i / 8) 0 k (omega arith))
    ∙ sym (digit_of_bit_at bytes i)
    ∙ ap (λ b. cond b 1 0)
    (ap (bit_at bytes) (omega arith) ∙ sym (get_or-bits_from bytes 0 64 i h)))

-- the same of all the bytes from a byte on
pub bits_from-rest : (bytes : List ℕ) (at offset count : ℕ) →
    bits_from (cut bytes at (length bytes - at)) offset count ≡
    bits_from bytes (8 * at + offset) count
bits_from-rest bytes at offset count = ap (λ xs. bits_from xs offset count) (take_rest bytes at)
    ∙ bits_from-drop bytes at offset count

-- the 64 bits from a byte on, as a number
pub word_from : (bytes : List ℕ) (at : ℕ) →
    number_of (bits_from (cut bytes at (length bytes - at)) 0 64) ≡
    number_of (bits_from bytes (8 * at) 64)
word_from bytes at = ap number_of (bits_from-rest bytes at 0 64)
    ∙ ap (λ o. number_of (bits_from bytes o 64)) (add-zero (8 * at))

-- a part of the bits from a bit on, where its place is told as bytes and bits
pub part_from : (bytes : List ℕ) (start count offset n : ℕ) → offset + n ≤ count →
    bits_from bytes (8 * (offset / 8) + (start + offset % 8)) n ≡
    cut (bits_from bytes start count) offset n
part_from bytes start count offset n within =
    ap (λ o. bits_from bytes o n) (omega arith)
    ∙ sym (cut-bits_from bytes start count offset n within)

-- the bits of a cut of the bytes from a bit on that may lie past the first byte
pub bits_from-cut : (bytes : List ℕ) (byte bit count : ℕ) →
    bits_from (cut bytes (byte + bit / 8) (length bytes - (byte + bit / 8))) (bit % 8) count ≡
    bits_from bytes (8 * byte + bit) count
bits_from-cut bytes byte bit count =
    bits_from-rest bytes (byte + bit / 8) (bit % 8) count
    ∙ ap (λ o. bits_from bytes o count) (omega arith)

-- a view has as many truth values as bits
pub length-view : (bytes : List ℕ) (start count : ℕ) (truths : List Bool) →
    bits_from bytes start count ≡ truths → length truths ≡ count
length-view bytes start count truths e = sym (ap length e) ∙ length-bits_from bytes start count

-- the bit that is read for a place, where its byte is told as bytes and bits
pub bit_read : (bytes : List ℕ) (start count i : ℕ) (truths : List Bool) →
    bits_from bytes start count ≡ truths → i < count →
    eqb (bit_and (get_or bytes (i / 8 + (start + i % 8) / 8) 0 / 2 ^ ((start + i % 8) % 8)) 1) 1 ≡
    get_or truths i false
bit_read bytes start count i truths e h =
    let byte = get_or bytes (i / 8 + (start + i % 8) / 8) 0 in
    ap (λ n. eqb n 1) (shr_and_one byte ((start + i % 8) % 8))
    ∙ ap₂ (λ k r. eqb (bit_of (get_or bytes k 0) r) 1) (omega arith) (omega arith)
    ∙ sym (get_or-bits_from bytes start count i h) ∙ ap (λ xs. get_or xs i false) e
