-- Facts on reading a mask by its words.
use Rattle.std.proofs.Common.{◌≡◌, ℕ, ◌+◌, ◌-◌, ◌/◌, ◌%◌, ◌<◌, suc, zero, Bool, true, List, ◌∷◌}
use Rattle.std.proofs.Common.{length, get_or, take, drop, ap, ◌∙◌, arith}
use Rattle.std.proofs.Math.Seq.{drop-cons}
use Rattle.col_buf.specs.Bitmap.{number_of}
use Rattle.col_buf.proofs.NumberLemmas.{halved}
use Rattle.col_flat.specs.Flags.{IsReading, flags_in_word}

-- what is left of a word with a flag in front
rest_front : (n : ℕ) (b : Bool) (rest : List Bool) → 0 < n
    → number_of (take n (b ∷ rest)) / 2 ≡ number_of (take (n - 1) rest)
rest_front zero b rest p = absurd (omega arith)
rest_front (suc n) b rest p =
    let same : n ≡ suc n - 1 = omega arith in
    halved b (number_of (take n rest)) ∙ ap (λ k. number_of (take k rest)) same

-- a word is read on by one flag
pub next_reading : (flags : List Bool) (row word before : ℕ) → row < length flags
    → IsReading flags row before → word ≡ number_of (take (64 - row % 64) (drop row flags))
    → IsReading flags (row + 1) (word / 2)
next_reading flags row word before within reading read =
    let front = drop-cons flags row true within in
    let some : 0 < 64 - row % 64 = omega arith in
    let left : 64 - row % 64 - 1 ≡ flags_in_word (row + 1) = omega arith in
    let next : suc row ≡ row + 1 = omega arith in
    record {
      within = omega arith;
      counted = reading.counted;
      bits = ap (λ n. n / 2) (read ∙ ap (λ fs. number_of (take (64 - row % 64) fs)) front)
          ∙ rest_front (64 - row % 64) (get_or flags row true) (drop (suc row) flags) some
          ∙ ap (λ n. number_of (take n (drop (suc row) flags))) left
          ∙ ap (λ n. number_of (take (flags_in_word (row + 1)) (drop n flags))) next;
    }
