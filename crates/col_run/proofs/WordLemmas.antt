-- Numbers of rows, and the words that name them.
use Rattle.std.proofs.Common.{◌≡◌, ℕ, ◌^◌, ◌<◌, true, cond, List, Option, Some, None, refl, ap}
use Rattle.std.proofs.Common.{arith}
use Rattle.std.specs.Fmt.{decimal}
use Rattle.std.proofs.lemmas.Bool.Decides.{nat_tests}
use Rattle.std.proofs.lemmas.Option.{cond_some, none-some}
use Rattle.col_document.specs.Document.{count_named}
use Rattle.col_document.specs.Json.{◌>>=◌}
use Rattle.col_document.proofs.PositionLemmas.{count-of_digits, digits-of_count}
use Rattle.col_page.specs.Generator.{IsRowCount, is_row_count}
use Rattle.col_run.specs.Command.{rows_named}

-- a number of rows has fewer than 32 bits
short_count : (n : ℕ) → is_row_count n ≡ true → n < 2 ^ 32
short_count n e = grind (arith, nat_tests)

-- of the counts, those that are numbers of rows are taken
counted : (o : Option ℕ) (n : ℕ) → (o >>= (λ k. cond (is_row_count k) (Some k) None)) ≡ Some n
    → (o ≡ Some n) × (is_row_count n ≡ true)
counted None n e = absurd (none-some n e)
counted (Some k) n e =
    let found = cond_some (is_row_count k) k n e in
    (ap Some found.1, rw (← found.1) found.0)

-- a word that names a number of rows is its digits
pub digits-of_rows : (word : List ℕ) (n : ℕ) → rows_named word ≡ Some n
    → (word ≡ decimal n) × IsRowCount n
digits-of_rows word n e =
    let found = counted (count_named word) n e in
    ((digits-of_count word n found.0).0, found.1)

-- and the digits of such a number name it
pub rows-of_digits : (word : List ℕ) (n : ℕ) → word ≡ decimal n → IsRowCount n
    → rows_named word ≡ Some n
rows-of_digits word n e counts =
    rw (count-of_digits word n e (short_count n counts), counts) refl
