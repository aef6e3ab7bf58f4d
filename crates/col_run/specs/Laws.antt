-- Laws of whole runs.
use Rattle.std.specs.Prelude.{◌≡◌, ◌↔◌, ℕ, ◌⊎◌, nat_lt, List, [], length, Option, Some, None}
use Rattle.std.specs.Prelude.{if◌then◌else◌, IfSome}
use Rattle.std.specs.Fmt.{decimal}
use Rattle.col_page.specs.Generator.{IsRowCount}
use Rattle.col_page.specs.PageView.{PageView}
use Rattle.col_run.specs.Command.{page_of_command, reads_source, rows_named}
use Rattle.col_run.specs.Run.{max_bytes}
use Rattle.col_run.specs.declared.words.Command.{Command}
use Rattle.col_run.specs.declared.status.Status.{Status}
use Rattle.col_run.specs.declared.status.Status.TheVariants.{Done, Refused, Malformed, Memory}
use Rattle.col_run.specs.declared.status.Status.TheVariants.{TooLong, Words}

-- how a run ends whose page was written, or whose input has none
abbrev pub page_status : Option PageView → Status
page_status None = Malformed
page_status (Some page) = if page.has_error then Refused else Done

-- the input of a run, where it is told: what its source has left, and no bytes where the words are
-- no command, or one that does not read
abbrev pub input_of : Option Command → Option (List ℕ) → Option (List ℕ)
input_of None left = Some []
input_of (Some c) left = if reads_source c then left else Some []

-- how a run ends, by its command and its input, where no fault comes and memory is found
abbrev pub status_of : Option Command → List ℕ → Status
status_of None bytes = Words
status_of (Some c) bytes =
    if nat_lt max_bytes (length bytes) then TooLong else page_status (page_of_command c bytes)

-- where its input is told and no count of faults rose, a run ends as its command and its input
-- say, unless memory was not found
abbrev pub EndsByInput : Option Command → Option (List ℕ) → Type 0 → Type 0 → Status → Type 0
EndsByInput command left read_fault write_fault status = IfSome (input_of command left)
    (λ bytes. ¬ read_fault → ¬ write_fault
    → (status ≡ status_of command bytes) ⊎ (status ≡ Memory))

-- a word names a number of rows exactly where it is the number's digits, and so many are made
abbrev pub NamesItsRows : Type 0
NamesItsRows = (word : List ℕ) (n : ℕ) →
    (rows_named word ≡ Some n) ↔ ((word ≡ decimal n) × IsRowCount n)
