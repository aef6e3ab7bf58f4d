-- Commands: the words that name one, and what it writes.
use Rattle.std.specs.Prelude.{ℕ, Bool, true, false, List, [], ◌∷◌, codes, Option, Some, None}
use Rattle.std.specs.Prelude.{if◌then◌else◌, String, string_bytes, ⊤}
use Rattle.std.specs.declared.alloc.Global.{Global}
use Rattle.std.specs.Option.{option_map}
use Rattle.std.specs.Str.{bytes_eq}
use Rattle.col_document.specs.Document.{DocumentView, count_named, document_of}
use Rattle.col_document.specs.Json.{◌>>=◌}
use Rattle.col_page.specs.Page.{has_error_line, page_text}
use Rattle.col_page.specs.PageView.{PageView}
use Rattle.col_page.specs.Generator.{IsRowCount, is_row_count, summary_text}
use Rattle.col_page.specs.Sums.{has_error_sum, sums_text}
use Rattle.col_run.specs.declared.words.Command.{Command}
use Rattle.col_run.specs.declared.words.Command.TheVariants.{Eval, Make, Sum}

-- the number of rows that a word names: a count from 1 to 1000000. `64` is 64, and `0`, `064` and
-- `+64` are none
abbrev pub rows_named : List ℕ → Option ℕ
rows_named word = count_named word >>= (λ n. if is_row_count n then Some n else None)

-- the command that a single word names
abbrev pub lone_command : List ℕ → Option Command
lone_command word =
    if bytes_eq word (codes "eval") then Some Eval
    else (if bytes_eq word (codes "sum") then Some Sum else None)

-- the command that two words name: `make` and a number of rows
abbrev pub pair_command : List ℕ → List ℕ → Option Command
pair_command word count =
    if bytes_eq word (codes "make") then option_map Make (rows_named count) else None

-- the command that the words name, where they name one
abbrev pub command_of : List (String Global) → Option Command
command_of (word ∷ []) = lone_command (string_bytes word)
command_of (word ∷ count ∷ []) = pair_command (string_bytes word) (string_bytes count)
command_of _ = None

-- a command is one that words may name: a table has a number of rows that it may have
abbrev pub IsAsked : Command → Type 0
IsAsked (Make n) = IsRowCount n
IsAsked _ = ⊤

-- whether a command reads its source
abbrev pub reads_source : Command → Bool
reads_source Eval = true
reads_source Sum = true
reads_source (Make n) = false

-- the page of a document, and whether some line of it is an error line
abbrev pub page_view : DocumentView → PageView
page_view d = record { text = page_text d; has_error = has_error_line d }

-- the sums of a document, and whether some line of them is an error line
abbrev pub sums_view : DocumentView → PageView
sums_view d = record { text = sums_text d; has_error = has_error_sum d }

-- what is written of a made table of so many rows: no line of it is an error line
abbrev pub summary_view : ℕ → PageView
summary_view n = record { text = summary_text n; has_error = false }

-- what a command writes, by the bytes of its source: none where they are not what it reads
abbrev pub page_of_command : Command → List ℕ → Option PageView
page_of_command Eval bytes = option_map page_view (document_of bytes)
page_of_command Sum bytes = option_map sums_view (document_of bytes)
page_of_command (Make n) bytes = Some (summary_view n)
