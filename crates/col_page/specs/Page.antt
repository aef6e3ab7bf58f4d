-- Pages: a line for each tree of a document.
use Rattle.std.specs.Prelude.{◌≡◌, ℕ, Bool, true, false, List, [], ◌++◌, map, codes}
use Rattle.std.specs.Prelude.{is_err, Result, Ok, Err}
use Rattle.std.specs.Fmt.{signed_decimal}
use Rattle.std.specs.List.{flat_map, join_with_byte, list_any}
use Rattle.col_model.specs.Cell.{Cell, null, whole, truth, parts}
use Rattle.col_types.specs.Column.{Column}
use Rattle.col_types.specs.declared.error.Error.{Error}
use Rattle.col_types.specs.declared.error.Error.TheVariants.{Memory, NotYetImplemented}
use Rattle.col_types.specs.declared.error.Error.TheVariants.{InvalidArgumentError, Overflow}
use Rattle.col_types.specs.declared.error.Error.TheVariants.{DivideByZero, OutOfRange, OutOfSpec}
use Rattle.col_eval.specs.Meaning.{outcome_of}
use Rattle.col_eval.specs.Tree.{Tree}
use Rattle.col_document.specs.Document.{DocumentView}
use Rattle.col_document.specs.TypeText.{type_text}

-- the text of a cell: a number in decimal, a truth value by its name, an interval as the list of
-- its numbers; there is no array of other cells yet, and they have no text
abbrev pub cell_text : Cell → List ℕ
cell_text null = codes "null"
cell_text (whole n) = signed_decimal n
cell_text (truth true) = codes "true"
cell_text (truth false) = codes "false"
cell_text (parts ns) = codes "[" ++ join_with_byte 44 (map signed_decimal ns) ++ codes "]"
cell_text _ = []

-- the cells in brackets, joined by commas
abbrev pub cells_text : List Cell → List ℕ
cells_text cells = codes "[" ++ join_with_byte 44 (map cell_text cells) ++ codes "]"

-- what stands in front of a cell: a comma, unless it is the first
abbrev pub comma_unless : Bool → List ℕ
comma_unless true = []
comma_unless false = codes ","

-- the name of an error's variant
abbrev pub error_name : Error → List ℕ
error_name Memory = codes "Memory"
error_name NotYetImplemented = codes "NotYetImplemented"
error_name (InvalidArgumentError reason) = codes "InvalidArgumentError"
error_name Overflow = codes "Overflow"
error_name DivideByZero = codes "DivideByZero"
error_name OutOfRange = codes "OutOfRange"
error_name OutOfSpec = codes "OutOfSpec"

-- a line, and its end: the text of what is answered, or the error's name
abbrev pub line_by : {X : Type 0} → (X → List ℕ) → Result X Error → List ℕ
line_by text (Ok x) = text x ++ codes "\n"
line_by text (Err e) = codes "error " ++ error_name e ++ codes "\n"

-- the text of a column: its type and its cells
abbrev pub column_text : Column → List ℕ
column_text c = type_text c.data_type ++ codes " " ++ cells_text c.cells

-- the page of a document: for each tree, in order, a line with its column or its refusal
abbrev pub page_text : DocumentView → List ℕ
page_text d = flat_map (λ tree. line_by column_text (outcome_of tree d.table)) d.trees

-- whether some line is an error line
abbrev pub has_error_line : DocumentView → Bool
has_error_line d = list_any (λ tree. is_err (outcome_of tree d.table)) d.trees

-- a line was added for an answer, and its kind told
pub record IsLine {X : Type 0} (text_of : X → List ℕ) (answer : Result X Error) (old new : List ℕ)
    (is_error : Bool) : Type 0 where
  pub text : new ≡ old ++ line_by text_of answer
  pub kind : is_error ≡ is_err answer

-- the lines of what trees are answered over a table came behind a text, and the flag tells whether
-- some is an error line
pub record HasLines {X : Type 0} (text_of : X → List ℕ)
    (answer : Tree → List Column → Result X Error) (table : List Column) (trees : List Tree)
    (old new : List ℕ) (has_error : Bool) : Type 0 where
  pub lines : new ≡ old ++ flat_map (λ tree. line_by text_of (answer tree table)) trees
  pub error : has_error ≡ list_any (λ tree. is_err (answer tree table)) trees
