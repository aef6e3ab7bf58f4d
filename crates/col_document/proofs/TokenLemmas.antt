-- Lists of a document, read a token at a time.
use Rattle.std.proofs.Common.{◌≡◌, ℕ, ◌-◌, ◌<◌, ◌≤◌, ℤ, pos, negsuc, List, [], ◌∷◌, ◌++◌, length}
use Rattle.std.proofs.Common.{Option, Some, None, codes}
use Rattle.std.proofs.Common.{option_and_then, option_map, refl, sym, ap, ◌∙◌, arith}
use Rattle.std.proofs.lemmas.Option.{same_Some}
use Rattle.json.specs.Token as token
use Rattle.json.specs.Token.{Token, begin_array, begin_object}
use Rattle.json.specs.Json.{after_end_array, read_key}
use Rattle.json.specs.Lex.{tokens}
use Rattle.serde_json.specs.Data.{Data, Items, no_items, array, object, null, number, string}
use Rattle.serde_json.specs.Find.{as_array, as_integer, as_str, get, of_integer}
use Rattle.serde_json.specs.Read.{read}
use Rattle.col_json.specs.Begins.{Begins, Passes}
use Rattle.col_json.specs.Digits.{Spells}
use Rattle.col_json.proofs.BeginsLemmas.{begins-all, begins-list, begins-object, begins-pair}
use Rattle.col_json.proofs.BeginsLemmas.{in_front, ItemsUpTo, items-none, items-more, items-all}
use Rattle.col_json.proofs.ValueLemmas.{null-begins, number-begins, text-begins}
use Rattle.col_model.specs.Cell as cell
use Rattle.col_model.specs.Whole.{WholeType, checked_number}
use Rattle.col_types.specs.Column.{Column}
use Rattle.col_types.specs.DataKind.{DataKind}
use Rattle.col_eval.specs.Tree.{Tree}
use Rattle.col_document.specs.Document.{cell_read, column_read, type_named, type_read, whole_read}
use Rattle.col_document.specs.Document.{document_read, tree_read}
use Rattle.col_document.specs.Json.{each}
use Rattle.col_document.specs.Reading.{AreReadAs, IsReadAs, column_with, only_table}
use Rattle.col_document.proofs.DigitTextLemmas.{spelled-read}
use Rattle.col_document.proofs.ListLemmas.{bind_some, option_cons-some}
use Rattle.col_document.proofs.ReadingLemmas.{column_read-list, document_read-parts}

as_integer-of_integer : (n : ℤ) → as_integer (of_integer n) ≡ Some n
as_integer-of_integer (pos n) = refl
as_integer-of_integer (negsuc n) = refl

-- ---- cells

module _ (t : WholeType) (levels : ℕ) (rest : List Token) where
  pub null-cell : IsReadAs levels (whole_read t) (token.null ∷ rest) cell.null rest
  null-cell = (null, refl, null-begins levels rest)

  pub number-cell : (text : List ℕ) (n m : ℤ) → Spells text n → checked_number t n ≡ Some m
      → IsReadAs levels (whole_read t) (token.number text ∷ rest) (cell.whole m) rest
  number-cell text n m spells fits = (
    number (of_integer n),
    rw (as_integer-of_integer n, fits) refl,
    number-begins levels text n rest spells,
  )

  pub text-cell : (text : List ℕ) (n m : ℤ) → Spells text n → checked_number t n ≡ Some m
      → IsReadAs levels (whole_read t) (token.string text ∷ rest) (cell.whole m) rest
  text-cell text n m spells fits = (
    string text,
    ap (option_map cell.whole) (spelled-read t text n m spells fits),
    text-begins levels text rest,
  )

-- ---- lists

-- a list, by its items
pub list-read : {Y : Type 0} (levels : ℕ) (f : Items → Option Y) (ts inner rest : List Token)
    (y : Y) → 0 < levels → ts ≡ begin_array ∷ inner → AreReadAs (levels - 1) f inner y rest
    → IsReadAs levels (λ d. option_and_then f (as_array d)) ts y rest
list-read levels f ts inner rest y some opened h = (
  array h.0,
  h.1,
  begins-list levels (levels - 1) ts inner rest h.0 (omega (arith, some)) opened h.2,
)

-- one more item is read behind those that are
each-more : {Y : Type 0} (f : Data → Option Y) (done : List Data) (d : Data) (ys : List Y) (y : Y)
    → each f (in_front done no_items) ≡ Some ys → f d ≡ Some y
    → each f (in_front (done ++ d ∷ []) no_items) ≡ Some (ys ++ y ∷ [])
each-more f [] d ys y e h = rw h (ap (λ zs. Some (zs ++ y ∷ [])) (same_Some _ _ e))
each-more f (first ∷ done) d ys y e h =
    let p = option_cons-some (f first) (each f (in_front done no_items)) ys e in
    let rest = each-more f done d p.1 y p.3 h in
    rw (p.2, rest) (ap (λ zs. Some (zs ++ y ∷ [])) p.4)

-- from the first token of a list's items up to another stand items that are read as these
abbrev pub AreReadUpTo : {Y : Type 0} → ℕ → (Data → Option Y) → List Token → List Y → List Token
    → Type 0
AreReadUpTo levels f all ys ts =
    (done : List Data) × (each f (in_front done no_items) ≡ Some ys) × ItemsUpTo levels all done ts

pub read-none : {Y : Type 0} (levels : ℕ) (f : Data → Option Y) (all : List Token)
    → AreReadUpTo levels f all [] all
read-none levels f all = ([], refl, items-none levels all)

pub read-more : {Y : Type 0} (levels : ℕ) (f : Data → Option Y) (all ts rest : List Token)
    (ys : List Y) (y : Y) → AreReadUpTo levels f all ys ts → IsReadAs levels f ts y rest
    → AreReadUpTo levels f all (ys ++ y ∷ []) rest
read-more levels f all ts rest ys y (done, are, upto) (d, is, begins) = (
  done ++ d ∷ [],
  each-more f done d ys y are is,
  items-more levels all ts rest done d upto begins,
)

pub read-all : {Y : Type 0} (levels : ℕ) (f : Data → Option Y) (all ts rest : List Token)
    (ys : List Y) → AreReadUpTo levels f all ys ts → after_end_array ts ≡ Some rest
    → AreReadAs levels (each f) all ys rest
read-all levels f all ts rest ys (done, are, upto) ended =
    (in_front done no_items, are, items-all levels all ts rest done upto ended)

-- ---- objects of two members

type_other : codes "type" ≡ codes "values" → ⊥
type_other e = omega (arith, ap length e)

-- a column: its type, then its cells
pub column-read : (levels : ℕ)
    (ts inner at_1 at_type past_type at_2 at_values opened past_values at_3 rest : List Token)
    (name : List ℕ) (t : DataKind) (column : Column) → 2 ≤ levels
    → ts ≡ begin_object ∷ inner
    → Passes (levels - 1) (codes "type") (codes "values") inner at_1
    → read_key at_1 ≡ Some (Some (codes "type"), at_type)
    → at_type ≡ token.string name ∷ past_type → type_named name ≡ Some t
    → Passes (levels - 1) (codes "type") (codes "values") past_type at_2
    → read_key at_2 ≡ Some (Some (codes "values"), at_values)
    → at_values ≡ begin_array ∷ opened
    → ((inside : ℕ) → AreReadAs inside (λ ds. column_with t (each (cell_read t) ds)) opened column
    past_values)
    → Passes (levels - 1) (codes "type") (codes "values") past_values at_3
    → read_key at_3 ≡ Some (None, rest)
    → IsReadAs levels column_read ts column rest
column-read
    levels ts inner at_1 at_type past_type at_2 at_values opened past_values at_3 rest name t column
    enough is_open pass_1 type_key is_text named pass_2 values_key is_list cells pass_3 closed =
    let text : Begins (levels - 1) at_type (string name) past_type =
    rw is_text (text-begins (levels - 1) name past_type) in
    let inside = cells (levels - 1 - 1) in
    let ds = inside.0 in
    let list = begins-list (levels - 1) (levels - 1 - 1) at_values opened past_values ds
    (omega (arith, enough)) is_list inside.2 in
    let both = begins-pair (levels - 1) inner at_1 at_type past_type at_2 at_values past_values at_3
    rest (codes "type") (codes "values") (string name) (array ds) type_other pass_1 type_key text
    pass_2 values_key list pass_3 closed in
    let ms = both.0 in
    let is_typed : Some t ≡ type_read (object ms) =
    sym (ap (λ o. option_and_then type_named (option_and_then as_str o)) both.1 ∙ named) in
    let is_listed : Some ds ≡ option_and_then as_array (get (codes "values") (object ms)) =
    sym (ap (option_and_then as_array) both.2) in (
      object ms,
      column_read-list (object ms) t ds is_typed is_listed ∙ inside.1,
      begins-object levels (levels - 1) ts inner rest ms (omega (arith, enough)) is_open both.3,
    )

columns_other : codes "columns" ≡ codes "trees" → ⊥
columns_other e = omega (arith, ap length e)

-- a document: its columns, then its trees
pub document-read : (text : List ℕ)
    (inner at_1 at_columns past_columns at_2 at_trees past_trees at_3 : List Token)
    (columns table : List Column) (v : Data) (tree_items : Items) (trees : List Tree)
    → tokens text ≡ begin_object ∷ inner
    → Passes 126 (codes "columns") (codes "trees") inner at_1
    → read_key at_1 ≡ Some (Some (codes "columns"), at_columns)
    → IsReadAs 126 (λ d. option_and_then (each column_read) (as_array d)) at_columns columns
    past_columns
    → Passes 126 (codes "columns") (codes "trees") past_columns at_2
    → read_key at_2 ≡ Some (Some (codes "trees"), at_trees)
    → Begins 126 at_trees v past_trees
    → Passes 126 (codes "columns") (codes "trees") past_trees at_3
    → read_key at_3 ≡ Some (None, [])
    → Some tree_items ≡ as_array v → each tree_read tree_items ≡ Some trees
    → only_table columns ≡ Some table
    → option_and_then document_read (read text)
    ≡ Some (record { table = table; trees = trees })
document-read
    text inner at_1 at_columns past_columns at_2 at_trees past_trees at_3 columns table v tree_items
    trees is_open pass_1 columns_key are_columns pass_2 trees_key is_value pass_3 closed listed
    are_trees is_table =
    let e = are_columns.0 in
    let both = begins-pair 126 inner at_1 at_columns past_columns at_2 at_trees past_trees at_3 []
    (codes "columns") (codes "trees") e v columns_other pass_1 columns_key are_columns.2 pass_2
    trees_key is_value pass_3 closed in
    let d = object both.0 in
    let begins = begins-object 127 126 (tokens text) inner [] both.0 refl is_open both.3 in
    let found = bind_some (each column_read) (as_array e) columns are_columns.1 in
    let whole : document_read d ≡ option_map (λ table. record { table = table; trees = trees })
    (only_table columns) =
    document_read-parts d found.0 tree_items columns trees
    (sym (ap (option_and_then as_array) both.1 ∙ found.1))
    (listed ∙ sym (ap (option_and_then as_array) both.2)) found.2 are_trees in
    ap (option_and_then document_read) (begins-all text d begins) ∙ whole
    ∙ ap (option_map (λ table. record { table = table; trees = trees })) is_table
