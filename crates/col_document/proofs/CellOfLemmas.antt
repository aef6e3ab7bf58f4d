-- The cells of a document are cells of their columns' types.
use Rattle.std.proofs.Common.{◌≡◌, ℕ, ℤ, Bool, true, false, ◌&&◌, List, [], ◌∷◌, Option, Some}
use Rattle.std.proofs.Common.{None, ap, refl}
use Rattle.std.specs.Prelude.{codes, option_map}
use Rattle.std.specs.List.{list_all}
use Rattle.std.specs.Str.{is_utf8}
use Rattle.std.specs.Str.Parse.{signed_digits_value, without_leading_sign}
use Rattle.std.proofs.lemmas.Bool.{and_parts}
use Rattle.std.proofs.lemmas.Option.{cond_some, none-some, same_Some}
use Rattle.serde_json.specs.Data.{Data, Items, no_items, item}
use Rattle.serde_json.specs.Data as json
use Rattle.serde_json.specs.Find.{as_array, as_integer, get}
use Rattle.serde_json.specs.Read.{read}
use Rattle.col_model.specs.Cell.{Cell, whole}
use Rattle.col_model.specs.Whole.{WholeType, checked_number, is_fitting}
use Rattle.col_types.specs.CellOf.{is_cell_of, is_typed_column, value_fields}
use Rattle.col_types.specs.Column.{Column}
use Rattle.col_types.specs.DataKind.{DataKind}
use Rattle.col_types.specs.DataKind as kind
use Rattle.col_types.specs.DataType.{whole_type_of}
use Rattle.col_document.specs.Document.{DocumentView, cell_read, column_read, document_of}
use Rattle.col_document.specs.Document.{document_read, is_digits, is_sign_had, tree_read}
use Rattle.col_document.specs.Document.{type_read, whole_read}
use Rattle.col_document.specs.Json.{◌>>=◌, each}
use Rattle.col_document.proofs.ListLemmas.{bind_some, option_cons-some}

-- a test of each item that is read holds of all of them
each-all : {Y : Type 0} (f : Data → Option Y) (p : Y → Bool)
    → ((d : Data) (y : Y) → f d ≡ Some y → p y ≡ true) → (items : Items) (ys : List Y)
    → each f items ≡ Some ys → list_all p ys ≡ true
each-all f p sound no_items ys e = rw (← same_Some _ ys e) refl
each-all f p sound (item d ds) ys e =
    let q = option_cons-some (f d) (each f ds) ys e in
    rw (← q.4, sound d q.0 q.2, each-all f p sound ds q.1 q.3) refl

-- a number that is there once it is checked fits
checked-some : (t : WholeType) (n z : ℤ) → checked_number t n ≡ Some z → is_fitting t z ≡ true
checked-some t n z e = let p = cond_some (is_fitting t n) n z e in rw (← p.1) p.0

-- the whole number of a cell
whole-some : (o : Option ℤ) (c : Cell) → option_map whole o ≡ Some c
    → (z : ℤ) × (o ≡ Some z) × (whole z ≡ c)
whole-some None c e = absurd (none-some c e)
whole-some (Some z) c e = (z, refl, same_Some _ c e)

-- the values of a type of whole numbers have one field, of that type
value_fields-whole : (k : DataKind) (t : WholeType) → whole_type_of k ≡ Some t
    → value_fields k ≡ t ∷ []
value_fields-whole kind.int8 t e = ap (λ u. u ∷ []) (same_Some _ t e)
value_fields-whole kind.int16 t e = ap (λ u. u ∷ []) (same_Some _ t e)
value_fields-whole kind.int32 t e = ap (λ u. u ∷ []) (same_Some _ t e)
value_fields-whole kind.int64 t e = ap (λ u. u ∷ []) (same_Some _ t e)
value_fields-whole kind.uint8 t e = ap (λ u. u ∷ []) (same_Some _ t e)
value_fields-whole kind.uint16 t e = ap (λ u. u ∷ []) (same_Some _ t e)
value_fields-whole kind.uint32 t e = ap (λ u. u ∷ []) (same_Some _ t e)
value_fields-whole kind.uint64 t e = ap (λ u. u ∷ []) (same_Some _ t e)
value_fields-whole _ t e = absurd (none-some t e)

-- a cell of a whole-number type that is read
whole_read-cell : (k : DataKind) (t : WholeType) (d : Data) (c : Cell) → value_fields k ≡ t ∷ []
    → whole_read t d ≡ Some c → is_cell_of k c ≡ true
whole_read-cell k t json.null c fields e = rw (← same_Some _ c e) refl
whole_read-cell k t (json.boolean b) c fields e = absurd (none-some c e)
whole_read-cell k t (json.number n) c fields e =
    let p = whole-some _ c e in
    let q = bind_some (checked_number t) (as_integer n) p.0 p.1 in
    rw (← p.2, fields) (checked-some t q.0 p.0 q.2)
whole_read-cell k t (json.string text) c fields e =
    let p = whole-some _ c e in
    let q = cond_some (is_sign_had t text && is_digits (without_leading_sign text)
    && is_fitting t (signed_digits_value 10 text)) _ p.0 p.1 in
    let fits = (and_parts (is_sign_had t text && is_digits (without_leading_sign text))
    (is_fitting t (signed_digits_value 10 text)) q.0).1 in
    rw (← p.2, fields, ← q.1) fits
whole_read-cell k t (json.array items) c fields e = absurd (none-some c e)
whole_read-cell k t (json.object ms) c fields e = absurd (none-some c e)

-- a cell of a type that is read
cell_read-cell : (t : DataKind) (d : Data) (c : Cell) → cell_read t d ≡ Some c
    → is_cell_of t c ≡ true
cell_read-cell t d c e =
    let numbers = bind_some _ (whole_type_of t) c e in
    whole_read-cell t numbers.0 d c (value_fields-whole t numbers.0 numbers.1) numbers.2

-- a column that is read
column_read-typed : (d : Data) (c : Column) → column_read d ≡ Some c → is_typed_column c ≡ true
column_read-typed d c e =
    let t = bind_some _ (type_read d) c e in
    let items = bind_some _ (get (codes "values") d >>= as_array) c t.2 in
    let cells = bind_some _ (each (cell_read t.0) items.0) c items.2 in
    let all =
    each-all (cell_read t.0) (is_cell_of t.0) (cell_read-cell t.0) items.0 cells.0 cells.1 in
    rw (← same_Some _ c cells.2) all

-- the table of a document that is read
document_read-typed : (d : Data) (v : DocumentView) → document_read d ≡ Some v
    → list_all is_typed_column v.table ≡ true
document_read-typed d v e =
    let column_items = bind_some _ (get (codes "columns") d >>= as_array) v e in
    let tree_items = bind_some _ (get (codes "trees") d >>= as_array) v column_items.2 in
    let columns = bind_some _ (each column_read column_items.0) v tree_items.2 in
    let trees = bind_some _ (each tree_read tree_items.0) v columns.2 in
    let made = cond_some _ _ v trees.2 in
    rw (← made.1)
    (each-all column_read is_typed_column column_read-typed column_items.0 columns.0 columns.1)

-- the table of a document of some bytes
pub document_of-typed : (bytes : List ℕ) (v : DocumentView) → document_of bytes ≡ Some v
    → list_all is_typed_column v.table ≡ true
document_of-typed bytes v e = of_test _ refl where
  of_test : (b : Bool) → is_utf8 bytes ≡ b → list_all is_typed_column v.table ≡ true
  of_test true h =
      let d = bind_some document_read (read bytes) v (rw h at e) in document_read-typed d.0 v d.2
  of_test false h = absurd (none-some v (rw h at e))
