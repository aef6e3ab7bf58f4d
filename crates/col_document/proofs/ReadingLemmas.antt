-- What the parts of a document give for the whole.
use Rattle.std.proofs.Common.{◌≡◌, ℕ, suc, ◌^◌, Bool, true, false, cond, ◌&&◌, List, length}
use Rattle.std.proofs.Common.{Option, Some, None, Result, refl, sym, ap, ◌∙◌}
use Rattle.std.specs.Prelude.{codes, nat_lt, option_map, option_and_then, IsUtf8}
use Rattle.std.specs.Str.{is_utf8}
use Rattle.std.proofs.lemmas.Str.{IsUtf8-from_is_utf8, is_utf8-from_IsUtf8}
use Rattle.std.proofs.lemmas.Option.{same_Some}
use Rattle.serde_json.specs.Data.{Data, Items, no_items, item}
use Rattle.serde_json.specs.Find.{get, as_array}
use Rattle.serde_json.specs.Read.{read}
use Rattle.col_types.specs.Column.{Column, is_table}
use Rattle.col_types.specs.DataKind.{DataKind}
use Rattle.col_eval.specs.Tree.{Tree}
use Rattle.col_document.specs.declared.document.ReadError.{ReadError}
use Rattle.col_document.specs.declared.document.ReadError.TheVariants.{Memory, Malformed}
use Rattle.col_document.specs.Document.{DocumentView, column_read, document_of, document_read}
use Rattle.col_document.specs.Document.{cell_read, tree_read, type_read}
use Rattle.col_document.specs.Json.{◌>>=◌, each, item_count}
use Rattle.col_document.proofs.ListLemmas.{option_cons-some, option_map-tested}
use Rattle.col_document.specs.Reading.{IsUnread, Reads, column_with, only_table}

-- ---- answers

-- nothing is read under a function where nothing is read
pub none-mapped : {X Y : Type 0} (f : X → Y) (e : ReadError) (a : Option X) (b : Option Y)
    → b ≡ option_map f a → IsUnread e a → IsUnread e b
none-mapped f Memory a b same h = tt
none-mapped f Malformed a b same h = same ∙ ap (option_map f) h

-- nothing is read where that follows of `Malformed`
pub unread-where : {Y : Type 0} (e : ReadError) (wanted : Option Y)
    → (e ≡ Malformed → wanted ≡ None) → IsUnread e wanted
unread-where Memory wanted h = tt
unread-where Malformed wanted h = h refl

-- the same answer of what is read alike
pub Reads-same : {X Y : Type 0} (view : X → Y) (r : Result X ReadError) (a b : Option Y) → a ≡ b
    → Reads view r b → Reads view r a
Reads-same view r a b e h = rw e h

-- ---- columns and documents

-- what is read on is a function of what is there
read_on : {X Y : Type 0} (f : X → Y) (o : Option X) → (o >>= (λ x. Some (f x))) ≡ option_map f o
read_on f None = refl
read_on f (Some x) = refl

-- as many are read as there are items
pub length-each : {Y : Type 0} (f : Data → Option Y) (ds : Items) (ys : List Y)
    → each f ds ≡ Some ys → length ys ≡ item_count ds
length-each f no_items ys e = sym (ap length (same_Some _ _ e))
length-each f (item d ds) ys e =
    let p = option_cons-some (f d) (each f ds) ys e in
    sym (ap length p.4) ∙ ap suc (length-each f ds p.1 p.3)

-- a column whose type and list are read
pub column_read-list : (d : Data) (t : DataKind) (items : Items) → Some t ≡ type_read d
    → Some items ≡ option_and_then as_array (get (codes "values") d)
    → column_read d ≡ column_with t (each (cell_read t) items)
column_read-list d t items named listed = rw (← named, ← listed) (read_on _ _)

-- a document of columns and trees that are read
pub document_read-parts : (d : Data) (column_items tree_items : Items) (columns : List Column)
    (trees : List Tree) → Some column_items ≡ option_and_then as_array (get (codes "columns") d)
    → Some tree_items ≡ option_and_then as_array (get (codes "trees") d)
    → each column_read column_items ≡ Some columns → each tree_read tree_items ≡ Some trees
    → document_read d ≡ option_map (λ table. record { table = table; trees = trees })
    (only_table columns)
document_read-parts d column_items tree_items columns trees c t cs ts =
    rw (← c, ← t, cs, ts, length-each column_read column_items columns cs)
    (option_map-tested
    (λ (table : List Column). let v : DocumentView = record { table = table; trees = trees } in v)
    (nat_lt (item_count column_items) (2 ^ 32) && is_table columns) columns)

-- the bytes of a text
pub document_of-text : (bytes text : List ℕ) → IsUtf8 bytes → text ≡ bytes
    → document_of bytes ≡ option_and_then document_read (read text)
document_of-text bytes text utf8 same = rw (is_utf8-from_IsUtf8 bytes utf8, same) refl

-- bytes that are no text
no_text : (b : Bool) (o : Option DocumentView) → (b ≡ true → ⊥) → cond b o None ≡ None
no_text true o h = absurd (h refl)
no_text false o h = refl

pub document_of-unread : (bytes : List ℕ) → (IsUtf8 bytes → ⊥) → document_of bytes ≡ None
document_of-unread bytes h =
    no_text (is_utf8 bytes) (read bytes >>= document_read)
    (λ e. h (IsUtf8-from_is_utf8 bytes e))
