-- The document that a table and expressions make.
use Rattle.std.specs.Prelude.{List, map}
use Rattle.col_types.specs.Column.{Column}
use Rattle.col_eval.specs.Tree.{tree_of}
use Rattle.col_eval.specs.declared.expr.Expr.{Expr}
use Rattle.col_document.specs.Document.{DocumentView}

-- what a document is made of
pub record DocumentParts : Type 0 where
  pub table : List Column
  pub trees : List Expr

-- a document's table and trees
abbrev pub document_view : DocumentParts → DocumentView
document_view d = record { table = d.table; trees = map tree_of d.trees }
