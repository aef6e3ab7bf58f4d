use Rattle.std.proofs.Common.{rules, ◌==◌, ◌∙◌, sym}
use Rattle.std.proofs.lemmas.Iterator.{YieldsList-from_slice}
use Rattle.std.proofs.lemmas.Iterator.Search.{all_from_yields_List}
use Rattle.std.proofs.lemmas.List.Folds.{list_all-map}
use Rattle.col_types.specs.Column.{row_count}
use Rattle.col_array.specs.Any.{any_column}
use Rattle.col_eval.proofs.table.have_length.Goals as goal

pub returns : goal.returns
returns c =
    all_from_yields_List
    (λ array. row_count (any_column array) == c.args.rows) _ _ _ c.all.ensures.ran
    (YieldsList-from_slice c.args.columns.now cc) (λ x b q k. search rules)
    ∙ sym (list_all-map (λ column. row_count column == c.args.rows) any_column c.args.columns.now)
