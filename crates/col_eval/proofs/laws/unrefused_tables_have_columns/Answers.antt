use Rattle.std.proofs.Common.{Result, Ok, Err, IsOk, refl}
use Rattle.col_types.specs.Answer.{Answers, FailsByMemory}
use Rattle.col_types.specs.Column.{Column}
use Rattle.col_types.specs.declared.error.Error.{Error}
use Rattle.col_types.specs.declared.error.Error.TheVariants.{Memory}
use Rattle.col_array.specs.Any.{any_column}
use Rattle.col_array.specs.declared.any.AnyArray.{AnyArray}
use Rattle.col_eval.specs.Meaning.{outcome_of}
use Rattle.col_eval.specs.Tree.{tree_of}
use Rattle.col_eval.proofs.RowLemmas.{unrefused_column}
use Rattle.col_eval.proofs.laws.unrefused_tables_have_columns.Goals as goal

-- what has a column fails by want of memory alone
fails_by_memory : (r : Result AnyArray Error) (wanted : Result Column Error) → IsOk wanted
    → Answers any_column r wanted → FailsByMemory r
fails_by_memory (Ok array) wanted h g = tt
fails_by_memory (Err Memory) wanted h g = refl
fails_by_memory (Err e) wanted h g = let refused = rw g at h in absurd cc

pub returns : goal.returns
returns c = λ h. fails_by_memory _ (outcome_of (tree_of c.args.tree.now) c.args.table.now)
    (unrefused_column (tree_of c.args.tree.now) c.args.table.now h.typed h.passes)
    c.evaluate.ensures.answer
