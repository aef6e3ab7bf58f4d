use Rattle.col_flat.specs.Parts.{column_of}
use Rattle.col_eval.proofs.DecimalRuleLemmas.{step_answer-decimals}
use Rattle.col_eval.proofs.decimals.decimal_step.Goals as goal

pub returns : goal.returns
returns c =
    let fits = rw c.data_type-data_type.ensures.value at
    c.data_type-data_type.ensures.made.parameters in
    rw (step_answer-decimals c.args.op (column_of c.args.lhs.now) (column_of c.args.rhs.now)
    c.requires fits) c.kernel.ensures
