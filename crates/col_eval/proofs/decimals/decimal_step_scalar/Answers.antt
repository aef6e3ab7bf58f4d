use Rattle.col_flat.specs.Parts.{column_of, slot_cell}
use Rattle.col_eval.proofs.DecimalRuleLemmas.{scalar_step_answer-decimals}
use Rattle.col_eval.proofs.decimals.decimal_step_scalar.Goals as goal

pub returns : goal.returns
returns c =
    let fits = rw c.data_type-data_type.ensures.value at
    c.data_type-data_type.ensures.made.parameters in
    rw (scalar_step_answer-decimals c.args.op (column_of c.args.lhs.now)
    c.args.rhs.now.data_type (slot_cell c.args.rhs.now.slot) c.requires fits)
    c.kernel_scalar.ensures
