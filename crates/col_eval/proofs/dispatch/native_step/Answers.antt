use Rattle.std.proofs.Common.{◌∙◌, sym}
use Rattle.col_flat.specs.Parts.{column_of}
use Rattle.col_eval.proofs.RuleLemmas.{step_answer-whole, whole_type_of-rule}
use Rattle.col_eval.proofs.dispatch.native_step.Goals as goal

pub returns : goal.returns
returns g c =
    let lhs = column_of c.args.lhs.now in
    let rhs = column_of c.args.rhs.now in
    let stored = rw c.data_type-data_type.ensures.value at
    c.data_type-data_type.ensures.made.stored in
    let fields = sym g.met.T.NativeType.fields_law ∙ g.met.T.NativeWhole.whole_type_law in
    let whole = whole_type_of-rule c.args.op lhs.data_type rhs.data_type _ _ c.requires stored
    fields in
    rw (step_answer-whole c.args.op lhs rhs _ c.requires whole) c.kernel.ensures
