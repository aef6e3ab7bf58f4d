use Rattle.std.proofs.Common.{◌∙◌, sym}
use Rattle.col_model.specs.Cell.{whole}
use Rattle.col_flat.specs.Parts.{column_of}
use Rattle.col_eval.proofs.RuleLemmas.{scalar_step_answer-null, scalar_step_answer-whole}
use Rattle.col_eval.proofs.RuleLemmas.{slot_cell-none, slot_cell-number, whole_type_of-rule}
use Rattle.col_eval.proofs.dispatch.native_step_scalar.Goals as goal

pub returns-in-Some : goal.returns-in-Some
returns-in-Some g c =
    let lhs = column_of c.args.lhs.now in
    let t = c.args.rhs.now.data_type in
    let number = rw c.in-Some.is at c.value.ensures in
    let cell = slot_cell-number g.T.NativeType.numbers g.T.NativeWhole.value c.in-Some.number
    c.args.rhs.now.slot g.met.T.NativeWhole.value_law number in
    let stored = rw c.data_type-data_type.ensures.value at
    c.data_type-data_type.ensures.made.stored in
    let fields = sym g.met.T.NativeType.fields_law ∙ g.met.T.NativeWhole.whole_type_law in
    let known = whole_type_of-rule c.args.op lhs.data_type t _ _ c.requires stored fields in
    rw (
      cell,
      scalar_step_answer-whole c.args.op lhs t (whole (g.T.NativeWhole.value c.in-Some.number)) _
          c.requires known,
    ) c.kernel_scalar.ensures

pub returns-in-None : goal.returns-in-None
returns-in-None g c =
    let absent = rw c.in-None.is at c.value.ensures in
    let cell = slot_cell-none g.T.NativeType.numbers c.args.rhs.now.slot absent in
    rw (
      cell,
      scalar_step_answer-null c.args.op (column_of c.args.lhs.now) c.args.rhs.now.data_type
          c.requires,
    ) c.nulls_like.ensures
