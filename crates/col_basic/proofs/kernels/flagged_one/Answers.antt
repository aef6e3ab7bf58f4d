use Rattle.std.proofs.Common.{◌∙◌, refl, rules}
use Rattle.col_model.specs.Cell.{whole}
use Rattle.col_model.specs.WholeStep.{is_flagged, whole_step, wrapping}
use Rattle.col_types.specs.DataKind.{kind_of}
use Rattle.col_flat.specs.Parts.{column_of}
use Rattle.col_arity.proofs.KernelLemmas.{flagged_one, scalar-unary, whole_values}
use Rattle.col_basic.proofs.kernels.flagged_one.Goals as goal

pub returns : goal.returns
returns g c =
    let v = whole_values g.T.NativeType g.T.NativeWhole g.met.T.NativeWhole.value_law in
    let operation = g.O.Operator.operation in
    let t = g.T.NativeWhole.whole_type in
    let step = whole_step operation wrapping t in
    let cell = whole (g.T.NativeWhole.value c.args.rhs.now) in
    record {
      answer =
          rw (scalar-unary step (column_of c.args.lhs.now) cell)
          (flagged_one v (λ a. step a cell) (λ a. is_flagged operation t a cell) c.args.lhs.now
          (kind_of c.in_ok-data_type.data_type) c.unary_with_bitmap.result _ refl refl
          (c.in_ok-data_type.ensures.value ∙ c.data_type.ensures.value)
          c.unary_with_bitmap.ensures.answer c.unary_with_bitmap.ensures.refused
          (λ p r h. search rules) (λ p r h. search rules));
    }
