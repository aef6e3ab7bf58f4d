use Rattle.std.proofs.Common.{◌∙◌, refl, rules}
use Rattle.col_model.specs.Cell.{whole}
use Rattle.col_model.specs.WholeStep.{checked, whole_step}
use Rattle.col_types.specs.DataKind.{kind_of}
use Rattle.col_flat.specs.Parts.{column_of}
use Rattle.col_arity.proofs.KernelLemmas.{options, scalar-unary, total_one, whole_values}
use Rattle.col_basic.proofs.kernels.checked_one.Goals as goal

pub returns : goal.returns
returns g c =
    let v = whole_values g.T.NativeType g.T.NativeWhole g.met.T.NativeWhole.value_law in
    let step = whole_step g.O.Operator.operation checked g.T.NativeWhole.whole_type in
    let cell = whole (g.T.NativeWhole.value c.args.rhs.now) in
    record {
      answer =
          rw (scalar-unary step (column_of c.args.lhs.now) cell)
          (total_one v (options v) (λ a. step a cell) c.args.lhs.now
          (kind_of c.in_ok-data_type.data_type) c.unary_checked.result _ refl
          (c.in_ok-data_type.ensures.value ∙ c.data_type.ensures.value)
          c.unary_checked.ensures.answer c.unary_checked.ensures.refused
          (λ p r h. search rules));
    }
