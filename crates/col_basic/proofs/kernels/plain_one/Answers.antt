use Rattle.std.proofs.Common.{◌∙◌, refl, rules}
use Rattle.col_model.specs.Cell.{whole}
use Rattle.col_model.specs.WholeStep.{plain, whole_step}
use Rattle.col_types.specs.DataKind.{kind_of}
use Rattle.col_flat.specs.Parts.{column_of}
use Rattle.col_arity.proofs.KernelLemmas.{scalar-unary, try_one, whole_values}
use Rattle.col_basic.proofs.kernels.plain_one.Goals as goal

pub returns : goal.returns
returns g c =
    let v = whole_values g.T.NativeType g.T.NativeWhole g.met.T.NativeWhole.value_law in
    let step = whole_step g.O.Operator.operation plain g.T.NativeWhole.whole_type in
    let cell = whole (g.T.NativeWhole.value c.args.rhs.now) in
    record {
      answer =
          rw (scalar-unary step (column_of c.args.lhs.now) cell)
          (try_one v (λ a. step a cell) c.args.lhs.now
          (kind_of c.in_ok-data_type.data_type) c.try_unary.result _ _ refl
          (c.in_ok-data_type.ensures.value ∙ c.data_type.ensures.value)
          c.try_unary.ensures.answer c.try_unary.ensures.refused
          (λ p r h. search rules) (λ e p h. search rules));
    }
