use Rattle.std.proofs.Common.{◌∙◌, refl, rules}
use Rattle.col_model.specs.Cell.{whole}
use Rattle.col_types.specs.DataKind.{kind_of}
use Rattle.col_flat.specs.Parts.{column_of}
use Rattle.col_arity.proofs.KernelLemmas.{scalar-unary, try_one}
use Rattle.col_decimal.specs.DecimalStep.{decimal_step, plain}
use Rattle.col_decimal.proofs.StepLemmas.{stored_values}
use Rattle.col_decimal.proofs.kernels.plain_beside.Goals as goal

pub returns : goal.returns
returns g c =
    let bounds = c.args.bounds in
    let step = decimal_step g.O.DecimalOperator.operation plain bounds.precision bounds.scale in
    let cell = whole c.args.rhs in
    record {
      answer =
          rw (scalar-unary step (column_of c.args.lhs.now) cell)
          (try_one stored_values (λ a. step a cell) c.args.lhs.now
          (kind_of c.in_ok-data_type.data_type) c.try_unary.result _ _ refl
          (c.in_ok-data_type.ensures.value ∙ c.data_type.ensures.value)
          c.try_unary.ensures.answer c.try_unary.ensures.refused
          (λ p r h. search rules) (λ e p h. search rules));
    }
