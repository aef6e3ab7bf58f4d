use Rattle.std.proofs.Common.{◌∙◌, rules}
use Rattle.col_types.specs.DataKind.{kind_of}
use Rattle.col_arity.proofs.KernelLemmas.{try_two}
use Rattle.col_decimal.specs.DecimalStep.{decimal_step}
use Rattle.col_decimal.proofs.StepLemmas.{decimal_strict, stored_values}
use Rattle.col_decimal.proofs.kernels.refusing_rows.Goals as goal

pub returns : goal.returns
returns g c =
    let operation = g.O.DecimalOperator.operation in
    let form = g.F.RefusingForm.form in
    let bounds = c.args.bounds in
    record {
      answer =
          try_two stored_values (decimal_step operation form bounds.precision bounds.scale)
          c.args.lhs.now c.args.rhs.now
          (kind_of c.in_ok-data_type.data_type) c.try_binary.result _ _
          (decimal_strict operation form bounds.precision bounds.scale)
          (c.in_ok-data_type.ensures.value ∙ c.data_type.ensures.value)
          c.try_binary.ensures.answer c.try_binary.ensures.lengths c.try_binary.ensures.refused
          (λ p r h. search rules) (λ e p h. search rules);
    }
