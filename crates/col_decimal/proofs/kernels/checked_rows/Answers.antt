use Rattle.std.proofs.Common.{◌∙◌, rules}
use Rattle.col_types.specs.DataKind.{kind_of}
use Rattle.col_arity.proofs.KernelLemmas.{options, total_two}
use Rattle.col_decimal.specs.DecimalStep.{checked, decimal_step}
use Rattle.col_decimal.proofs.StepLemmas.{decimal_strict, stored_values}
use Rattle.col_decimal.proofs.kernels.checked_rows.Goals as goal

pub returns : goal.returns
returns g c =
    let operation = g.O.DecimalOperator.operation in
    let bounds = c.args.bounds in
    record {
      answer =
          total_two stored_values (options stored_values)
          (decimal_step operation checked bounds.precision bounds.scale)
          c.args.lhs.now c.args.rhs.now
          (kind_of c.in_ok-data_type.data_type) c.binary_checked.result _
          (decimal_strict operation checked bounds.precision bounds.scale)
          (c.in_ok-data_type.ensures.value ∙ c.data_type.ensures.value)
          c.binary_checked.ensures.answer c.binary_checked.ensures.lengths
          c.binary_checked.ensures.refused
          (λ p r h. search rules);
    }
