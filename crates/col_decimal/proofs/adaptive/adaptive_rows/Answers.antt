use Rattle.std.proofs.Common.{rules}
use Rattle.std.specs.Prelude.{max}
use Rattle.col_types.specs.DataKind.{decimal}
use Rattle.col_arity.proofs.KernelLemmas.{try_two}
use Rattle.col_decimal.specs.Adaptive.{adaptive_step}
use Rattle.col_decimal.proofs.AdaptiveLemmas.{adaptive_strict}
use Rattle.col_decimal.proofs.StepLemmas.{stored_values}
use Rattle.col_decimal.proofs.adaptive.adaptive_rows.Goals as goal

pub returns : goal.returns
returns g c =
    let operation = g.O.DecimalOperator.operation in
    let left = c.args.scales.left in
    let right = c.args.scales.right in
    record {
      answer =
          try_two stored_values (adaptive_step operation left right)
          (record c.args.lhs.now { data_type = decimal 38 (max left right) }) c.args.rhs.now
          (decimal 38 c.args.scales.bounds.scale) c.try_binary.result _ _
          (adaptive_strict operation left right) (search rules)
          c.try_binary.ensures.answer c.try_binary.ensures.lengths c.try_binary.ensures.refused
          (λ p r h. search rules) (λ e p h. search rules);
    }
