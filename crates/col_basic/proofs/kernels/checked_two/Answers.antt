use Rattle.std.proofs.Common.{◌∙◌, rules}
use Rattle.col_model.specs.WholeStep.{checked, whole_step}
use Rattle.col_types.specs.DataKind.{kind_of}
use Rattle.col_arity.proofs.KernelLemmas.{options, total_two, whole_values}
use Rattle.col_basic.proofs.StepLemmas.{whole_strict}
use Rattle.col_basic.proofs.kernels.checked_two.Goals as goal

pub returns : goal.returns
returns g c =
    let v = whole_values g.T.NativeType g.T.NativeWhole g.met.T.NativeWhole.value_law in
    let step = whole_step g.O.Operator.operation checked g.T.NativeWhole.whole_type in
    record {
      answer =
          total_two v (options v) step c.args.lhs.now c.args.rhs.now
          (kind_of c.in_ok-data_type.data_type) c.binary_checked.result _
          (whole_strict g.O.Operator.operation checked g.T.NativeWhole.whole_type)
          (c.in_ok-data_type.ensures.value ∙ c.data_type.ensures.value)
          c.binary_checked.ensures.answer c.binary_checked.ensures.lengths
          c.binary_checked.ensures.refused
          (λ p r h. search rules);
    }
