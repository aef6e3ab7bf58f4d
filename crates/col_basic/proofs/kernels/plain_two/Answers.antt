use Rattle.std.proofs.Common.{◌∙◌, rules}
use Rattle.col_model.specs.WholeStep.{plain, whole_step}
use Rattle.col_types.specs.DataKind.{kind_of}
use Rattle.col_arity.proofs.KernelLemmas.{try_two, whole_values}
use Rattle.col_basic.proofs.StepLemmas.{whole_strict}
use Rattle.col_basic.proofs.kernels.plain_two.Goals as goal

pub returns : goal.returns
returns g c =
    let v = whole_values g.T.NativeType g.T.NativeWhole g.met.T.NativeWhole.value_law in
    let step = whole_step g.O.Operator.operation plain g.T.NativeWhole.whole_type in
    record {
      answer =
          try_two v step c.args.lhs.now c.args.rhs.now
          (kind_of c.in_ok-data_type.data_type) c.try_binary.result _ _
          (whole_strict g.O.Operator.operation plain g.T.NativeWhole.whole_type)
          (c.in_ok-data_type.ensures.value ∙ c.data_type.ensures.value)
          c.try_binary.ensures.answer c.try_binary.ensures.lengths c.try_binary.ensures.refused
          (λ p r h. search rules) (λ e p h. search rules);
    }
