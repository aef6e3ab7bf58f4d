use Rattle.std.proofs.Common.{rules}
use Rattle.col_model.specs.WholeStep.{whole_step}
use Rattle.col_arity.proofs.KernelLemmas.{placed_two, whole_values}
use Rattle.col_basic.proofs.StepLemmas.{whole_strict}
use Rattle.col_basic.proofs.kernels.total_two.Goals as goal

pub returns : goal.returns
returns g c =
    let operation = g.O.Operator.operation in
    let t = g.T.NativeWhole.whole_type in
    let made = c.in_ok-binary.ensures in
    record {
      answer =
          placed_two (whole_values g.T.NativeType g.T.NativeWhole g.met.T.NativeWhole.value_law)
          (whole_step operation g.F.TotalForm.form t)
          c.args.lhs.now c.in_ok-answer.answer c.args.rhs.now
          c.binary.new.lhs _ c.in_ok-binary.field-0 (whole_strict operation g.F.TotalForm.form t)
          c.in_ok-answer.ensures.value made.answer made.lengths (λ p r h. search rules);
    }
