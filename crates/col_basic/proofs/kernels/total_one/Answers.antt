use Rattle.std.proofs.Common.{refl, rules}
use Rattle.col_model.specs.Cell.{whole}
use Rattle.col_model.specs.WholeStep.{whole_step}
use Rattle.col_flat.specs.Parts.{column_of}
use Rattle.col_arity.proofs.KernelLemmas.{placed_one, scalar-unary, whole_values}
use Rattle.col_basic.proofs.kernels.total_one.Goals as goal

pub returns : goal.returns
returns g c =
    let step = whole_step g.O.Operator.operation g.F.TotalForm.form g.T.NativeWhole.whole_type in
    let cell = whole (g.T.NativeWhole.value c.args.rhs.now) in
    record {
      answer =
          rw (scalar-unary step (column_of c.args.lhs.now) cell)
          (placed_one (whole_values g.T.NativeType g.T.NativeWhole g.met.T.NativeWhole.value_law)
          (λ a. step a cell) c.args.lhs.now c.in_ok-answer.answer c.unary.new.array _ refl
          c.in_ok-answer.ensures.value c.in_ok-unary.ensures.answer (λ p r h. search rules));
    }
