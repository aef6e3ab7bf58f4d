use Rattle.std.proofs.Common.{refl, rules}
use Rattle.col_model.specs.Cell.{whole}
use Rattle.col_flat.specs.Parts.{column_of}
use Rattle.col_basic.specs.Bits.{on_numbers}
use Rattle.col_arity.proofs.KernelLemmas.{placed_one, scalar-unary, whole_values}
use Rattle.col_basic.proofs.bits.bitwise_scalar.Goals as goal

pub returns : goal.returns
returns g c =
    let v = whole_values g.T.NativeType g.T.NativeWhole g.met.T.NativeWhole.value_law in
    let step = on_numbers (g.O.BitOperator.combined g.T.NativeWhole.whole_type) in
    let cell = whole (g.T.NativeWhole.value c.args.rhs.now) in
    record {
      answer =
          rw (scalar-unary step (column_of c.args.lhs.now) cell)
          (placed_one v (λ a. step a cell)
          c.args.lhs.now c.in_ok-answer.answer c.unary.new.array _ refl
          c.in_ok-answer.ensures.value c.in_ok-unary.ensures.answer (λ p r h. search rules));
    }
