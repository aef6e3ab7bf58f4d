use Rattle.std.proofs.Common.{rules}
use Rattle.col_basic.specs.Bits.{on_numbers}
use Rattle.col_arity.proofs.KernelLemmas.{placed_two, whole_values}
use Rattle.col_basic.proofs.UnaryLemmas.{numbers_strict}
use Rattle.col_basic.proofs.bits.bitwise.Goals as goal

pub returns : goal.returns
returns g c =
    let v = whole_values g.T.NativeType g.T.NativeWhole g.met.T.NativeWhole.value_law in
    let combined = g.O.BitOperator.combined g.T.NativeWhole.whole_type in
    let made = c.in_ok-binary.ensures in
    record {
      answer =
          placed_two v (on_numbers combined) c.args.lhs.now c.in_ok-answer.answer c.args.rhs.now
          c.binary.new.lhs _ c.in_ok-binary.field-0 (numbers_strict combined)
          c.in_ok-answer.ensures.value made.answer made.lengths (λ p r h. search rules);
    }
