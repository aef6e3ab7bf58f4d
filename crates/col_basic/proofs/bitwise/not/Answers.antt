use Rattle.std.proofs.Common.{refl, rules}
use Rattle.col_basic.specs.Bits.{not_step}
use Rattle.col_arity.proofs.KernelLemmas.{placed_one, whole_values}
use Rattle.col_basic.proofs.bitwise.not.Goals as goal

pub returns : goal.returns
returns g c =
    let v = whole_values g.T.NativeType g.T.NativeWhole g.met.T.NativeWhole.value_law in
    record {
      answer =
          placed_one v (not_step g.T.NativeWhole.whole_type)
          c.args.array.now c.in_ok-answer.answer c.unary.new.array _ refl
          c.in_ok-answer.ensures.value c.in_ok-unary.ensures.answer (λ p r h. search rules);
    }
