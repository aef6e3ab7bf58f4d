use Rattle.std.proofs.Common.{refl, rules}
use Rattle.col_basic.specs.Negative.{wrapping_negative}
use Rattle.col_arity.proofs.KernelLemmas.{native_values, placed_one}
use Rattle.col_basic.proofs.basic.negate.wrapping_negate.Goals as goal

pub returns : goal.returns
returns g c =
    record {
      answer =
          placed_one (native_values g.T.NativeType) (wrapping_negative g.T.NativeType.field_types)
          c.args.array.now c.in_ok-answer.answer c.unary.new.array _ refl
          c.in_ok-answer.ensures.value c.in_ok-unary.ensures.answer (λ p r h. search rules);
    }
