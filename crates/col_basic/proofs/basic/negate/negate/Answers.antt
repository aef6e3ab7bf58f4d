use Rattle.std.proofs.Common.{◌∙◌, refl, rules}
use Rattle.col_types.specs.DataKind.{kind_of}
use Rattle.col_basic.specs.Negative.{plain_negative}
use Rattle.col_arity.proofs.KernelLemmas.{native_values, try_one}
use Rattle.col_basic.proofs.basic.negate.negate.Goals as goal

pub returns : goal.returns
returns g c =
    record {
      answer =
          try_one (native_values g.T.NativeType) (plain_negative g.T.NativeType.field_types)
          c.args.array.now (kind_of c.in_ok-data_type.data_type) c.try_unary.result _ _ refl
          (c.in_ok-data_type.ensures.value ∙ c.data_type.ensures.value)
          c.try_unary.ensures.answer c.try_unary.ensures.refused
          (λ p r h. search rules) (λ e p h. search rules);
    }
