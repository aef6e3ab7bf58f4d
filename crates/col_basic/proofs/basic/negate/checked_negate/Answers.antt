use Rattle.std.proofs.Common.{◌∙◌, refl, rules}
use Rattle.col_types.specs.DataKind.{kind_of}
use Rattle.col_basic.specs.Negative.{checked_negative}
use Rattle.col_arity.proofs.KernelLemmas.{native_values, options, total_one}
use Rattle.col_basic.proofs.basic.negate.checked_negate.Goals as goal

pub returns : goal.returns
returns g c =
    let v = native_values g.T.NativeType in
    record {
      answer =
          total_one v (options v) (checked_negative g.T.NativeType.field_types)
          c.args.array.now (kind_of c.in_ok-data_type.data_type) c.unary_checked.result _ refl
          (c.in_ok-data_type.ensures.value ∙ c.data_type.ensures.value)
          c.unary_checked.ensures.answer c.unary_checked.ensures.refused
          (λ p r h. search rules);
    }
