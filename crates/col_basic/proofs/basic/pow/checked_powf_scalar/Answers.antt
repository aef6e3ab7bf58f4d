use Rattle.std.proofs.Common.{◌∙◌, refl, rules}
use Rattle.col_types.specs.DataKind.{kind_of}
use Rattle.col_basic.specs.Power.{checked_power}
use Rattle.col_arity.proofs.KernelLemmas.{options, total_one, whole_values}
use Rattle.col_basic.proofs.basic.pow.checked_powf_scalar.Goals as goal

pub returns : goal.returns
returns g c =
    let v = whole_values g.T.NativeType g.T.NativeWhole g.met.T.NativeWhole.value_law in
    record {
      answer =
          total_one v (options v) (checked_power g.T.NativeWhole.whole_type c.args.exponent)
          c.args.array.now (kind_of c.in_ok-data_type.data_type) c.unary_checked.result _ refl
          (c.in_ok-data_type.ensures.value ∙ c.data_type.ensures.value)
          c.unary_checked.ensures.answer c.unary_checked.ensures.refused
          (λ p r h. search rules);
    }
