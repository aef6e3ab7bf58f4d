use Rattle.std.proofs.Common.{◌∙◌, rules}
use Rattle.col_model.specs.WholeStep.{is_flagged, whole_step, wrapping}
use Rattle.col_types.specs.DataKind.{kind_of}
use Rattle.col_arity.proofs.KernelLemmas.{flagged_two, whole_values}
use Rattle.col_basic.proofs.StepLemmas.{flag_strict, whole_strict}
use Rattle.col_basic.proofs.kernels.flagged_two.Goals as goal

pub returns : goal.returns
returns g c =
    let v = whole_values g.T.NativeType g.T.NativeWhole g.met.T.NativeWhole.value_law in
    let operation = g.O.Operator.operation in
    let t = g.T.NativeWhole.whole_type in
    record {
      answer =
          flagged_two v (whole_step operation wrapping t) (is_flagged operation t)
          c.args.lhs.now c.args.rhs.now
          (kind_of c.in_ok-data_type.data_type) c.binary_with_bitmap.result _
          (whole_strict operation wrapping t) (flag_strict operation t)
          (c.in_ok-data_type.ensures.value ∙ c.data_type.ensures.value)
          c.binary_with_bitmap.ensures.answer c.binary_with_bitmap.ensures.lengths
          c.binary_with_bitmap.ensures.refused
          (λ p r h. search rules) (λ p r h. search rules);
    }
