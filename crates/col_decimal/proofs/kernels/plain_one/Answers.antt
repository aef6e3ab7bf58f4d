use Rattle.std.proofs.Common.{◌≡◌, rules, true}
use Rattle.col_flat.specs.Parts.{column_of}
use Rattle.col_decimal.specs.Decimal.{has_parameters_of, precision_of, scale_of}
use Rattle.col_decimal.specs.DecimalStep.{decimal_step, plain}
use Rattle.col_decimal.proofs.StepLemmas.{decimal_strict, scalar-null}
use Rattle.col_decimal.proofs.kernels.plain_one.Goals as goal

pub returns-in-None : goal.returns-in-None
returns-in-None g c =
    let operation = g.O.DecimalOperator.operation in
    let left = column_of c.args.lhs.now in
    let precision = precision_of left.data_type in
    let scale = scale_of left.data_type in
    let slot = rw c.in-None.is at c.value.ensures in
    let told : has_parameters_of left.data_type c.args.rhs.now.data_type ≡ true = search rules in
    record {
      answer =
          rw (
            ← slot,
            told,
            scalar-null (decimal_step operation plain precision scale)
                (decimal_strict operation plain precision scale) left,
          ) c.nulls_like.ensures;
    }
