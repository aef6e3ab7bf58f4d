use Rattle.std.proofs.Common.{◌≡◌, rules}
use Rattle.std.proofs.lemmas.Result.{err_from_is_err_and}
use Rattle.col_types.proofs.AnswerLemmas.{UnlessMemory-weaker}
use Rattle.col_flat.specs.Parts.{column_of}
use Rattle.col_decimal.specs.Adaptive.{adaptive_scale, first_precision}
use Rattle.col_decimal.specs.Decimal.{scale_of}
use Rattle.col_decimal.proofs.AdaptiveLemmas.{IsPrecise, answer-made, answer-refused}
use Rattle.col_decimal.proofs.AdaptiveLemmas.{answer-settled}
use Rattle.col_decimal.proofs.adaptive.adaptive_two.Goals as goal

pub returns-in_err-array : goal.returns-in_err-array
returns-in_err-array g c =
    let operation = g.O.DecimalOperator.operation in
    let left = column_of c.args.lhs.now in
    let right = column_of c.args.rhs.now in
    let scales = c.in_ok-precision.scales in
    let scale : scales.left ≡ scale_of left.data_type = search rules in
    let other : scales.right ≡ scale_of right.data_type = search rules in
    let precise : IsPrecise operation left right = search rules in
    let answer = rw (scale, other) at c.in_err-array.ensures.answer in
    let p = err_from_is_err_and c.from_residual-in_err-array.result
    c.from_residual-in_err-array.ensures.1 in
    record {
      answer =
          rw (p.1, p.2)
          (UnlessMemory-weaker c.in_err-array.field-0.0
          (answer-refused operation left right c.in_err-array.field-0.0 precise) answer);
    }

pub with_digits-requires-clause-digits : goal.with_digits-requires-clause-digits
with_digits-requires-clause-digits g c =
    let operation = g.O.DecimalOperator.operation in
    let left = column_of c.args.lhs.now in
    let right = column_of c.args.rhs.now in
    let scales = c.in_ok-precision.scales in
    let scale : scales.left ≡ scale_of left.data_type = search rules in
    let other : scales.right ≡ scale_of right.data_type = search rules in
    let precise : IsPrecise operation left right = search rules in
    let answer = rw (scale, other) at c.in_ok-array.ensures.answer in
    (answer-made operation left right (column_of c.in_ok-array.array) precise answer).1

pub returns : goal.returns
returns g c =
    let operation = g.O.DecimalOperator.operation in
    let left = column_of c.args.lhs.now in
    let right = column_of c.args.rhs.now in
    let scales = c.in_ok-precision.scales in
    let scale : scales.left ≡ scale_of left.data_type = search rules in
    let other : scales.right ≡ scale_of right.data_type = search rules in
    let precise : IsPrecise operation left right = search rules in
    let answer = rw (scale, other) at c.in_ok-array.ensures.answer in
    let first : c.in_ok-precision.precision ≡ first_precision left.data_type right.data_type =
    search rules in
    let larger : scales.bounds.scale ≡ adaptive_scale left.data_type right.data_type =
    rw (← scale, ← other) scales.larger in
    record {
      answer =
          answer-settled operation left right c.in_ok-precision.precision scales.bounds.scale
          c.in_ok-array.array c.with_digits.result precise answer first larger
          c.with_digits.ensures.ok c.with_digits.ensures.value;
    }
