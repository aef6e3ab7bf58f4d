use Rattle.std.proofs.Common.{◌∙◌, sym}
use Rattle.col_array.specs.Any.{any_column}
use Rattle.col_eval.proofs.NegationLemmas.{negative_answer-refused}
use Rattle.col_eval.proofs.arithmetics.neg.Goals as goal

pub returns-then-not-can_neg : goal.returns-then-not-can_neg
returns-then-not-can_neg c =
    let told = rw c.data_type.ensures.value at c.can_neg.ensures.range in
    record {
      answer = negative_answer-refused (any_column c.args.array.now)
          (sym told ∙ c.if-not-can_neg.true);
    }
