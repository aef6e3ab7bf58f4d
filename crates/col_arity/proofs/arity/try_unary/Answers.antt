use Rattle.std.proofs.Common.{Ok, map}
use Rattle.std.proofs.lemmas.Result.{IfOk-weaker}
use Rattle.col_types.specs.DataKind.{kind_of}
use Rattle.col_flat.specs.Parts.{slots_of}
use Rattle.col_arity.specs.Rows.{AnswersWith, zero_numbers}
use Rattle.col_arity.proofs.BeneathLemmas.{IsMapped-beneath, IsMaskOf-made}
use Rattle.col_arity.proofs.arity.try_unary.Goals as goal

pub beneath-requires-clause-one_length : goal.beneath-requires-clause-one_length
beneath-requires-clause-one_length g c =
    IsMaskOf-made
    (AnswersWith g.I.NativeType.numbers (λ x r. goal.F-post g c.args.op x (Ok r))
    (λ r. g.O.NativeType.numbers r)) (zero_numbers g.O.NativeType.field_types)
    (slots_of c.args.array.now) g.O.NativeType.numbers c.in_ok-values.values.items _
    c.in_ok-validity.ensures.value (rw c.iter.ensures at c.in_ok-values.ensures.answer)

pub returns-clause-answer : goal.returns-clause-answer
returns-clause-answer g c =
    IfOk-weaker c.beneath.result _ _
    (λ array is. IsMapped-beneath g.I.NativeType.numbers (λ x r. goal.F-post g c.args.op x (Ok r))
    (λ r. g.O.NativeType.numbers r) (zero_numbers g.O.NativeType.field_types)
    (kind_of c.args.data_type)
    (slots_of c.args.array.now)
    (map g.O.NativeType.numbers c.in_ok-values.values.items) _ array
    c.in_ok-validity.ensures.value (rw c.iter.ensures at c.in_ok-values.ensures.answer) is)
    c.beneath.ensures.value
