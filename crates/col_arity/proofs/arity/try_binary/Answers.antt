use Rattle.std.proofs.Common.{Ok, map}
use Rattle.std.proofs.lemmas.Result.{IfOk-weaker}
use Rattle.col_types.specs.DataKind.{kind_of}
use Rattle.col_flat.specs.Parts.{pair_numbers, slot_pairs}
use Rattle.col_arity.specs.Rows.{AnswersWith, zero_numbers}
use Rattle.col_arity.proofs.BeneathLemmas.{IsMapped-beneath, IsMaskOf-made}
use Rattle.col_arity.proofs.arity.try_binary.Goals as goal

pub beneath-requires-clause-one_length : goal.beneath-requires-clause-one_length
beneath-requires-clause-one_length g c =
    IsMaskOf-made
    (AnswersWith (pair_numbers g.T.NativeType.numbers g.D.NativeType.numbers)
    (λ p r. goal.F-post g c.args.op p.0 p.1 (Ok r)) (λ r. g.T.NativeType.numbers r))
    (zero_numbers g.T.NativeType.field_types)
    (slot_pairs c.args.lhs.now c.args.rhs.now) g.T.NativeType.numbers c.in_ok-values.values.items _
    c.in_ok-validity.ensures.value c.in_ok-values.ensures.answer

pub returns-clause-answer : goal.returns-clause-answer
returns-clause-answer g c =
    IfOk-weaker c.beneath.result _ _
    (λ array is. IsMapped-beneath (pair_numbers g.T.NativeType.numbers g.D.NativeType.numbers)
    (λ p r. goal.F-post g c.args.op p.0 p.1 (Ok r)) (λ r. g.T.NativeType.numbers r)
    (zero_numbers g.T.NativeType.field_types) (kind_of c.args.data_type)
    (slot_pairs c.args.lhs.now c.args.rhs.now)
    (map g.T.NativeType.numbers c.in_ok-values.values.items) _ array
    c.in_ok-validity.ensures.value
    c.in_ok-values.ensures.answer is)
    c.beneath.ensures.value
