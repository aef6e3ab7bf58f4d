use Rattle.std.proofs.Common.{false, map, sym, ◌∙◌}
use Rattle.std.proofs.lemmas.List.{length-map}
use Rattle.col_types.specs.DataKind.{kind_of}
use Rattle.col_flat.specs.Parts.{pair_numbers, slot_pairs}
use Rattle.col_arity.specs.Rows.{AnswersWith, zero_numbers}
use Rattle.col_arity.proofs.BeneathLemmas.{IsMappedWithFlags-beneath, IsMaskOf-made_flags}
use Rattle.col_arity.proofs.arity.binary_with_bitmap.Goals as goal

pub beneath-requires-clause-one_length : goal.beneath-requires-clause-one_length
beneath-requires-clause-one_length g c =
    IsMaskOf-made_flags
    (AnswersWith (pair_numbers g.T.NativeType.numbers g.D.NativeType.numbers)
    (λ p r. goal.F-post g c.args.op p.0 p.1 r) (λ r. (g.T.NativeType.numbers r.0, r.1)))
    (zero_numbers g.T.NativeType.field_types, false)
    (slot_pairs c.args.lhs.now c.args.rhs.now) g.T.NativeType.numbers c.in_ok-made.made.0.items
    c.in_ok-made.made.1.items _ c.in_ok-validity.ensures.value c.in_ok-made.ensures.one_length
    (rw c.pairs-rows.ensures at c.in_ok-made.ensures.answer)

pub returns-clause-answer : goal.returns-clause-answer
returns-clause-answer g c =
    IsMappedWithFlags-beneath (pair_numbers g.T.NativeType.numbers g.D.NativeType.numbers)
    (λ p r. goal.F-post g c.args.op p.0 p.1 r) (λ r. g.T.NativeType.numbers r.0) (λ r. r.1)
    (zero_numbers g.T.NativeType.field_types) (kind_of c.args.data_type)
    (slot_pairs c.args.lhs.now c.args.rhs.now)
    (map g.T.NativeType.numbers c.in_ok-made.made.0.items) c.in_ok-made.made.1.items _ _ _
    c.in_ok-validity.ensures.value
    (c.in_ok-made.ensures.one_length
    ∙ sym (length-map c.in_ok-made.made.0.items g.T.NativeType.numbers))
    (rw c.pairs-rows.ensures at c.in_ok-made.ensures.answer) c.in_ok-array.ensures.value
    (c.in_ok-flags.ensures.value ∙ c.as_slice.ensures.value)
