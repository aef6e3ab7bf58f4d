use Rattle.std.proofs.Common.{false, map, sym, ◌∙◌}
use Rattle.std.proofs.lemmas.List.{length-map}
use Rattle.col_types.specs.DataKind.{kind_of}
use Rattle.col_flat.specs.Parts.{slots_of}
use Rattle.col_arity.specs.Rows.{AnswersWith, zero_numbers}
use Rattle.col_arity.proofs.BeneathLemmas.{IsMappedWithFlags-beneath, IsMaskOf-made_flags}
use Rattle.col_arity.proofs.arity.unary_with_bitmap.Goals as goal

pub beneath-requires-clause-one_length : goal.beneath-requires-clause-one_length
beneath-requires-clause-one_length g c =
    IsMaskOf-made_flags
    (AnswersWith g.I.NativeType.numbers (λ x r. goal.F-post g c.args.op x r)
    (λ r. (g.O.NativeType.numbers r.0, r.1))) (zero_numbers g.O.NativeType.field_types, false)
    (slots_of c.args.array.now) g.O.NativeType.numbers c.in_ok-made.made.0.items
    c.in_ok-made.made.1.items _ c.in_ok-validity.ensures.value c.in_ok-made.ensures.one_length
    (rw c.iter.ensures at c.in_ok-made.ensures.answer)

pub returns-clause-answer : goal.returns-clause-answer
returns-clause-answer g c =
    IsMappedWithFlags-beneath g.I.NativeType.numbers (λ x r. goal.F-post g c.args.op x r)
    (λ r. g.O.NativeType.numbers r.0) (λ r. r.1) (zero_numbers g.O.NativeType.field_types)
    (kind_of c.args.data_type)
    (slots_of c.args.array.now)
    (map g.O.NativeType.numbers c.in_ok-made.made.0.items) c.in_ok-made.made.1.items _ _ _
    c.in_ok-validity.ensures.value
    (c.in_ok-made.ensures.one_length
    ∙ sym (length-map c.in_ok-made.made.0.items g.O.NativeType.numbers))
    (rw c.iter.ensures at c.in_ok-made.ensures.answer) c.in_ok-array.ensures.value
    (c.in_ok-flags.ensures.value ∙ c.as_slice.ensures.value)
