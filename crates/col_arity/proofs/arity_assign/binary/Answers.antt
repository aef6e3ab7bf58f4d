use Rattle.std.proofs.Common.{◌≡◌, ap, ◌∙◌, map, length, arith, rules}
use Rattle.std.specs.List.{zip}
use Rattle.std.proofs.lemmas.List.{take_at}
use Rattle.col_flat.specs.Parts.{pair_numbers, slot_pairs}
use Rattle.col_arity.specs.Rows.{zero_numbers}
use Rattle.col_arity.proofs.StoredLemmas.{IsMapped-stored, IsMaskOf-stored, shows_pairs}
use Rattle.col_arity.proofs.StoredLemmas.{stored_length}
use Rattle.col_arity.proofs.arity_assign.binary.Goals as goal

pub put_pairs-requires-clause-one_length : goal.put_pairs-requires-clause-one_length
put_pairs-requires-clause-one_length g c =
    stored_length g.T.NativeType.numbers g.D.NativeType.numbers _ _ c.args.lhs.now c.args.rhs.now
    (ap (map g.T.NativeType.numbers) c.as_mut_slice.ensures.value ∙ c.in_ok-values.ensures.value)
    (ap (map g.D.NativeType.numbers) c.as_slice.ensures ∙ c.values.ensures)
    (c.in_ok-check_lengths.ensures.range.0 (search rules))

pub beneath-requires-clause-one_length : goal.beneath-requires-clause-one_length
beneath-requires-clause-one_length g c =
    let all : length c.put_pairs.new.values ≡ c.in_ok-values.values.len = omega arith in
    rw (take_at c.put_pairs.new.values _ _ all)
    (IsMaskOf-stored _ _ (zip c.args.lhs.now.values c.args.rhs.now.values)
    (slot_pairs c.args.lhs.now c.args.rhs.now) g.T.NativeType.numbers
    c.put_pairs.new.values _ (shows_pairs c.args.lhs.now c.args.rhs.now)
    c.in_ok-validity.ensures.value
    (rw (
      c.as_mut_slice.ensures.value,
      c.in_ok-values.ensures.value,
      c.as_slice.ensures,
      c.values.ensures,
    ) at c.put_pairs.ensures))

pub returns-clause-answer : goal.returns-clause-answer
returns-clause-answer g c =
    let all : length c.put_pairs.new.values ≡ c.in_ok-values.values.len = omega arith in
    IsMapped-stored (pair_numbers g.T.NativeType.numbers g.D.NativeType.numbers)
    (λ p r. goal.F-post g c.args.op p.0 p.1 r) (λ r. g.T.NativeType.numbers r)
    (zero_numbers g.T.NativeType.field_types) _
    (zip c.args.lhs.now.values c.args.rhs.now.values)
    (slot_pairs c.args.lhs.now c.args.rhs.now)
    (map g.T.NativeType.numbers c.put_pairs.new.values) _ _
    (shows_pairs c.args.lhs.now c.args.rhs.now) c.in_ok-validity.ensures.value
    (rw (
      c.as_mut_slice.ensures.value,
      c.in_ok-values.ensures.value,
      c.as_slice.ensures,
      c.values.ensures,
    ) at c.put_pairs.ensures)
    (rw (
      take_at c.put_pairs.new.values _ _ all,
      c.in_ok-data_type.ensures.value,
      c.data_type.ensures.value,
    ) at c.in_ok-lhs.ensures.value)
