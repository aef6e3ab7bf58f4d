use Rattle.std.proofs.Common.{◌≡◌, map, length, [], unwrap_or, arith}
use Rattle.std.proofs.lemmas.List.{take_at}
use Rattle.col_flat.specs.Parts.{slots_of}
use Rattle.col_arity.specs.Rows.{zero_numbers}
use Rattle.col_arity.proofs.StoredLemmas.{IsMapped-stored, IsMaskOf-stored, shows_one}
use Rattle.col_arity.proofs.arity_assign.unary.Goals as goal

pub beneath-requires-clause-one_length : goal.beneath-requires-clause-one_length
beneath-requires-clause-one_length g c =
    let all : length c.put_each.new.values ≡ c.in_ok-values.values.len = omega arith in
    rw (take_at c.put_each.new.values _ _ all)
    (IsMaskOf-stored _ _ _ (slots_of c.args.array.now) g.I.NativeType.numbers
    c.put_each.new.values _ (shows_one c.args.array.now.values
    (unwrap_or c.args.array.now.validity [])) c.in_ok-validity.ensures.value
    (rw (c.as_mut_slice.ensures.value, c.in_ok-values.ensures.value) at c.put_each.ensures))

pub returns-clause-answer : goal.returns-clause-answer
returns-clause-answer g c =
    let all : length c.put_each.new.values ≡ c.in_ok-values.values.len = omega arith in
    IsMapped-stored g.I.NativeType.numbers (λ x r. goal.F-post g c.args.op x r)
    (λ r. g.I.NativeType.numbers r) (zero_numbers g.I.NativeType.field_types) _
    c.args.array.now.values (slots_of c.args.array.now)
    (map g.I.NativeType.numbers c.put_each.new.values) _ _ (shows_one c.args.array.now.values
    (unwrap_or c.args.array.now.validity [])) c.in_ok-validity.ensures.value
    (rw (c.as_mut_slice.ensures.value, c.in_ok-values.ensures.value) at c.put_each.ensures)
    (rw (
      take_at c.put_each.new.values _ _ all,
      c.in_ok-data_type.ensures.value,
      c.data_type.ensures.value,
    ) at c.in_ok-array.ensures.value)
