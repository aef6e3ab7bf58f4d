use Rattle.std.proofs.Common.{◌≡◌, ap, ◌∙◌, map, length, arith}
use Rattle.std.proofs.lemmas.List.{take_at}
use Rattle.std.proofs.lemmas.Result.{err_from_is_err_and}
use Rattle.col_flat.specs.Parts.{pair_numbers}
use Rattle.col_arity.proofs.StoredLemmas.{callable_each, stored_length, stored_rows}
use Rattle.col_arity.proofs.arity.stored_answers.Goals as goal

pub try_put_pairs-requires-clause-one_length : goal.try_put_pairs-requires-clause-one_length
try_put_pairs-requires-clause-one_length g c =
    stored_length g.T.NativeType.numbers g.D.NativeType.numbers _ _ c.args.lhs.now c.args.rhs.now
    (ap (map g.T.NativeType.numbers) c.as_mut_slice.ensures.value ∙ c.in_ok-values.ensures.value)
    (ap (map g.D.NativeType.numbers) c.as_slice.ensures ∙ c.values.ensures) c.requires.one_length

pub try_put_pairs-requires-clause-callable : goal.try_put_pairs-requires-clause-callable
try_put_pairs-requires-clause-callable g c =
    let left = ap (map g.T.NativeType.numbers) c.as_mut_slice.ensures.value
    ∙ c.in_ok-values.ensures.value in
    let right = ap (map g.D.NativeType.numbers) c.as_slice.ensures ∙ c.values.ensures in
    callable_each (pair_numbers g.T.NativeType.numbers g.D.NativeType.numbers) _ _
    (rw (stored_rows g.T.NativeType.numbers g.D.NativeType.numbers _ _ c.args.lhs.now
    c.args.rhs.now left right c.requires.all_valid) at c.requires.callable)

pub returns-in_err-try_put_pairs-clause-refused
    : goal.returns-in_err-try_put_pairs-clause-refused
returns-in_err-try_put_pairs-clause-refused g c =
    let p = err_from_is_err_and c.from_residual-in_err-try_put_pairs.result
    c.from_residual-in_err-try_put_pairs.ensures.1 in
    let left = ap (map g.T.NativeType.numbers) c.as_mut_slice.ensures.value
    ∙ c.in_ok-values.ensures.value in
    let right = ap (map g.D.NativeType.numbers) c.as_slice.ensures ∙ c.values.ensures in
    rw (
      p.1,
      p.2,
      stored_rows g.T.NativeType.numbers g.D.NativeType.numbers _ _ c.args.lhs.now
          c.args.rhs.now left right c.requires.all_valid,
    ) c.in_err-try_put_pairs.ensures.refused

pub returns-clause-answer : goal.returns-clause-answer
returns-clause-answer g c =
    let left = ap (map g.T.NativeType.numbers) c.as_mut_slice.ensures.value
    ∙ c.in_ok-values.ensures.value in
    let right = ap (map g.D.NativeType.numbers) c.as_slice.ensures ∙ c.values.ensures in
    let all : length c.try_put_pairs.new.values ≡ c.in_ok-values.values.len = omega arith in
    rw (
      stored_rows g.T.NativeType.numbers g.D.NativeType.numbers _ _ c.args.lhs.now
          c.args.rhs.now left right c.requires.all_valid,
      take_at c.try_put_pairs.new.values _ _ all,
    )
    c.in_ok-try_put_pairs.ensures.answer
