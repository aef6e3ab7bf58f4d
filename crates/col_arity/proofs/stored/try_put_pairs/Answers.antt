use Rattle.std.proofs.Common.{length, ◌<◌, ◌≤◌, arith}
use Rattle.std.proofs.lemmas.Result.{err_from_is_err_and}
use Rattle.col_flat.specs.Parts.{pair_numbers}
use Rattle.col_arity.proofs.RowLemmas.{MapsSoFar-value, RefusesSoFar-end, RefusesSoFar-value}
use Rattle.col_arity.proofs.RowLemmas.{callable_first, callable_rest}
use Rattle.col_arity.proofs.StoredLemmas.{stored-end, stored-more}
use Rattle.col_arity.proofs.StoredLemmas.{stored_pairs_from-end, stored_pairs_from-next}
use Rattle.col_arity.proofs.stored.try_put_pairs.Goals as goal

pub op-requires : goal.op-requires
op-requires g c =
    callable_first (pair_numbers g.T.NativeType.numbers g.D.NativeType.numbers)
    (λ p. goal.F-pre g c.args.op p.0 p.1) (c.index-values-i.result, c.index-others-i.result)
    c.loop-i.invariant.callable
    (stored_pairs_from-next g.T.NativeType.numbers g.D.NativeType.numbers c.loop-i.values
    c.args.others.now c.loop-i.i c.index-values-i.result c.index-values-i.result _ (omega arith)
    (omega arith) c.index-values-i.is c.index-others-i.is)

pub loop-i-preserved : goal.loop-i-preserved
loop-i-preserved g c =
    let within : c.loop-i.i < length c.loop-i.values = omega arith in
    let is = stored_pairs_from-next g.T.NativeType.numbers g.D.NativeType.numbers c.loop-i.values
    c.args.others.now c.loop-i.i c.index-values-i.result c.in_ok-values.field-0
    c.index-others-i.result within
    (omega arith) c.index-values-i.is c.index-others-i.is in
    record {
      callable = callable_rest _ _ c.loop-i.invariant.callable is;
      rows = MapsSoFar-value (c.index-values-i.result, c.index-others-i.result)
          c.in_ok-values.field-0
          c.loop-i.invariant.rows is c.in_ok-values.ensures
          (stored-more g.T.NativeType.numbers c.loop-i.values c.loop-i.i
          c.in_ok-values.field-0 within);
      refusals = RefusesSoFar-value (c.index-values-i.result, c.index-others-i.result)
          c.in_ok-values.field-0 c.loop-i.invariant.refusals is c.in_ok-values.ensures;
    }

pub returns-clause-answer : goal.returns-clause-answer
returns-clause-answer g c =
    let behind : length c.loop-i.values ≤ c.loop-i.i = omega arith in
    stored-end g.T.NativeType.numbers c.loop-i.values c.loop-i.i c.loop-i.invariant.rows behind
    (stored_pairs_from-end g.T.NativeType.numbers g.D.NativeType.numbers c.loop-i.values
    c.args.others.now c.loop-i.i behind)

pub returns-in_err-values-clause-refused : goal.returns-in_err-values-clause-refused
returns-in_err-values-clause-refused g c =
    let p = err_from_is_err_and c.from_residual.result c.from_residual.ensures.1 in
    let is = stored_pairs_from-next g.T.NativeType.numbers g.D.NativeType.numbers c.loop-i.values
    c.args.others.now c.loop-i.i c.index-values-i.result c.index-values-i.result
    c.index-others-i.result (omega arith) (omega arith) c.index-values-i.is c.index-others-i.is in
    rw (p.1, p.2) (RefusesSoFar-end (c.index-values-i.result, c.index-others-i.result)
    c.in_err-values.field-0.0 c.loop-i.invariant.refusals is c.in_err-values.ensures)
