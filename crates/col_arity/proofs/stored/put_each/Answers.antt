use Rattle.std.proofs.Common.{length, ◌<◌, ◌≤◌, arith}
use Rattle.col_arity.proofs.RowLemmas.{MapsSoFar-value, callable_first, callable_rest}
use Rattle.col_arity.proofs.StoredLemmas.{stored-end, stored-more}
use Rattle.col_arity.proofs.StoredLemmas.{stored_from-end, stored_from-next}
use Rattle.col_arity.proofs.stored.put_each.Goals as goal

pub op-requires : goal.op-requires
op-requires g c =
    callable_first g.T.NativeType.numbers (λ x. goal.F-pre g c.args.op x) _
    c.loop-i.invariant.callable
    (stored_from-next g.T.NativeType.numbers c.loop-i.values c.loop-i.i c.index-values-i.result
    c.index-values-i.result (omega arith) c.index-values-i.is)

pub loop-i-preserved : goal.loop-i-preserved
loop-i-preserved g c =
    let within : c.loop-i.i < length c.loop-i.values = omega arith in
    let is = stored_from-next g.T.NativeType.numbers c.loop-i.values c.loop-i.i
    c.index-values-i.result c.op.result within c.index-values-i.is in
    record {
      callable = callable_rest _ _ c.loop-i.invariant.callable is;
      rows = MapsSoFar-value c.index-values-i.result c.op.result c.loop-i.invariant.rows is
          c.op.ensures (stored-more g.T.NativeType.numbers c.loop-i.values c.loop-i.i
          c.op.result within);
    }

pub returns : goal.returns
returns g c =
    let behind : length c.loop-i.values ≤ c.loop-i.i = omega arith in
    stored-end g.T.NativeType.numbers c.loop-i.values c.loop-i.i c.loop-i.invariant.rows behind
    (stored_from-end g.T.NativeType.numbers c.loop-i.values c.loop-i.i behind)
