use Rattle.std.proofs.Common.{refl}
use Rattle.col_arity.proofs.RowLemmas.{MapsSoFar-end, MapsSoFar-null, MapsSoFar-value}
use Rattle.col_arity.proofs.RowLemmas.{callable_first, callable_rest, map-more}
use Rattle.col_arity.proofs.arity.mapped.rows.Goals as goal

pub op-answer-requires : goal.op-answer-requires
op-answer-requires g c =
    let next = g.met.S.Rows.gives _ _ _ c.in-Some.ensures.steps in
    callable_first g.S.Rows.seen (λ x. goal.F-pre g c.args.op x) c.in-Some-slot.value
    c.loop-slot.invariant.callable (rw c.in-Some-slot.is at next)

pub loop-slot-preserved : goal.loop-slot-preserved
loop-slot-preserved g c =
    let next = g.met.S.Rows.gives _ _ _ c.in-Some.ensures.steps in
    let is = rw c.in-None-slot.is at next in
    record {
      callable = callable_rest _ _ c.loop-slot.invariant.callable next;
      rows = MapsSoFar-null c.loop-slot.invariant.rows is
          (map-more g.O.NativeType.numbers _ c.in_ok-push-in-None-slot.ensures.items
          c.zero.ensures);
    }

pub loop-slot-preserved-in-Continue-branch-2 : goal.loop-slot-preserved-in-Continue-branch-2
loop-slot-preserved-in-Continue-branch-2 g c =
    let next = g.met.S.Rows.gives _ _ _ c.in-Some.ensures.steps in
    let is = rw c.in-Some-slot.is at next in
    record {
      callable = callable_rest _ _ c.loop-slot.invariant.callable next;
      rows = MapsSoFar-value c.in-Some-slot.value c.op-answer.result
          c.loop-slot.invariant.rows is c.op-answer.ensures
          (map-more g.O.NativeType.numbers _ c.in_ok-push-in-Some-slot.ensures.items refl);
    }

pub returns-clause-answer : goal.returns-clause-answer
returns-clause-answer g c =
    let last = g.met.S.Rows.gives _ _ _ c.in-None.ensures.steps in
    MapsSoFar-end c.loop-slot.invariant.rows last.0
