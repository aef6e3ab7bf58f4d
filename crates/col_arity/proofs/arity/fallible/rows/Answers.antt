use Rattle.std.proofs.Common.{refl}
use Rattle.std.proofs.lemmas.Result.{err_from_is_err_and}
use Rattle.col_arity.proofs.RowLemmas.{MapsSoFar-end, MapsSoFar-null, MapsSoFar-value}
use Rattle.col_arity.proofs.RowLemmas.{RefusesSoFar-end, RefusesSoFar-null, RefusesSoFar-value}
use Rattle.col_arity.proofs.RowLemmas.{callable_first, callable_rest, map-more}
use Rattle.col_arity.proofs.arity.fallible.rows.Goals as goal

pub op-requires : goal.op-requires
op-requires g c =
    let next = g.met.S.Rows.gives _ _ _ c.in-Some.ensures.steps in
    callable_first g.S.Rows.seen (λ x. goal.F-pre g c.args.op x) c.in-Some-slot.value
    c.loop-slot.invariant.callable (rw c.in-Some-slot.is at next)

pub loop-slot-preserved : goal.loop-slot-preserved
loop-slot-preserved g c =
    let next = g.met.S.Rows.gives _ _ _ c.in-Some.ensures.steps in
    let is = rw c.in-None-slot.is at next in
    record {
      callable = callable_rest _ _ c.loop-slot.invariant.callable next;
      rows = MapsSoFar-null c.loop-slot.invariant.rows is
          (map-more g.O.NativeType.numbers _ c.in_ok-push-in-None-slot.ensures.items
          c.zero.ensures);
      refusals = RefusesSoFar-null c.loop-slot.invariant.refusals is;
    }

pub loop-slot-preserved-in-Continue-branch-3 : goal.loop-slot-preserved-in-Continue-branch-3
loop-slot-preserved-in-Continue-branch-3 g c =
    let next = g.met.S.Rows.gives _ _ _ c.in-Some.ensures.steps in
    let is = rw c.in-Some-slot.is at next in
    record {
      callable = callable_rest _ _ c.loop-slot.invariant.callable next;
      rows = MapsSoFar-value c.in-Some-slot.value _ c.loop-slot.invariant.rows is
          c.in_ok-answer-in-Some-slot.ensures
          (map-more g.O.NativeType.numbers _ c.in_ok-push-in-Some-slot.ensures.items refl);
      refusals = RefusesSoFar-value c.in-Some-slot.value _ c.loop-slot.invariant.refusals is
          c.in_ok-answer-in-Some-slot.ensures;
    }

pub returns-in_err-answer-in-Some-slot-clause-refused
    : goal.returns-in_err-answer-in-Some-slot-clause-refused
returns-in_err-answer-in-Some-slot-clause-refused g c =
    let p = err_from_is_err_and c.from_residual-in_err-answer-in-Some-slot.result
    c.from_residual-in_err-answer-in-Some-slot.ensures.1 in
    let next = g.met.S.Rows.gives _ _ _ c.in-Some.ensures.steps in
    let is = rw c.in-Some-slot.is at next in
    rw (p.1, p.2) (RefusesSoFar-end c.in-Some-slot.value c.in_err-answer-in-Some-slot.field-0.0
    c.loop-slot.invariant.refusals is c.in_err-answer-in-Some-slot.ensures)

pub returns-clause-answer : goal.returns-clause-answer
returns-clause-answer g c =
    let last = g.met.S.Rows.gives _ _ _ c.in-None.ensures.steps in
    MapsSoFar-end c.loop-slot.invariant.rows last.0
