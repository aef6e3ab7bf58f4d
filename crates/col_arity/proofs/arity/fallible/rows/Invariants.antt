use Rattle.std.proofs.Common.{Ok, map}
use Rattle.col_arity.specs.Rows.{AnswersWith, IsCallableAtValid, zero_numbers}
use Rattle.col_arity.proofs.RowLemmas.{MapsSoFar, RefusesSoFar}
use Rattle.col_arity.proofs.arity.fallible.rows.Given as goal

-- the rows so far are made, and a refusal first among the rows that are left is first among all
abbrev pub invariant-loop-slot : goal.invariant-loop-slot
invariant-loop-slot g l = record {
  callable : IsCallableAtValid g.S.Rows.seen (λ x. goal.F-pre g l.fn.op x)
      (g.S.Rows.left l.slot-iterator);
  rows : MapsSoFar
      (AnswersWith g.S.Rows.seen (λ x r. goal.F-post g l.fn.op x (Ok r))
      (λ r. g.O.NativeType.numbers r))
      (zero_numbers g.O.NativeType.field_types) (g.S.Rows.left l.fn.slots)
      (g.S.Rows.left l.slot-iterator) (map g.O.NativeType.numbers l.values.items);
  refusals : RefusesSoFar g.S.Rows.seen (λ x r. goal.F-post g l.fn.op x r)
      (g.S.Rows.left l.fn.slots) (g.S.Rows.left l.slot-iterator);
}
