use Rattle.std.proofs.Common.{None, option_map}
use Rattle.col_arity.specs.Rows.{AnswersWith, IsCallableAtValid}
use Rattle.col_arity.proofs.RowLemmas.{MapsSoFar}
use Rattle.col_arity.proofs.arity.checked.rows.Given as goal

-- the rows so far are made, and what they and the rows that are left give is what all give
abbrev pub invariant-loop-slot : goal.invariant-loop-slot
invariant-loop-slot g l = record {
  callable : IsCallableAtValid g.S.Rows.seen (λ x. goal.F-pre g l.fn.op x)
      (g.S.Rows.left l.slot-iterator);
  rows : MapsSoFar
      (AnswersWith g.S.Rows.seen (λ x r. goal.F-post g l.fn.op x r)
      (λ r. option_map g.O.NativeType.numbers r))
      None (g.S.Rows.left l.fn.slots) (g.S.Rows.left l.slot-iterator) l.made;
}
