use Rattle.std.proofs.Common.{false, length, map, ◌≡◌}
use Rattle.std.specs.List.{zip}
use Rattle.col_arity.specs.Rows.{AnswersWith, IsCallableAtValid, zero_numbers}
use Rattle.col_arity.proofs.RowLemmas.{MapsSoFar}
use Rattle.col_arity.proofs.arity.flagged.rows.Given as goal

-- the rows so far are made, and what they and the rows that are left give is what all give
abbrev pub invariant-loop-slot : goal.invariant-loop-slot
invariant-loop-slot g l = record {
  callable : IsCallableAtValid g.S.Rows.seen (λ x. goal.F-pre g l.fn.op x)
      (g.S.Rows.left l.slot-iterator);
  rows : MapsSoFar
      (AnswersWith g.S.Rows.seen (λ x r. goal.F-post g l.fn.op x r)
      (λ r. (g.O.NativeType.numbers r.0, r.1)))
      (zero_numbers g.O.NativeType.field_types, false) (g.S.Rows.left l.fn.slots)
      (g.S.Rows.left l.slot-iterator)
      (zip (map g.O.NativeType.numbers l.values.items) l.flags.items);
  one_length : length l.flags.items ≡ length l.values.items;
}
