use Rattle.std.proofs.Common.{Some, map, take}
use Rattle.col_arity.specs.Rows.{AnswersWith, IsCallableAtValid, zero_numbers}
use Rattle.col_arity.proofs.RowLemmas.{MapsSoFar}
use Rattle.col_arity.proofs.StoredLemmas.{stored_from}
use Rattle.col_arity.proofs.stored.put_each.Given as goal

-- the values so far are answered, and what stands behind them is what stood there
abbrev pub invariant-loop-i : goal.invariant-loop-i
invariant-loop-i g l = record {
  callable : IsCallableAtValid g.T.NativeType.numbers (λ x. goal.F-pre g l.fn.op x)
      (stored_from g.T.NativeType.numbers l.values l.i);
  rows : MapsSoFar
      (AnswersWith g.T.NativeType.numbers (λ x r. goal.F-post g l.fn.op x r)
      (λ r. g.T.NativeType.numbers r))
      (zero_numbers g.T.NativeType.field_types)
      (map Some (map g.T.NativeType.numbers l.fn.values))
      (stored_from g.T.NativeType.numbers l.values l.i)
      (map g.T.NativeType.numbers (take l.i l.values));
}
