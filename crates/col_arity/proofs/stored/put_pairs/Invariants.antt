use Rattle.std.proofs.Common.{map, take}
use Rattle.col_flat.specs.Parts.{pair_numbers}
use Rattle.col_arity.specs.Rows.{AnswersWith, IsCallableAtValid, zero_numbers}
use Rattle.col_arity.proofs.RowLemmas.{MapsSoFar}
use Rattle.col_arity.proofs.StoredLemmas.{stored_pairs_from}
use Rattle.col_arity.proofs.stored.put_pairs.Given as goal

-- the values so far are answered, and what stands behind them is what stood there
abbrev pub invariant-loop-i : goal.invariant-loop-i
invariant-loop-i g l = record {
  callable : IsCallableAtValid (pair_numbers g.T.NativeType.numbers g.D.NativeType.numbers)
      (λ p. goal.F-pre g l.fn.op p.0 p.1)
      (stored_pairs_from g.T.NativeType.numbers g.D.NativeType.numbers l.values l.others l.i);
  rows : MapsSoFar
      (AnswersWith (pair_numbers g.T.NativeType.numbers g.D.NativeType.numbers)
      (λ p r. goal.F-post g l.fn.op p.0 p.1 r) (λ r. g.T.NativeType.numbers r))
      (zero_numbers g.T.NativeType.field_types)
      (stored_pairs_from g.T.NativeType.numbers g.D.NativeType.numbers l.fn.values l.others 0)
      (stored_pairs_from g.T.NativeType.numbers g.D.NativeType.numbers l.values l.others l.i)
      (map g.T.NativeType.numbers (take l.i l.values));
}
