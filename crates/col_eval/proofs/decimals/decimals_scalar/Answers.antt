use Rattle.std.proofs.Common.{arith}
use Rattle.col_array.specs.Any.{any_column, scalar_type}
use Rattle.col_eval.proofs.DecimalRuleLemmas.{layouts-decimals}
use Rattle.col_eval.proofs.decimals.decimals_scalar.Goals as goal

pub unreachable-requires : goal.unreachable-requires
unreachable-requires c =
    let left = rw c.data_type-left_type.ensures.value at
    c.data_type-left_type.ensures.made.stored in
    let right = rw c.data_type-right_type.ensures.value at
    c.data_type-right_type.ensures.made.stored in
    let same = layouts-decimals c.args.op (any_column c.args.lhs.now).data_type
    (scalar_type c.args.rhs.now) _ _ c.requires left right in
    grind (arith, same)
