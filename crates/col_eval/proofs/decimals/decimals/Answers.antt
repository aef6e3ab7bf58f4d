use Rattle.std.proofs.Common.{arith}
use Rattle.col_array.specs.Any.{any_column}
use Rattle.col_eval.proofs.DecimalRuleLemmas.{layouts-decimals}
use Rattle.col_eval.proofs.decimals.decimals.Goals as goal

pub unreachable-requires : goal.unreachable-requires
unreachable-requires c =
    let left = rw c.data_type-left_type.ensures.value at
    c.data_type-left_type.ensures.made.stored in
    let right = rw c.data_type-right_type.ensures.value at
    c.data_type-right_type.ensures.made.stored in
    let same = layouts-decimals c.args.op (any_column c.args.lhs.now).data_type
    (any_column c.args.rhs.now).data_type _ _ c.requires left right in
    grind (arith, same)
