-- Numbers in two parts.
use Rattle.std.specs.Prelude.{◌^◌, ℤ, pos, ◌+ℤ◌, ◌*ℤ◌}
use Rattle.col_reduce.specs.declared.aggregate.exact.ExactSum.{ExactSum}

-- the number that the parts make together: so many times 2 ^ 128, and the rest
abbrev pub exact_number : ExactSum → ℤ
exact_number s = s.carries *ℤ pos (2 ^ 128) +ℤ s.rest
