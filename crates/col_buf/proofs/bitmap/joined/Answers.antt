-- Two shifts and an `or` join the word and the byte above it.
use Rattle.std.proofs.Common.{arith}
use Rattle.col_buf.proofs.NumberLemmas.{joined_is}
use Rattle.col_buf.proofs.bitmap.joined.Goals as goal

pub returns : goal.returns
returns c = joined_is c.args.low c.args.high c.args.start (omega arith) (omega arith) c.requires
