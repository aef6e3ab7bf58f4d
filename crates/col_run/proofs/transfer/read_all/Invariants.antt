use Rattle.std.proofs.Common.{◌≡◌, ◌-◌, ◌≤◌, vec_len}
use Rattle.col_run.specs.Streams.{TakesFront}
use Rattle.col_run.proofs.transfer.read_all.Given as goal

abbrev pub invariant-loop-bytes : goal.invariant-loop-bytes
invariant-loop-bytes g l = record {
  taken : TakesFront (g.S.Source.left l.fn.source) l.bytes.items (g.S.Source.left l.source);
  counts : g.S.Source.faults l.fn.source ≤ g.S.Source.faults l.source;
  buffer : vec_len l.buffer ≡ 65536;
  bound : vec_len l.bytes ≤ 67108865;
}

abbrev pub decreases-loop-bytes : goal.decreases-loop-bytes
decreases-loop-bytes g l = 67108865 - vec_len l.bytes
