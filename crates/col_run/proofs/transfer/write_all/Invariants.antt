use Rattle.std.proofs.Common.{◌≤◌, ◌-◌, length, take}
use Rattle.col_run.specs.Streams.{AddsBytes}
use Rattle.col_run.proofs.transfer.write_all.Given as goal

abbrev pub invariant-loop-written : goal.invariant-loop-written
invariant-loop-written g l = record {
  added : AddsBytes (g.K.Sink.written l.fn.sink) (take l.written l.bytes) (g.K.Sink.written l.sink);
  counts : g.K.Sink.faults l.fn.sink ≤ g.K.Sink.faults l.sink;
  bound : l.written ≤ length l.bytes;
}

abbrev pub decreases-loop-written : goal.decreases-loop-written
decreases-loop-written g l = length l.bytes - l.written
