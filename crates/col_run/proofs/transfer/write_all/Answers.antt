use Rattle.std.proofs.Common.{◌≤◌, ◌-◌, length, arith}
use Rattle.col_run.proofs.StreamsLemmas.{adds_next}
use Rattle.col_run.proofs.transfer.write_all.Goals as goal

pub loop-written-preserved : goal.loop-written-preserved
loop-written-preserved g c =
    let before = c.loop-written.invariant in
    let call = c.in_ok-written.ensures in
    let below : c.in_ok-written.field-0 ≤ length c.args.bytes.now - c.loop-written.written =
    omega (arith, call.bound)
    in
    record {
      added = adds_next _ _ _ c.args.bytes.now _ _ _ before.added call.bytes below;
      counts = omega (arith, before.counts, call.counts);
      bound = omega (arith, below);
    }
