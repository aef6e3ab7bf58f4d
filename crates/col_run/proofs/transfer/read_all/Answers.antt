use Rattle.std.proofs.Common.{arith, rules}
use Rattle.std.proofs.lemmas.Result.{err_from_is_err_and}
use Rattle.col_run.proofs.StreamsLemmas.{takes_more, length_with_front}
use Rattle.col_run.proofs.transfer.read_all.Goals as goal

pub loop-bytes-preserved : goal.loop-bytes-preserved
loop-bytes-preserved g c =
    let before = c.loop-bytes.invariant in
    let call = c.in-Ok.ensures in
    record {
      taken = rw c.in_ok-extend_from_slice.ensures.items
          (takes_more _ _ _ c.loop-bytes.bytes.items _ before.taken call.bytes);
      counts = omega (arith, before.counts, call.counts);
      buffer = search rules;
      bound = search rules;
    }

pub returns-in_err-extend_from_slice-clause-kept :
    goal.returns-in_err-extend_from_slice-clause-kept
returns-in_err-extend_from_slice-clause-kept g c =
    let exit = c.from_residual-in_err-extend_from_slice in
    let call = c.in-Ok.ensures in
    let bytes = c.loop-bytes.bytes.items in
    let p = err_from_is_err_and exit.result exit.ensures.1 in
    let taken = takes_more _ _ _ bytes _ c.loop-bytes.invariant.taken call.bytes in
    rw p.1 (_, taken, length_with_front bytes _ _ _ call.bound (search rules))
