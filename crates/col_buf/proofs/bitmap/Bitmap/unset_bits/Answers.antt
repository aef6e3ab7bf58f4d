-- Each chunk adds its true values; what is left is false.
use Rattle.std.proofs.Common.{◌≡◌, ◌+◌, ◌*◌, ◌∙◌, sym, ap₂, arith, take}
use Rattle.std.specs.Int.Count.{ones}
use Rattle.col_buf.proofs.BitLemmas.{length-view}
use Rattle.col_buf.proofs.ChunkLemmas.{set_count, set_count_more, set_count-le, unset_is}
use Rattle.col_buf.proofs.bitmap.Bitmap.unset_bits.Goals as goal
use Rattle.col_buf.proofs.bitmap.Bitmap.unset_bits.Goals.{After-chunk}

-- the true values with those of the chunk
more : (c : After-chunk) →
    c.loop-i.set + ones c.chunk.result ≡ set_count (take (64 * (c.loop-i.i + 1)) c.args.self.now)
more c = ap₂ (λ m n. m + ones n) c.loop-i.invariant c.chunk.ensures
    ∙ sym (set_count_more c.args.self.now c.loop-i.i)

pub chunk-requires : goal.chunk-requires
chunk-requires c = let n = length-view _ _ _ _ c.self.view_is in omega arith

pub overflow_add-set : goal.overflow_add-set
overflow_add-set c =
    let n = length-view _ _ _ _ c.self.view_is in
    omega (
      arith,
      more c,
      set_count-le c.args.self.now (64 * (c.loop-i.i + 1)),
      c.self.invariant.within,
    )

pub loop-i-preserved : goal.loop-i-preserved
loop-i-preserved c = more c

pub overflow_sub-result : goal.overflow_sub-result
overflow_sub-result c =
    let n = length-view _ _ _ _ c.self.view_is in
    omega (arith, c.loop-i.invariant, set_count-le c.args.self.now (64 * c.loop-i.i))

pub returns : goal.returns
returns c =
    let n = length-view _ _ _ _ c.self.view_is in
    rw c.loop-i.invariant
    (unset_is c.args.self.now (64 * c.loop-i.i) c.self.inside.count n (omega arith))
