-- The bit is the truth value at the place.
use Rattle.std.proofs.Common.{arith}
use Rattle.col_buf.proofs.BitLemmas.{length-view, bit_read}
use Rattle.col_buf.proofs.bitmap.Bitmap.get_bit.Goals as goal

pub bounds-as_slice-i : goal.bounds-as_slice-i
bounds-as_slice-i c =
    let n = length-view _ _ _ _ c.self.view_is in
    rw c.as_slice.ensures (omega (arith, c.requires, c.self.invariant.within))

pub returns : goal.returns
returns c =
    let n = length-view _ _ _ _ c.self.view_is in
    rw c.as_slice.ensures
    (bit_read c.self.inside.bytes c.self.inside.start c.self.inside.count c.args.i
    c.args.self.now c.self.view_is (omega (arith, c.requires)))
