-- A part of the bits is the bits from its own place on.
use Rattle.std.proofs.Common.{◌∙◌, ap, arith}
use Rattle.col_buf.specs.Cut.{cut}
use Rattle.col_buf.proofs.BitLemmas.{length-view, part_from}
use Rattle.col_buf.proofs.bitmap.Bitmap.sliced.Goals as goal

pub bits_of-requires : goal.bits_of-requires
bits_of-requires c =
    let n = length-view _ _ _ _ c.self.view_is in
    omega (arith, c.requires, c.self.invariant.within)

pub returns : goal.returns
returns c =
    let n = length-view _ _ _ _ c.self.view_is in
    c.bits_of.ensures ∙ part_from c.self.inside.bytes c.self.inside.start c.self.inside.count
    c.args.offset c.args.length (omega (arith, c.requires))
    ∙ ap (λ xs. cut xs c.args.offset c.args.length) c.self.view_is
