use Rattle.std.proofs.Common.{◌∙◌, sym}
use Rattle.col_flat.proofs.PartsLemmas.{rows_are}
use Rattle.col_flat.proofs.primitive.PrimitiveArray.len.Goals as goal

pub returns : goal.returns
returns g c =
    c.len.ensures ∙ sym
    (rows_are g.T.NativeType.numbers _ c.self.inside.values c.self.inside.validity
    c.args.self.now c.self.view_is)
