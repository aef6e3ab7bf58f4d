use Rattle.std.proofs.Common.{◌∙◌}
use Rattle.col_flat.proofs.PartsLemmas.{mask_fits, rows_beneath}
use Rattle.col_flat.proofs.primitive.iterator.pairs.Goals as goal

pub new-requires : goal.new-requires
new-requires g c =
    rw c.as_slice.ensures
    (mask_fits g.T.NativeType.numbers _ c.lhs.inside.values c.lhs.inside.validity _
    c.args.lhs.now c.args.rhs.now c.lhs.view_is
    c.requires.one_length c.requires.combined)

pub returns : goal.returns
returns g c =
    c.new.ensures ∙ rw (c.as_slice.ensures, c.as_slice-2.ensures)
    (rows_beneath g.T.NativeType.numbers g.D.NativeType.numbers _ _ c.lhs.inside.values
    c.rhs.inside.values
    c.lhs.inside.validity c.rhs.inside.validity _ c.args.lhs.now c.args.rhs.now c.lhs.view_is
    c.rhs.view_is c.requires.combined)
