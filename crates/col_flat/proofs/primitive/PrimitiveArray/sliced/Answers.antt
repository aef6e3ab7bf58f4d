use Rattle.std.proofs.Common.{◌∙◌, ap, arith, List, ℤ, option_map}
use Rattle.col_buf.specs.Cut.{cut}
use Rattle.col_types.specs.DataKind.{kind_of}
use Rattle.col_flat.specs.Parts.{column_of}
use Rattle.col_flat.proofs.PartsLemmas.{rows_are, column-cut, map-cut}
use Rattle.col_flat.proofs.primitive.PrimitiveArray.sliced.Goals as goal

pub sliced-requires : goal.sliced-requires
sliced-requires g c =
    let rows = rows_are g.T.NativeType.numbers _ c.self.inside.values c.self.inside.validity
    c.args.self c.self.view_is in
    omega arith

pub cut_mask-requires : goal.cut_mask-requires
cut_mask-requires g c = λ mask is.
    let one_length = rw is at c.self.invariant.1 in
    let rows = rows_are g.T.NativeType.numbers _ c.self.inside.values c.self.inside.validity
    c.args.self c.self.view_is in
    omega arith

pub returns-clause-parts : goal.returns-clause-parts
returns-clause-parts g c =
    rw (c.sliced.ensures, c.cut_mask.ensures, ← c.self.view_is)
    (ap (λ (values : List (List ℤ)). record {
      data_type = kind_of c.self.inside.data_type;
      values = values;
      validity = option_map (λ flags. cut flags c.args.offset c.args.length) c.self.inside.validity;
    }) (map-cut g.T.NativeType.numbers c.self.inside.values c.args.offset c.args.length))

pub returns-clause-value : goal.returns-clause-value
returns-clause-value g c =
    ap column_of (returns-clause-parts g c) ∙ column-cut c.args.self c.args.offset c.args.length
