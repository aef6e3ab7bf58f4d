use Rattle.col_flat.proofs.PartsLemmas.{rows_are}
use Rattle.col_flat.proofs.primitive.PrimitiveArray.validity.Goals as goal

pub returns-clause-one_length : goal.returns-clause-one_length
returns-clause-one_length g c =
    rw (
      rows_are g.T.NativeType.numbers _ c.self.inside.values c.self.inside.validity
          c.args.self.now c.self.view_is,
      ← c.self.view_is,
    ) c.self.invariant.1
