use Rattle.std.proofs.Common.{◌<◌, [], length, map, true, arith}
use Rattle.std.proofs.lemmas.List.{get_or_default, length-map}
use Rattle.col_flat.proofs.PartsLemmas.{rows_are, valid_at}
use Rattle.col_flat.proofs.primitive.PrimitiveArray.is_valid.Goals as goal

pub get_bit-requires : goal.get_bit-requires
get_bit-requires g c =
    let one_length = rw c.in-Some.is at c.self.invariant.1 in
    let rows = rows_are g.T.NativeType.numbers _ c.self.inside.values c.self.inside.validity
    c.args.self.now c.self.view_is in
    omega arith

pub returns-in-Some : goal.returns-in-Some
returns-in-Some g c =
    let one_length = rw c.in-Some.is at c.self.invariant.1 in
    let rows = rows_are g.T.NativeType.numbers _ c.self.inside.values c.self.inside.validity
    c.args.self.now c.self.view_is in
    let flagged : c.args.i < length c.in-Some.mask = omega arith in
    let values = map g.T.NativeType.numbers c.self.inside.values in
    let within : c.args.i < length values = rw length-map (omega arith) in
    rw (
      ← c.self.view_is,
      c.in-Some.is,
      c.get_bit.ensures,
      get_or_default c.in-Some.mask c.args.i _
          true flagged,
    )
    (valid_at values c.in-Some.mask c.args.i within)

pub returns-in-None : goal.returns-in-None
returns-in-None g c =
    let rows = rows_are g.T.NativeType.numbers _ c.self.inside.values c.self.inside.validity
    c.args.self.now c.self.view_is in
    let values = map g.T.NativeType.numbers c.self.inside.values in
    let within : c.args.i < length values = rw length-map (omega arith) in
    rw (← c.self.view_is, c.in-None.is) (valid_at values [] c.args.i within)
