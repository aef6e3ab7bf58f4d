use Rattle.std.proofs.Common.{◌≡◌, ◌<◌, ◌-◌, ◌%◌, Some, length, take, drop, option_map, ap, sym}
use Rattle.std.proofs.Common.{◌∙◌, arith}
use Rattle.std.proofs.lemmas.List.{drop-drop, length-drop}
use Rattle.std.proofs.lemmas.Option.{same_Some}
use Rattle.col_buf.specs.Bitmap.{number_of}
use Rattle.col_flat.proofs.FlagsLemmas.{next_reading}
use Rattle.col_flat.proofs.primitive.iterator.FlagsLeft.next.Goals as goal

pub invariant_of-self : goal.invariant_of-self
invariant_of-self c = λ x is.
    let row = c.self.inside.row in
    let same : c.in-Some.mask ≡ x = same_Some _ _ (sym c.in-Some.is ∙ is) in
    let some = c.requires (drop row x.now)
    (sym c.self.view_is ∙ ap (option_map (λ mask. drop row mask.now)) is) in
    let within : row < length x.now = omega (arith, length-drop row x.now) in
    next_reading x.now row c.word_from-word.result c.self.inside.word within (c.self.invariant x is)
    (c.word_from-word.ensures
    ∙ ap (λ mask. number_of (take (64 - row % 64) (drop row mask.now))) same)

pub returns-clause-rest : goal.returns-clause-rest
returns-clause-rest c =
    rw (← c.self.view_is, c.in-Some.is)
    (ap Some (sym (drop-drop 1 c.self.inside.row c.in-Some.mask.now)))
