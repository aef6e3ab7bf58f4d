use Rattle.std.proofs.Common.{sym, ◌∙◌}
use Rattle.col_flat.specs.Parts.{slots_of}
use Rattle.col_flat.proofs.ValidityLemmas.{HasFlags-array, all_valid-uncounted}
use Rattle.col_arity.proofs.masks.needed_mask.Goals as goal

pub returns-then-null_count-eq0 : goal.returns-then-null_count-eq0
returns-then-null_count-eq0 g c =
    all_valid-uncounted (slots_of c.args.array.now)
    (sym c.null_count.ensures ∙ c.if-null_count-eq0.true)

pub returns-else-null_count-eq0 : goal.returns-else-null_count-eq0
returns-else-null_count-eq0 g c =
    HasFlags-array c.args.array.now _ c.validity.ensures.value c.validity.ensures.one_length
