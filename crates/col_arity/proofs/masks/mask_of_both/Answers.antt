use Rattle.std.proofs.lemmas.Result.{IfOk-weaker}
use Rattle.col_flat.specs.Parts.{slots_of}
use Rattle.col_flat.proofs.ValidityLemmas.{HasFlags-zipped, HaveOneLength-slots, slots-rows}
use Rattle.col_arity.proofs.masks.mask_of_both.Goals as goal

pub combine_validities-requires : goal.combine_validities-requires
combine_validities-requires g c =
    HaveOneLength-slots (slots_of c.args.lhs.now)
    (slots_of c.args.rhs.now) _ _ c.needed_mask.ensures c.needed_mask-2.ensures
    (slots-rows c.args.lhs.now c.args.rhs.now c.requires)

pub returns-clause-value : goal.returns-clause-value
returns-clause-value g c =
    IfOk-weaker c.combine_validities.result _ _
    (λ mask is. HasFlags-zipped (slots_of c.args.lhs.now)
    (slots_of c.args.rhs.now) _ _ mask c.needed_mask.ensures c.needed_mask-2.ensures
    (slots-rows c.args.lhs.now c.args.rhs.now c.requires) is)
    c.combine_validities.ensures.value
