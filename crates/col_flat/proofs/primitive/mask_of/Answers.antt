use Rattle.std.proofs.Common.{◌∙◌, sym, rules}
use Rattle.std.proofs.lemmas.Iterator.{YieldsList-from_slice}
use Rattle.std.proofs.lemmas.Iterator.Search.{all_from_yields_List}
use Rattle.col_flat.proofs.primitive.mask_of.Goals as goal

pub returns-then-all-clause-value : goal.returns-then-all-clause-value
returns-then-all-clause-value c =
    sym (all_from_yields_List (λ flag. flag) _ _ c.all.result c.all.ensures.ran
    (YieldsList-from_slice c.args.flags.now cc) (λ x b q k. search rules))
    ∙ c.if-all.true
