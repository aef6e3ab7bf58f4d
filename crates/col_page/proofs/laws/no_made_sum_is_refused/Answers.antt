use Rattle.col_page.proofs.GeneratorLemmas.{no_refused_sum}
use Rattle.col_page.proofs.laws.no_made_sum_is_refused.Goals as goal

pub returns : goal.returns
returns c = no_refused_sum
