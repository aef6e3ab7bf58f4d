use Rattle.col_reduce.proofs.LawLemmas.{total_of-append}
use Rattle.col_reduce.proofs.laws.totals_of_parts_join.Goals as goal

pub returns : goal.returns
returns c = total_of-append
