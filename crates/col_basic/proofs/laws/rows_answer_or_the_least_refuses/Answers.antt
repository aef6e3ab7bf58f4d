use Rattle.col_basic.proofs.LawLemmas.{gathered_alone, gathered_beside}
use Rattle.col_basic.proofs.laws.rows_answer_or_the_least_refuses.Goals as goal

pub returns : goal.returns
returns c = record { beside = gathered_beside; alone = gathered_alone }
