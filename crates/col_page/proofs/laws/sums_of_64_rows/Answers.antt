use Rattle.std.proofs.Common.{refl}
use Rattle.col_page.proofs.laws.sums_of_64_rows.Goals as goal

pub returns : goal.returns
returns c = refl
