use Rattle.std.proofs.Common.{refl, inl, inr}
use Rattle.col_model.specs.Cell.{whole}
use Rattle.col_basic.specs.Laws.{NullGivesNull}
use Rattle.col_basic.proofs.laws.a_null_gives_null.Goals as goal

law : NullGivesNull
law operation form t (whole a) (whole b) (inl other) = absurd (other (a, refl))
law operation form t (whole a) (whole b) (inr other) = absurd (other (b, refl))
law operation form t (whole a) _ other = record { step = refl; flag = refl }
law operation form t _ y other = record { step = refl; flag = refl }

pub returns : goal.returns
returns c = law
