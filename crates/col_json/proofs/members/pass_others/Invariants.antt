use Rattle.std.proofs.Common.{length}
use Rattle.col_json.specs.Begins.{Passes}
use Rattle.col_json.proofs.members.pass_others.Given as goal

abbrev pub invariant-members : goal.invariant-members
invariant-members l = Passes l.levels l.name l.other l.initial.cursor l.cursor

abbrev pub decreases-members : goal.decreases-members
decreases-members l = length l.cursor
