use Rattle.std.proofs.Common.{◌+◌, ◌*◌, length, map}
use Rattle.serde_json.specs.View.{members_view, view}
use Rattle.col_json.proofs.BeginsLemmas.{ItemsUpTo, MembersUpTo}
use Rattle.col_json.proofs.values.+value.Given as goal

abbrev pub decreases-read_from : goal.decreases-read_from
decreases-read_from l = 2 * l.levels

abbrev pub decreases-read_items : goal.decreases-read_items
decreases-read_items l = 2 * l.levels + 1

abbrev pub decreases-read_members : goal.decreases-read_members
decreases-read_members l = 2 * l.levels + 1

abbrev pub invariant-read_items-items : goal.invariant-read_items-items
invariant-read_items-items l =
    ItemsUpTo l.levels l.initial.cursor (map view l.found.items) l.cursor

abbrev pub decreases-read_items-items : goal.decreases-read_items-items
decreases-read_items-items l = length l.cursor

abbrev pub invariant-read_members-members : goal.invariant-read_members-members
invariant-read_members-members l =
    MembersUpTo l.levels l.initial.cursor (members_view l.found.entries) l.cursor

abbrev pub decreases-read_members-members : goal.decreases-read_members-members
decreases-read_members-members l = length l.cursor
