use Rattle.std.proofs.Common.{ap, map}
use Rattle.col_flat.specs.Parts.{column_of, slot_cell}
use Rattle.col_page.proofs.PageLemmas.{cells-end, rest-next}
use Rattle.col_page.proofs.page.push_cells.Goals as goal

pub loop-slot-preserved : goal.loop-slot-preserved
loop-slot-preserved g c =
    rest-next _ c.loop-slot.text.items _ c.loop-slot.is_first _ _ _ _
    (ap (map slot_cell) c.in-Some.ensures.steps) c.loop-slot.invariant
    c.in_ok-push_next_slot.ensures.value

pub returns-clause-value : goal.returns-clause-value
returns-clause-value g c =
    cells-end c.args.text.now.items c.push.new.self.items c.loop-slot.text.items _
    c.loop-slot.is_first (column_of c.args.array.now).cells _
    (ap (map slot_cell) c.in-None.ensures.steps.0) c.in_ok-push.ensures.items
    c.loop-slot.invariant c.in_ok-push-2.ensures.items
