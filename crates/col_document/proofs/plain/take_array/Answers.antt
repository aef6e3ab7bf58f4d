use Rattle.std.proofs.Common.{Some, ap, sym}
use Rattle.col_document.proofs.plain.take_array.Goals as goal

pub returns-in-Ok : goal.returns-in-Ok
returns-in-Ok g c levels =
    let slots = c.in_ok-slots.ensures levels in
    (slots.0, rw slots.1 (ap Some (sym c.in-Ok.ensures.value)), slots.2)
