use Rattle.std.proofs.Common.{ℕ, length, map}
use Rattle.col_flat.specs.Parts.{slot_cell}
use Rattle.col_document.specs.Document.{whole_read}
use Rattle.col_document.proofs.TokenLemmas.{AreReadUpTo}
use Rattle.col_document.proofs.plain.take_slots.Given as goal

abbrev pub invariant-items : goal.invariant-items
invariant-items g l =
    (levels : ℕ) → AreReadUpTo levels (whole_read g.T.NativeWhole.whole_type) l.initial.cursor
    (map slot_cell l.slots) l.cursor

abbrev pub decreases-items : goal.decreases-items
decreases-items g l = length l.cursor
