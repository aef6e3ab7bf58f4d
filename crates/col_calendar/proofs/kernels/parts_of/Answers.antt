use Rattle.std.proofs.Common.{◌≡◌, Ok, Err, true, rules}
use Rattle.col_array.specs.Any.{any_column}
use Rattle.col_calendar.specs.Offset.{zone_answer}
use Rattle.col_calendar.specs.Part.{can_part, offset_of_type}
use Rattle.col_calendar.proofs.PartLemmas.{part_answer-read, part_answer-unread}
use Rattle.col_calendar.proofs.kernels.parts_of.Goals as goal

pub returns-in-Ok : goal.returns-in-Ok
returns-in-Ok g c =
    let p = g.P.CivilPart.part in
    let column = any_column c.args.array.now in
    let can : can_part p column.data_type ≡ true = search rules in
    let zone : zone_answer (offset_of_type column.data_type) ≡ Ok c.in-Ok.zone = search rules in
    record {
      answer =
          rw (part_answer-read p column c.in-Ok.zone can zone) c.parts_in_zone.ensures.answer;
    }

pub returns-in-Err : goal.returns-in-Err
returns-in-Err g c =
    let p = g.P.CivilPart.part in
    let column = any_column c.args.array.now in
    let can : can_part p column.data_type ≡ true = search rules in
    let zone : zone_answer (offset_of_type column.data_type) ≡ Err c.in-Err.refused =
    search rules in
    record { answer = rw (part_answer-unread p column c.in-Err.refused can zone) (search rules) }
