use Rattle.std.proofs.Common.{rules}
use Rattle.std.proofs.lemmas.Int.{to_z-of_z}
use Rattle.std.specs.Fmt.{signed_decimal}
use Rattle.std.specs.Int.{w32, w64}
use mir.Val.{SFits}
use Rattle.col_page.proofs.PageLemmas.{three_appended}
use Rattle.col_page.proofs.cell_texts.Months_days_nsPrinted.push_value.Goals as goal

pub returns-clause-value : goal.returns-clause-value
returns-clause-value c =
    let months : SFits w32 c.months.result = search rules in
    let days : SFits w32 c.days.result = search rules in
    let ns : SFits w64 c.ns.result = search rules in
    rw (
      c.in_ok-push-2.ensures.items,
      c.in_ok-push_next_number-2.ensures.value,
      c.in_ok-push_next_number.ensures.value,
      c.in_ok-push_number.ensures.value,
      c.in_ok-push.ensures.items,
      to_z-of_z w32 c.months.result months,
      to_z-of_z w32 c.days.result days,
      to_z-of_z w64 c.ns.result ns,
      c.months.ensures,
      c.days.ensures,
      c.ns.ensures,
    )
    (three_appended c.args.text.now.items (signed_decimal c.args.self.months)
    (signed_decimal c.args.self.days) (signed_decimal c.args.self.ns))
