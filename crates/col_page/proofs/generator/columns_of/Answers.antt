use Rattle.std.proofs.Common.{◌≡◌, ◌∙◌, arith}
use Rattle.col_page.proofs.GeneratorLemmas.{cells-next, columns-made, number_slot}
use Rattle.col_page.specs.Generator.{first_cell, second_cell, third_cell}
use Rattle.col_page.proofs.generator.columns_of.Goals as goal

pub loop-row-preserved : goal.loop-row-preserved
loop-row-preserved c =
    let before = c.loop-row.invariant in
    record {
      first = cells-next first_cell _ _ _ c.loop-row.row before.first c.in_ok-push.ensures.value
          (number_slot c.first_slot.result ∙ c.first_slot.ensures);
      second = cells-next second_cell _ _ _ c.loop-row.row before.second
          c.in_ok-push-2.ensures.value (number_slot c.second_slot.result ∙ c.second_slot.ensures);
      third = cells-next third_cell _ _ _ c.loop-row.row before.third c.in_ok-push-3.ensures.value
          c.third_number.ensures;
    }

pub returns-clause-value : goal.returns-clause-value
returns-clause-value c =
    let rows = c.loop-row.invariant in
    let ended : c.loop-row.row ≡ c.args.n = omega arith in
    columns-made c.args.n c.loop-row.row _ _ _ _ _ _ _ _ _ _ c.in_ok-columns.ensures.items
    c.in_ok-push-4.ensures.items c.in_ok-push-5.ensures.items c.in_ok-push-6.ensures.items
    c.in_ok-into_array.ensures.value c.in_ok-into_array-2.ensures.value
    c.in_ok-into_array-3.ensures.value rows.first rows.second rows.third ended
