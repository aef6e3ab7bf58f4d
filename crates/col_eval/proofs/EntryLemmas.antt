-- A step gives a cell of the type that its row of the table says, and which rows take a literal.
use Rattle.std.proofs.Common.{◌≡◌, Bool, true, false, not, ◌&&◌, cond, Option, None, Some}
use Rattle.std.proofs.Common.{option_map, Result, Ok, Err, IsOk, refl}
use Rattle.col_model.specs.Cell.{Cell}
use Rattle.col_types.specs.CellOf.{is_cell_of}
use Rattle.col_types.specs.DataKind.{DataKind}
use Rattle.col_types.specs.declared.error.Error.{Error}
use Rattle.col_types.specs.declared.error.Error.TheVariants.{NotYetImplemented}
use Rattle.col_eval.specs.declared.entries.Rule.{Rule}
use Rattle.col_eval.specs.declared.entries.Rule.TheVariants.{WholeNumbers, Decimals}
use Rattle.col_eval.specs.declared.expr.Op.{Op}
use Rattle.col_eval.specs.Entries.{Entry, beside_literal, decimal_form, decimal_operation}
use Rattle.col_eval.specs.Entries.{decimal_type, entry_by, entry_cell, entry_of, entry_type}
use Rattle.col_eval.specs.Entries.{form_of, is_plain_form, operation_of, rule_of}
use Rattle.col_eval.proofs.DecimalRuleLemmas.{decimal_cell-typed, decimal_type-left}
use Rattle.col_eval.proofs.DecimalRuleLemmas.{taken_decimals}
use Rattle.col_eval.proofs.RuleLemmas.{taken_kind, typed_step-cell}

-- a choice that is no refusal
chosen : (b : Bool) (e : Error) (r : Result DataKind Error) (u : DataKind)
    → cond b (Err e) r ≡ Ok u → r ≡ Ok u
chosen true e r u h = absurd cc
chosen false e r u h = h

-- a step gives a cell of the type that its rule says
rule_cell : (rule : Option Rule) (op : Op) (is_literal : Bool) (s t u : DataKind) (a b c : Cell)
    → rule_of op s t ≡ rule
    → entry_type is_literal (option_map (λ r. entry_by r op s t) rule) ≡ Ok u
    → entry_cell (option_map (λ r. entry_by r op s t) rule) a b ≡ Ok c → is_cell_of u c ≡ true
rule_cell None op is_literal s t u a b c r h g = absurd cc
rule_cell (Some WholeNumbers) op is_literal s t u a b c r h g =
    let k = (taken_kind op s t r).1 in
    let kept = chosen (is_literal && not true) NotYetImplemented (Ok s) u h in
    let same : s ≡ u = cc in
    let cells = rw k.whole at g in
    rw (← same) (typed_step-cell op s k.numbers a b c k.values cells)
rule_cell (Some Decimals) op is_literal s t u a b c r h g =
    let k = taken_decimals op s t r in
    let kept = chosen (is_literal && not (is_plain_form (form_of op))) NotYetImplemented
    (decimal_type s t) u h in
    let typed = decimal_type-left s t u kept in
    let fits = rw k.left at typed.0 in
    let cells = rw k.left at g in
    rw (← typed.1, k.left) (decimal_cell-typed (decimal_operation (operation_of op))
    (decimal_form (form_of op)) k.precision k.scale a b c fits cells)

-- the cell of a step with a type is one of that type
pub entry_cell-type : (op : Op) (is_literal : Bool) (s t u : DataKind) (a b c : Cell)
    → entry_type is_literal (entry_of op s t) ≡ Ok u → entry_cell (entry_of op s t) a b ≡ Ok c
    → is_cell_of u c ≡ true
entry_cell-type op is_literal s t u a b c h g =
    rule_cell (rule_of op s t) op is_literal s t u a b c refl h g

-- a row that gives a type beside a literal takes one
pub beside_literal-typed : (entry : Option Entry) → IsOk (entry_type true entry)
    → beside_literal entry ≡ entry
beside_literal-typed None h = refl
beside_literal-typed (Some entry) h = by_test entry.takes_literal h where
  by_test : (b : Bool) → IsOk (cond (true && not b) (Err NotYetImplemented) entry.answer_type)
      → cond b (Some entry) None ≡ Some entry
  by_test true h = refl
  by_test false h = absurd cc
