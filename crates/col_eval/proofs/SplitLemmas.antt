-- What a tree gives for a table in two parts is what it gives for each, joined.
use Rattle.std.proofs.Common.{◌≡◌, ℕ, ◌+◌, ◌-◌, ◌<◌, ◌≤◌, Bool, true, false, ◌==◌, nat_le, cond}
use Rattle.std.proofs.Common.{IsTrue, List, [], ◌∷◌, ◌++◌, map, length, get_or, inl, inr}
use Rattle.std.proofs.Common.{refl, sym, ap, ◌∙◌}
use Rattle.std.proofs.Common.{arith, eq-eqb, eqb-true, le-leb, leb-true, leb-false, length-append}
use Rattle.std.specs.List.{list_all}
use Rattle.std.proofs.lemmas.Bool.{and_parts, cases_lt, lt-leb}
use Rattle.std.proofs.lemmas.List.{get_or_append_left, get_or-append_right, map-append}
use Rattle.std.proofs.lemmas.List.FromFn.{fill_by_all, get_or-map-range_with_len}
use Rattle.col_model.specs.Cell.{Cell, null, Cause}
use Rattle.col_types.specs.Column.{Column, is_table, row_at, row_count, table_row_count, types_of}
use Rattle.col_eval.specs.Tree.{Tree}
use Rattle.col_eval.specs.Meaning.{RowAnswer, cell, refused_at, RowsAnswer, all_cells, refusal}
use Rattle.col_eval.specs.Meaning.{in_front, gathered, row_meaning, rows_meaning, rows_of}
use Rattle.col_eval.specs.Meaning.{sooner}
use Rattle.col_eval.specs.Laws.{JoinsParts}
use Rattle.col_eval.specs.Split.{AreParts, joined, stacked}
use Rattle.col_eval.proofs.RowLemmas.{length-rows_of}

-- nothing above leaves what is below
joined-nothing : (below : RowsAnswer) → joined (all_cells []) below ≡ below
joined-nothing (all_cells cells) = refl
joined-nothing (refusal number cause) = refl

-- a cell in front leaves a refusal
in_front-choice : (x : Cell) (b : Bool) (k : ℕ) (c : Cause) (j : ℕ) (d : Cause)
    → in_front x (cond b (refusal k c) (refusal j d)) ≡ cond b (refusal k c) (refusal j d)
in_front-choice x true k c j d = refl
in_front-choice x false k c j d = refl

-- a cell in front of both parts stands in front of the upper one
joined-in_front : (x : Cell) (above below : RowsAnswer)
    → in_front x (joined above below) ≡ joined (in_front x above) below
joined-in_front x (all_cells cells) (all_cells more) = refl
joined-in_front x (all_cells cells) (refusal number cause) = refl
joined-in_front x (refusal k c) (all_cells more) = refl
joined-in_front x (refusal k c) (refusal j d) = in_front-choice x (nat_le k j) k c j d

-- a refusal above cells stands
joined-choice : (b : Bool) (k : ℕ) (c : Cause) (j : ℕ) (d : Cause) (cells : List Cell)
    → cond b (refusal k c) (refusal j d) ≡ joined (cond b (refusal k c) (refusal j d))
    (all_cells cells)
joined-choice true k c j d cells = refl
joined-choice false k c j d cells = refl

-- the soonest of three refusals
sooner-three : (i : ℕ) (b : Cause) (k : ℕ) (c : Cause) (j : ℕ) (d : Cause) (m n : Bool)
    → nat_le i k ≡ m → nat_le k j ≡ n
    → sooner i b (cond n (refusal k c) (refusal j d)) ≡ joined
    (cond m (refusal i b) (refusal k c)) (refusal j d)
sooner-three i b k c j d true true h g =
    let first = le-leb i k (leb-true i k h) in
    let last = le-leb i j (omega (arith, leb-true i k h, leb-true k j g)) in
    rw (first, last) refl
sooner-three i b k c j d true false h g = refl
sooner-three i b k c j d false true h g =
    rw (g, h) refl
sooner-three i b k c j d false false h g =
    let last = lt-leb i j (omega (arith, leb-false i k h, leb-false k j g)) in
    rw (g, last) refl

-- a refusal in front of both parts stands in front of the upper one
joined-sooner : (i : ℕ) (b : Cause) (above below : RowsAnswer)
    → sooner i b (joined above below) ≡ joined (sooner i b above) below
joined-sooner i b (all_cells cells) (all_cells more) = refl
joined-sooner i b (all_cells cells) (refusal j d) = refl
joined-sooner i b (refusal k c) (all_cells more) = joined-choice (nat_le i k) i b k c more
joined-sooner i b (refusal k c) (refusal j d) =
    sooner-three i b k c j d (nat_le i k) (nat_le k j) refl refl

-- rows above others give what both give, joined
gathered-append : (rows below : List RowAnswer)
    → gathered (rows ++ below) ≡ joined (gathered rows) (gathered below)
gathered-append [] below = sym (joined-nothing (gathered below))
gathered-append (cell c ∷ rows) below =
    ap (in_front c) (gathered-append rows below)
    ∙ joined-in_front c (gathered rows) (gathered below)
gathered-append (refused_at number cause ∷ rows) below =
    ap (sooner number cause) (gathered-append rows below)
    ∙ joined-sooner number cause (gathered rows) (gathered below)

-- each column has so many rows
abbrev HaveRows : ℕ → List Column → Type 0
HaveRows count table = list_all (λ c. row_count c == count) table ≡ true

-- the first column, and the others
first_column : (count : ℕ) (c : Column) (table : List Column) → HaveRows count (c ∷ table)
    → (row_count c ≡ count) × HaveRows count table
first_column count c table h =
    let parts = and_parts (row_count c == count) (list_all (λ d. row_count d == count) table) h in
    (eqb-true (row_count c) count parts.0, parts.1)

-- the types are those of the upper part
types_of-stacked : (upper lower : List Column) → types_of upper ≡ types_of lower
    → types_of (stacked upper lower) ≡ types_of upper
types_of-stacked [] lower h = refl
types_of-stacked (c ∷ upper) [] h = absurd cc
types_of-stacked (c ∷ upper) (d ∷ lower) h =
    let rest : types_of upper ≡ types_of lower = cc in
    rw (types_of-stacked upper lower rest) refl

-- a row of the upper part
row_at-upper : (upper lower : List Column) (count row : ℕ) → types_of upper ≡ types_of lower
    → HaveRows count upper → row < count → row_at (stacked upper lower) row ≡ row_at upper row
row_at-upper [] lower count row h all below = refl
row_at-upper (c ∷ upper) [] count row h all below = absurd cc
row_at-upper (c ∷ upper) (d ∷ lower) count row h all below =
    let rest : types_of upper ≡ types_of lower = cc in
    let first = first_column count c upper all in
    rw (
      get_or_append_left c.cells d.cells null row (omega (arith, first.0)),
      row_at-upper upper lower count row rest first.1 below,
    )
    refl

-- a row of the lower part
row_at-lower : (upper lower : List Column) (count row : ℕ) → types_of upper ≡ types_of lower
    → HaveRows count upper → count ≤ row
    → row_at (stacked upper lower) row ≡ row_at lower (row - count)
row_at-lower [] [] count row h all above = refl
row_at-lower [] (d ∷ lower) count row h all above = absurd cc
row_at-lower (c ∷ upper) [] count row h all above = absurd cc
row_at-lower (c ∷ upper) (d ∷ lower) count row h all above =
    let rest : types_of upper ≡ types_of lower = cc in
    let first = first_column count c upper all in
    rw (
      get_or-append_right c.cells d.cells count row null first.0 above,
      row_at-lower upper lower count row rest first.1 above,
    )
    refl

-- the rows are those of both parts
table_row_count-stacked : (upper lower : List Column) → types_of upper ≡ types_of lower
    → table_row_count (stacked upper lower) ≡ table_row_count upper + table_row_count lower
table_row_count-stacked [] [] h = refl
table_row_count-stacked [] (d ∷ lower) h = absurd cc
table_row_count-stacked (c ∷ upper) [] h = absurd cc
table_row_count-stacked (c ∷ upper) (d ∷ lower) h = length-append c.cells d.cells

-- a row of a table
get_or-rows_of : (table : List Column) (row : ℕ) → row < table_row_count table
    → get_or (rows_of table) row [] ≡ row_at table row
get_or-rows_of table row h =
    get_or-map-range_with_len (row_at table) 0 (table_row_count table) row row [] h (omega arith)

-- the upper part's rows and then the lower one's
rows_of-stacked : (upper lower : List Column) → AreParts upper lower
    → rows_of (stacked upper lower) ≡ rows_of upper ++ rows_of lower
rows_of-stacked upper lower parts =
    let count = table_row_count upper in
    let rows = rows_of upper ++ rows_of lower in
    let long : length rows ≡ table_row_count (stacked upper lower) =
    omega (
      arith,
      length-append (rows_of upper) (rows_of lower),
      length-rows_of upper,
      length-rows_of lower,
      table_row_count-stacked upper lower parts.types,
    ) in
    sym (fill_by_all (row_at (stacked upper lower)) rows
    (table_row_count (stacked upper lower)) [] long
    (λ row below. elim (cases_lt row count) [
      | inl upper_row ↦ get_or_append_left (rows_of upper) (rows_of lower) [] row
          (omega (arith, length-rows_of upper)) ∙ get_or-rows_of upper row upper_row
          ∙ sym (row_at-upper upper lower count row parts.types parts.upper_table upper_row)
      | inr lower_row ↦ get_or-append_right (rows_of upper) (rows_of lower) count row []
          (length-rows_of upper) lower_row
          ∙ get_or-rows_of lower (row - count)
          (omega (arith, table_row_count-stacked upper lower parts.types))
          ∙ sym (row_at-lower upper lower count row parts.types parts.upper_table lower_row)
    ]))

-- the columns of both parts have the rows of both
have_rows-stacked : (upper lower : List Column) (n m : ℕ) → types_of upper ≡ types_of lower
    → HaveRows n upper → HaveRows m lower → HaveRows (n + m) (stacked upper lower)
have_rows-stacked [] lower n m h hu hl = refl
have_rows-stacked (c ∷ upper) [] n m h hu hl = absurd cc
have_rows-stacked (c ∷ upper) (d ∷ lower) n m h hu hl =
    let rest : types_of upper ≡ types_of lower = cc in
    let first = first_column n c upper hu in
    let second = first_column m d lower hl in
    let long = eq-eqb (length (c.cells ++ d.cells)) (n + m)
    (omega (arith, length-append c.cells d.cells, first.0, second.0)) in
    rw (long, have_rows-stacked upper lower n m rest first.1 second.1) refl

-- both parts are a table
is_table-stacked : (upper lower : List Column) → AreParts upper lower
    → IsTrue (is_table (stacked upper lower))
is_table-stacked upper lower parts =
    rw (table_row_count-stacked upper lower parts.types)
    (have_rows-stacked upper lower (table_row_count upper) (table_row_count lower) parts.types
    parts.upper_table parts.lower_table)

-- what a tree gives for all rows of a table in two parts
rows_meaning-stacked : (tree : Tree) (upper lower : List Column) → AreParts upper lower
    → rows_meaning tree (stacked upper lower) ≡ joined (rows_meaning tree upper)
    (rows_meaning tree lower)
rows_meaning-stacked tree upper lower parts =
    rw (
      types_of-stacked upper lower parts.types,
      rows_of-stacked upper lower parts,
      map-append (row_meaning tree (types_of upper)) (rows_of upper) (rows_of lower),
      gathered-append (map (row_meaning tree (types_of upper)) (rows_of upper))
          (map (row_meaning tree (types_of upper)) (rows_of lower)),
      ← parts.types,
    )
    refl

-- two parts join
pub joins_parts : (tree : Tree) (upper lower : List Column) → AreParts upper lower
    → JoinsParts tree upper lower
joins_parts tree upper lower parts = record {
  table = is_table-stacked upper lower parts;
  types = types_of-stacked upper lower parts.types;
  rows = rows_meaning-stacked tree upper lower parts;
  outcome = rw (
    rows_meaning-stacked tree upper lower parts,
    types_of-stacked upper lower parts.types,
  ) refl;
}
