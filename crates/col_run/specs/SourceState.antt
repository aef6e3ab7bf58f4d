-- A source in memory: how it stands, and what a read answers and changes.
use Rattle.std.specs.Prelude.{ℕ, min, max, List, ◌++◌, length, take, drop, Result, Ok, Err}
use Rattle.std.specs.Prelude.{if◌then◌else◌}
use Rattle.col_run.specs.declared.source.Failed.{Failed}
use Rattle.col_run.specs.Streams.{is_failing_call, raised_count}

-- how a source in memory stands
pub record SourceState : Type 0 where
  pub left : List ℕ
  -- the most bytes that a call moves
  pub step : ℕ
  -- the numbers of the calls that fail
  pub fails : List ℕ
  -- the number of the next call
  pub calls : ℕ
  pub faults : ℕ

-- before the first call
abbrev pub first_source : List ℕ → ℕ → List ℕ → SourceState
first_source bytes step fails =
    record { left = bytes; step = max step 1; fails = fails; calls = 0; faults = 0 }

-- a piece whose first bytes, so many of them, are the first that are left
abbrev pub filled : ℕ → List ℕ → List ℕ → List ℕ
filled count left piece = take count left ++ drop count piece

-- how many bytes a read of a piece of so many moves, where it does not fail
abbrev pub read_count : SourceState → ℕ → ℕ
read_count s count = min (min count s.step) (length s.left)

-- what a read of a piece of so many bytes answers
abbrev pub read_answer : SourceState → ℕ → Result ℕ Failed
read_answer s count =
    if is_failing_call s.fails s.calls then Err (record {}) else Ok (read_count s count)

-- how it leaves the source
abbrev pub source_after : SourceState → ℕ → SourceState
source_after s count =
    if is_failing_call s.fails s.calls
    then record s { calls = raised_count s.calls 1; faults = raised_count s.faults 1 }
    else record s { calls = raised_count s.calls 1; left = drop (read_count s count) s.left }

-- how it leaves the piece
abbrev pub piece_after : SourceState → List ℕ → List ℕ
piece_after s piece =
    if is_failing_call s.fails s.calls
    then piece
    else filled (read_count s (length piece)) s.left piece
