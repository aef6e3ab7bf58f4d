-- A sink in memory: how it stands, and what a write answers and changes.
use Rattle.std.specs.Prelude.{ℕ, ◌-◌, ◌==◌, min, max, Bool, nat_lt, ◌||◌, ◌&&◌, List, []}
use Rattle.std.specs.Prelude.{◌++◌, length, take, Result, Ok, Err, if◌then◌else◌}
use Rattle.col_run.specs.declared.source.Failed.{Failed}
use Rattle.col_run.specs.Streams.{is_failing_call, raised_count}

-- how a sink in memory stands
pub record SinkState : Type 0 where
  pub written : List ℕ
  -- how many bytes it still takes
  pub room : ℕ
  -- the most bytes that a call moves
  pub step : ℕ
  -- the numbers of the calls that fail
  pub fails : List ℕ
  -- the number of the next call
  pub calls : ℕ
  pub faults : ℕ

-- before the first call
abbrev pub first_state : ℕ → ℕ → List ℕ → SinkState
first_state room step fails =
    record { written = []; room = room; step = max step 1; fails = fails; calls = 0; faults = 0 }

-- whether the next call fails, where its piece has so many bytes
abbrev pub is_failing : SinkState → ℕ → Bool
is_failing s count = is_failing_call s.fails s.calls || (nat_lt 0 count && (s.room == 0))

-- how many of so many bytes a call moves, where it does not fail
abbrev pub moved_count : SinkState → ℕ → ℕ
moved_count s count = min (min count s.step) s.room

-- what a write of the piece answers
abbrev pub write_answer : SinkState → List ℕ → Result ℕ Failed
write_answer s piece =
    if is_failing s (length piece) then Err (record {}) else Ok (moved_count s (length piece))

-- how a write of the piece leaves the sink
abbrev pub state_after : SinkState → List ℕ → SinkState
state_after s piece =
    if is_failing s (length piece)
    then record s { calls = raised_count s.calls 1; faults = raised_count s.faults 1 }
    else record s {
      calls = raised_count s.calls 1;
      written = s.written ++ take (moved_count s (length piece)) piece;
      room = s.room - moved_count s (length piece);
    }
