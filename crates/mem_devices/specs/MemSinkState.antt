-- What a sink in memory shows.
use Rattle.std.specs.Prelude.{ℕ, List, ◌++◌, Bool, false}
use Rattle.mem_devices.specs.Plan.{fails_at, next_count}

-- What was appended; the most bytes that one write takes; the numbers of the writes that fail; the
-- number of the next write; the count of faults; whether the last write failed for want of memory.
pub record MemSinkState : Type 0 where
  pub bytes : List ℕ
  pub most : ℕ
  pub failing : List ℕ
  pub calls : ℕ
  pub faults : ℕ
  pub refused : Bool

-- whether the next write is listed to fail
abbrev pub fails_next : MemSinkState → Bool
fails_next sink = fails_at sink.failing sink.calls

-- the sink after a write that took these bytes
abbrev pub after_taking : MemSinkState → List ℕ → MemSinkState
after_taking sink taken =
    record sink { bytes = sink.bytes ++ taken; calls = next_count sink.calls; refused = false }

-- the sink after a write that failed, for want of memory or not
abbrev pub after_failing : MemSinkState → Bool → MemSinkState
after_failing sink refused =
    record sink { calls = next_count sink.calls; faults = next_count sink.faults; refused = refused }
