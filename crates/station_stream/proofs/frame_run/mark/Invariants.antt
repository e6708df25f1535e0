use Rattle.std.proofs.Common.{◌≡◌, ℕ, ◌+◌, ◌<◌, false, get_or}
use Rattle.station_stream.proofs.frame_run.mark.Given as goal

abbrev pub invariant-loop-k : goal.invariant-loop-k
invariant-loop-k l = record {
  before : (j : ℕ) → j < l.i → get_or l.there j false ≡ get_or l.initial.there j false;
  marked : (j : ℕ) → j < l.k → get_or l.there (l.i + j) false ≡ l.is_there;
}
