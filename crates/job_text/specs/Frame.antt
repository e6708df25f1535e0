-- A station by its key and its frames.
use Rattle.std.specs.Prelude.{ℕ, List, []}
use Rattle.job_text.specs.declared.frame.Frame.{Frame}
use Rattle.job_text.specs.Job.{StationFields}

-- a station of which no line says more
abbrev pub bare : List ℕ → Frame → StationFields
bare key frame = record {
  key = key;
  id = frame.id;
  bits = frame.bits;
  chans_log2 = frame.chans_log2;
  frame_bytes = frame.frame_bytes;
  legacy = frame.legacy;
  files = [];
  chans = [];
  clocks = [];
  polys = [];
}
