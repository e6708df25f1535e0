use Rattle.std.proofs.Common.{◌+◌, Option}
use Rattle.dev_traits.specs.Told.{WhereTold}
use Rattle.frame_index.specs.Recording.{Shelved}
use Rattle.station_stream.specs.Filled.{IsBlank}
use Rattle.station_stream.specs.Swept.{AreSwept}
use Rattle.station_stream.proofs.SweptLemmas.{AreThere}
use Rattle.station_stream.proofs.swept.fill_swept.Given as goal

abbrev pub invariant-loop-threads : goal.invariant-loop-threads
invariant-loop-threads l = record {
  blank : IsBlank l.part l.window l.codes;
  there : (told : Option Shelved) → AreSwept told l.part l.window.from (l.window.from + l.window.count) l.sweeps
      → WhereTold told (λ c. AreThere c l.part l.chan l.window l.sweeps l.threads-index l.codes);
}
