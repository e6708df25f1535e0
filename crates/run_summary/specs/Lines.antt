-- Lines of stations on their way to a sink.
use Rattle.std.specs.Prelude.{◌≡◌, ℕ, List, Option}
use Rattle.sink_text.specs.Written.{StretchState, Puts}
use Rattle.corr_model.specs.Files.{Files}
use Rattle.job_plan.specs.declared.plan.StationPlan.{StationPlan}
use Rattle.station_stream.specs.declared.recording.Recording.{Recording}
use Rattle.station_stream.specs.Recorded.{AreRecorded}

-- a text is put, and where the recordings are those of the files it is the one that these lines have there
pub record PutsLines (stations : List StationPlan) (recordings : List Recording) (lines : Files → List ℕ)
    (old new : StretchState) (told_old told_new : Option (List ℕ)) (faults_old faults_new : ℕ) : Type 0 where
  pub text : List ℕ
  pub puts : Puts text old new told_old told_new faults_old faults_new
  pub same : (files : Files) → AreRecorded files stations recordings → text ≡ lines files
