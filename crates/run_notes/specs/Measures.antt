-- The names of what has a greatest value.
use Rattle.std.specs.Prelude.{ℕ, List, codes}
use Rattle.job_join.specs.KindName.{quantity_name}
use Rattle.run_notes.specs.declared.measure.Measure.{Measure}
use Rattle.run_notes.specs.declared.measure.Measure.TheVariants.{Job, Certificate, Amplitude, Phase, BinCells, Shard}

abbrev pub measure_name : Measure → List ℕ
measure_name (Job quantity) = quantity_name quantity
measure_name Certificate = codes "certificate"
measure_name Amplitude = codes "amplitude"
measure_name Phase = codes "phase"
measure_name BinCells = codes "bincells"
measure_name Shard = codes "shard"
