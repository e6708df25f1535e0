-- Calls that read from a shelf and append a text to a sink.
use Rattle.std.specs.Prelude.{◌≡◌, ℕ, List, [], Option, Result, Ok, Err, IfErr, slice_get}
use Rattle.std.specs.Option.{option_map_or}
use Rattle.dev_traits.specs.Told.{WhereTold}
use Rattle.corr_model.specs.Files.{Files}
use Rattle.job_plan.specs.declared.plan.ScanPlan.{ScanPlan}
use Rattle.bin_sums.specs.declared.ahead.BinsAhead.{BinsAhead}
use Rattle.bin_sums.specs.Ahead.{IsAheadOf}
use Rattle.station_stream.specs.Recorded.{AreRecorded}
use Rattle.station_stream.specs.declared.fault.StreamFault.{StreamFault}
use Rattle.station_stream.specs.declared.fault.StreamFault.TheVariants.{Read as StreamRead, Memory as StreamMemory}
use Rattle.vis_records.specs.declared.writer.SinkFault.{SinkFault}
use Rattle.vis_writer.specs.Writes.{Appended}
use Rattle.run_notes.specs.declared.refusal.Refusal.{Refusal}
use Rattle.run_notes.specs.declared.refusal.Refusal.TheVariants.{Memory, Read, Write}
use Rattle.run_notes.specs.Commands.{IsOfOutput}
use Rattle.run_notes.specs.Counted.{CountsReads, CountsWrites}
use Rattle.run_bins.specs.declared.job.BinJob.{BinJob}
use Rattle.run_bins.specs.Texts.{BinPlan, scan_text}

-- What the shelf tells and its count of faults before and now, the text by what the shelf tells, what the sink told before and tells
-- now and its count, and the answer: all of the text was appended, or a first part of it and a fault.
pub record WritesText {T : Type 0} (files files' : Option Files) (reads reads' : ℕ) (text : Files → List ℕ)
    (old new : Option (List ℕ)) (writes writes' : ℕ) (result : Result T Refusal) : Type 0 where
  pub same : files' ≡ files
  pub written : WhereTold files (λ told. Appended old (text told) new result)
  pub stage : IfErr result IsOfOutput
  pub read : CountsReads reads reads' result
  pub wrote : CountsWrites writes writes' result

-- a job that may be summed: its recordings, where the files are told, and what is read ahead of them
pub record IsReady (files : Option Files) (job : BinJob) (read : BinsAhead) : Type 0 where
  pub recorded : WhereTold files (λ told. AreRecorded told job.ready.plan.stations job.ready.recordings.items)
  pub ahead : IsAheadOf files job.ready read

-- the answer of a sink as that of the command
abbrev pub of_sink : {T : Type 0} → Result T SinkFault → Result T Refusal
of_sink (Ok x) = Ok x
of_sink (Err fault) = Err Write

-- the refusal of a fault of a stream
abbrev pub of_stream : StreamFault → Refusal
of_stream StreamRead = Read
of_stream StreamMemory = Memory

-- the records of the scan with a number, none past the last scan
abbrev pub scan_text_at : BinPlan → ℕ → Files → List ℕ
scan_text_at x number files = option_map_or (λ (scan : ScanPlan). scan_text x files (number, scan)) (slice_get x.plan.scans number) []
