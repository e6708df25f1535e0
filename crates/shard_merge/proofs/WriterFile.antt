-- The answer of a call that wrote the record file of shards.
use Rattle.std.specs.Prelude.{IfErr}
use Rattle.std.proofs.Common.{◌≡◌, sym, refl, subst, ℕ, List, Option, Some, None, Result, Ok, Err}
use Rattle.dev_traits.specs.Told.{WhereTold}
use Rattle.dev_traits.specs.declared.Failed.{Failed}
use Rattle.dev_traits.proofs.Appended.{PrefixMore-none}
use Rattle.corr_model.specs.Files.{Files}
use Rattle.corr_model.specs.Records.{Head, vis_text}
use Rattle.piece_plan.specs.Epochs.{JobSizes}
use Rattle.job_plan.specs.declared.plan.Plan.{Plan}
use Rattle.job_plan.specs.Output.{head_of}
use Rattle.job_epochs.specs.Sizes.{sizes_of}
use Rattle.journal_image.specs.Image.{KeptEpoch}
use Rattle.vis_writer.specs.declared.fault.WriteFault.{WriteFault}
use Rattle.vis_writer.specs.declared.fault.WriteFault.TheVariants.{Source, Sink}
use Rattle.vis_writer.specs.Cells.{all_cells}
use Rattle.vis_writer.specs.Writes.{Appended, SinkCounts, SourceGoes, Writes}
use Rattle.vis_writer.proofs.WritesLemmas.{where_always}
use Rattle.shard_merge.specs.declared.shard.Shard.{Shard}
use Rattle.shard_merge.specs.declared.fault.OutputFault.{OutputFault}
use Rattle.shard_merge.specs.declared.fault.OutputFault.TheVariants.{Memory}
use Rattle.shard_merge.specs.Merged.{merged, merged_cells}
use Rattle.shard_merge.specs.Reading.{AreReadFrom}
use Rattle.shard_merge.specs.Output.{IsUnwritten, CountsOutputReads, CountsOutputWrites}
use Rattle.shard_merge.specs.Writing.{Stays, Fails, Tells, WritesMerged, head_by, cells_by, answer_of}
use Rattle.shard_merge.proofs.WriterSizes.{merged-is}

-- an answer for the same part of the text
answered : (old new : Option (List ℕ)) (text : List ℕ) (r : Result (Unit {0}) (WriteFault Failed)) → Appended old text new r → Appended old text new (answer_of r)
answered old new text (Ok x) a = record { all = a.all; part = tt }
answered old new text (Err fault) a = record { all = tt; part = a.part }

module _ {F : Type 0} (told : F → Option Files) (count : F → ℕ) (head : Head) (job : JobSizes) (shards : List Shard) (old new : F)
    (out out' : Option (List ℕ)) (faults faults' : ℕ) (result : Result (Unit {0}) (WriteFault Failed))
    (h : WritesMerged told count head job shards (λ of. vis_text head (all_cells head of)) old new out out' faults faults' result) where
  one : Writes (head_by head) (cells_by job None) (Stays told count) (Fails told count) (λ of. vis_text head (all_cells head of)) old new out out' faults faults' result
  one = h.at None tt

  pub file-same : told new ≡ told old
  file-same = by result one.goes
    where
      by : (r : Result (Unit {0}) (WriteFault Failed)) → SourceGoes (Stays told count) (Fails told count) old new r → told new ≡ told old
      by (Ok x) goes = goes.same
      by (Err (Source fault)) goes = goes.same
      by (Err Sink) goes = goes.same

  pub file-reads : CountsOutputReads (count old) (count new) (answer_of result)
  file-reads = by result one.goes
    where
      by : (r : Result (Unit {0}) (WriteFault Failed)) → SourceGoes (Stays told count) (Fails told count) old new r
          → CountsOutputReads (count old) (count new) (answer_of r)
      by (Ok x) goes = goes.count_stays
      by (Err (Source fault)) goes = goes.risen
      by (Err Sink) goes = goes.count_stays

  pub file-writes : CountsOutputWrites faults faults' (answer_of result)
  file-writes = by result one.counts
    where
      by : (r : Result (Unit {0}) (WriteFault Failed)) → SinkCounts faults faults' r → CountsOutputWrites faults faults' (answer_of r)
      by (Ok x) counts = counts
      by (Err (Source fault)) counts = counts
      by (Err Sink) counts = counts.0

  pub file-unwritten : IfErr (answer_of result) (IsUnwritten out out')
  file-unwritten = by result
    where
      by : (r : Result (Unit {0}) (WriteFault Failed)) → IfErr (answer_of r) (IsUnwritten out out')
      by (Ok x) = tt
      by (Err (Source fault)) = tt
      by (Err Sink) = tt

  pub file-written : (plan : Plan) → job ≡ sizes_of plan → head ≡ head_of plan
      → WhereTold (told old) (λ files. (id : List ℕ) (keeps : List (List KeptEpoch)) → AreReadFrom files id job shards keeps
      → Appended out (merged plan keeps) out' (answer_of result))
  file-written plan cut is = by (told old) refl
    where
      by : (o : Option Files) → told old ≡ o
          → WhereTold o (λ files. (id : List ℕ) (keeps : List (List KeptEpoch)) → AreReadFrom files id job shards keeps
          → Appended out (merged plan keeps) out' (answer_of result))
      by None shown = tt
      by (Some files) shown = λ id keeps read.
          let tells : Tells told job shards keeps old = record { files = files; there = shown; id = id; read = read } in
          let text : Appended out (vis_text head (all_cells head (merged_cells job keeps))) out' result = (h.at (Some keeps) tells).appended in
          subst (λ (t : List ℕ). Appended out t out' (answer_of result)) (merged-is plan job head keeps cut is)
          (answered out out' (vis_text head (all_cells head (merged_cells job keeps))) result text)

-- before the first byte
pub file-refused : (plan : Plan) (job : JobSizes) (shards : List Shard) (files : Option Files) (out : Option (List ℕ)) (result : Result (Unit {0}) OutputFault)
    → result ≡ Err Memory
    → WhereTold files (λ files. (id : List ℕ) (keeps : List (List KeptEpoch)) → AreReadFrom files id job shards keeps → Appended out (merged plan keeps) out result)
file-refused plan job shards files out result is =
    where_always files (λ files. (id : List ℕ) (keeps : List (List KeptEpoch)) → AreReadFrom files id job shards keeps → Appended out (merged plan keeps) out result)
    (λ files id keeps read. subst (λ (r : Result (Unit {0}) OutputFault). Appended out (merged plan keeps) out r) (sym is)
    (record { all = tt; part = PrefixMore-none out out (merged plan keeps) refl }))
