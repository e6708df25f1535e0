-- The record file of a plan, written integration by integration from a shelf.
use Rattle.std.specs.Prelude.{option_map, slice_get, IfErr}
use Rattle.std.proofs.Common.{◌≡◌, ℕ, List, Option, Some, None, Result, Ok, Err, refl, sym, ap, subst, ◌∙◌}
use Rattle.dev_traits.specs.Told.{WhereTold}
use Rattle.sink_text.specs.Appends.{Appends}
use Rattle.corr_model.specs.declared.cell.Cell.{Cell}
use Rattle.corr_model.specs.Files.{Files}
use Rattle.corr_model.specs.Records.{Head, vis_text}
use Rattle.job_plan.specs.declared.plan.ScanPlan.{ScanPlan}
use Rattle.job_plan.specs.declared.plan.Plan.{Plan}
use Rattle.job_plan.specs.Values.{rotated}
use Rattle.job_plan.specs.Output.{head_of, integration_cells, output}
use Rattle.station_stream.specs.declared.fault.StreamFault.{StreamFault}
use Rattle.station_stream.specs.declared.fault.StreamFault.TheVariants.{Read, Memory}
use Rattle.station_stream.specs.Faults.{CountsFault}
use Rattle.vis_records.specs.declared.writer.SinkFault.{SinkFault}
use Rattle.vis_writer.specs.declared.fault.WriteFault.{WriteFault}
use Rattle.vis_writer.specs.declared.fault.WriteFault.TheVariants.{Source, Sink}
use Rattle.vis_writer.specs.Cells.{CellsOf, IsFull, all_cells}
use Rattle.vis_writer.specs.PlanCells.{cells_from}
use Rattle.vis_writer.specs.Texts.{integration_at}
use Rattle.vis_writer.specs.Writes.{Composes, Writes, Appended, SinkCounts, SourceGoes, of_sink}
use Rattle.vis_writer.proofs.PlanCounts.{plan_full, cells-at}
use Rattle.vis_writer.proofs.PlanText.{output-numbered}
use Rattle.vis_writer.proofs.WritesLemmas.{Writes-same, Writes-sunk, Writes-failed}
use Rattle.run_notes.specs.Commands.{IsOfOutput}
use Rattle.run_notes.specs.Counted.{CountsReads, CountsWrites}
use Rattle.vlbi_core.specs.Shelf.{ShelfState, state, head_at, cells_at, stays, fails}
use Rattle.vlbi_core.specs.Faults.{answer_with}

pub stays-composes : Composes {C = ShelfState} {F = StreamFault} stays fails
stays-composes = record {
  none = λ source. refl;
  both = λ old mid new first second. second ∙ first;
  last = λ old mid new fault first second. subst (λ (s : ShelfState). fails s new fault) first second;
}

pub shelf-full : (plan : Plan) (told : Option Files) (faults : ℕ) → WhereTold (cells_at plan (state told faults)) (IsFull (head_of plan))
shelf-full plan None faults = tt
shelf-full plan (Some files) faults = plan_full plan (rotated plan files)

-- the records of an integration, whose cells were summed
pub Writes-summed : (plan : Plan) (told told' : Option Files) (faults faults' : ℕ) (head : Head) (number m : ℕ) (scan : ScanPlan) (cells : List Cell)
    (old new : Option (List ℕ)) (before now : ℕ) (written : Result (Unit {0}) SinkFault)
    → slice_get plan.scans number ≡ Some scan → told' ≡ told → faults' ≡ faults
    → WhereTold told (λ files. cells ≡ integration_cells plan (rotated plan files scan) scan m)
    → Appends old new (integration_at head number m cells) before now written
    → Writes (head_at plan) (cells_at plan) stays fails (λ of. integration_at head number m (of number m)) (state told faults) (state told' faults') old new before now (of_sink written)
Writes-summed plan told told' faults faults' head number m scan cells old new before now written there same kept summed appends =
    subst
    (λ (s : ShelfState). Writes (head_at plan) (cells_at plan) stays fails (λ of. integration_at head number m (of number m)) (state told faults) s old new before now (of_sink written))
    whole
    (Writes-same (head_at plan) (cells_at plan) stays fails stays-composes (λ of. integration_at head number m cells) (λ of. integration_at head number m (of number m))
    (state told faults) (state told faults) old new before now (by told summed)
    (Writes-sunk (head_at plan) (cells_at plan) stays fails stays-composes written (integration_at head number m cells) (state told faults) old new before now appends))
  where
    whole : state told faults ≡ state told' faults'
    whole = λ i. state (sym same i) (sym kept i)

    by : (o : Option Files) → WhereTold o (λ files. cells ≡ integration_cells plan (rotated plan files scan) scan m)
        → WhereTold (option_map (cells_from plan) o) (λ of. integration_at head number m cells ≡ integration_at head number m (of number m))
    by None is = tt
    by (Some files) is = ap (integration_at head number m) (is ∙ sym (cells-at plan (rotated plan files) number m scan there))

-- nothing, where they could not be read
pub Writes-unread : (plan : Plan) (told told' : Option Files) (faults faults' : ℕ) (text : CellsOf → List ℕ) (old : Option (List ℕ)) (before : ℕ) (fault : StreamFault)
    → told' ≡ told → CountsFault faults faults' fault
    → Writes {T = Unit {0}} (head_at plan) (cells_at plan) stays fails text (state told faults) (state told' faults') old old before before (Err (Source fault))
Writes-unread plan told told' faults faults' text old before fault same cause =
    Writes-failed (head_at plan) (cells_at plan) stays fails stays-composes fault text (state told faults) (state told' faults') old before
    (same, cause) refl (ap (option_map (cells_from plan)) same)

-- ---- what a whole file says of the call that answers for it

module _ (plan : Plan) (told told' : Option Files) (faults faults' : ℕ) (head : Head) (is : head ≡ head_of plan) (old new : Option (List ℕ)) (before now : ℕ)
    (result : Result (Unit {0}) (WriteFault StreamFault))
    (h : Writes (head_at plan) (cells_at plan) stays fails (λ of. vis_text head (all_cells head of)) (state told faults) (state told' faults') old new before now result) where
  pub file-same : told' ≡ told
  file-same = by result h.goes
    where
      by : (r : Result (Unit {0}) (WriteFault StreamFault)) → SourceGoes stays fails (state told faults) (state told' faults') r → told' ≡ told
      by (Ok x) goes = ap (λ (s : ShelfState). s.told) goes
      by (Err Sink) goes = ap (λ (s : ShelfState). s.told) goes
      by (Err (Source fault)) goes = goes.0

  pub file-written : WhereTold told (λ files. Appended old (output plan files) new (answer_with result))
  file-written = by told h.appended
    where
      other : (t : List ℕ) → Appended old t new result → Appended old t new (answer_with result)
      other t a = at result a
        where
          at : (r : Result (Unit {0}) (WriteFault StreamFault)) → Appended old t new r → Appended old t new (answer_with r)
          at (Ok x) a = record { all = a.all; part = tt }
          at (Err fault) a = record { all = tt; part = a.part }

      by : (o : Option Files) → WhereTold (option_map (cells_from plan) o) (λ of. Appended old (vis_text head (all_cells head of)) new result)
          → WhereTold o (λ files. Appended old (output plan files) new (answer_with result))
      by None a = tt
      by (Some files) a =
          subst (λ (t : List ℕ). Appended old t new (answer_with result))
          (ap (λ (h : Head). vis_text h (all_cells h (cells_from plan files))) is ∙ output-numbered plan files)
          (other (vis_text head (all_cells head (cells_from plan files))) a)

  pub file-stage : IfErr (answer_with result) IsOfOutput
  file-stage = by result
    where
      by : (r : Result (Unit {0}) (WriteFault StreamFault)) → IfErr (answer_with r) IsOfOutput
      by (Ok x) = tt
      by (Err Sink) = tt
      by (Err (Source Read)) = tt
      by (Err (Source Memory)) = tt

  pub file-reads : CountsReads faults faults' (answer_with result)
  file-reads = by result h.goes
    where
      by : (r : Result (Unit {0}) (WriteFault StreamFault)) → SourceGoes stays fails (state told faults) (state told' faults') r → CountsReads faults faults' (answer_with r)
      by (Ok x) goes = ap (λ (s : ShelfState). s.faults) goes
      by (Err Sink) goes = ap (λ (s : ShelfState). s.faults) goes
      by (Err (Source Read)) goes = goes.1
      by (Err (Source Memory)) goes = goes.1

  pub file-writes : CountsWrites before now (answer_with result)
  file-writes = by result h.counts
    where
      by : (r : Result (Unit {0}) (WriteFault StreamFault)) → SinkCounts before now r → CountsWrites before now (answer_with r)
      by (Ok x) counts = counts
      by (Err Sink) counts = counts.0
      by (Err (Source Read)) counts = counts
      by (Err (Source Memory)) counts = counts
