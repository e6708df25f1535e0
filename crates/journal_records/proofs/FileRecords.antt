-- The record file of a plan, from the journal that keeps its epochs.
use Rattle.std.specs.Prelude.{option_map}
use Rattle.std.proofs.Common.{◌≡◌, ◌∙◌, inr, sym, ap, refl, subst, ℕ, ◌%◌, ◌^◌, List, length, Option, Some, None, Result, Ok, Err}
use Rattle.dev_traits.specs.Told.{WhereTold}
use Rattle.dev_traits.proofs.Appended.{PrefixMore-none}
use Rattle.sink_text.specs.Appends.{Appends}
use Rattle.corr_model.specs.Records.{Head, vis_text, head_text, end_text, places_of}
use Rattle.piece_plan.specs.Epochs.{JobSizes}
use Rattle.piece_plan.specs.Order.{Place}
use Rattle.plan_places.specs.Places.{place_at}
use Rattle.job_plan.specs.declared.plan.Plan.{Plan}
use Rattle.job_plan.specs.Output.{head_of}
use Rattle.job_epochs.specs.Sizes.{sizes_of}
use Rattle.checkpoint_journal.specs.declared.fault.ReadFault.{ReadFault}
use Rattle.checkpoint_journal.specs.declared.fault.ReadFault.TheVariants.{Disk}
use Rattle.journal_image.specs.Image.{KeptEpoch, records, Keeps}
use Rattle.checkpoint_journal.specs.Standing.{JournalState, Knows}
use Rattle.vis_records.specs.declared.writer.SinkFault.{SinkFault}
use Rattle.vis_writer.specs.declared.fault.WriteFault.{WriteFault}
use Rattle.vis_writer.specs.declared.fault.WriteFault.TheVariants.{Source, Sink}
use Rattle.vis_writer.specs.Cells.{all_cells}
use Rattle.vis_writer.specs.Texts.{scans_text}
use Rattle.vis_writer.specs.Writes.{Appended, Writes, SinkCounts, SourceGoes, of_sink}
use Rattle.vis_writer.proofs.FileLemmas.{file-head, file-records, file-all}
use Rattle.vis_writer.proofs.WritesLemmas.{where_then}
use Rattle.journal_records.specs.declared.fault.EmitFault.{EmitFault}
use Rattle.journal_records.specs.declared.fault.EmitFault.TheVariants.{Memory}
use Rattle.journal_records.specs.Counted.{CountsJournal, CountsWrites}
use Rattle.journal_records.specs.Kept.{kept_cells, kept_text, Grows, WritesKept}
use Rattle.journal_records.specs.Answer.{answer_with}
use Rattle.journal_records.specs.Store.{Store, StandsAt, Tells, Stays, Fails, WritesCells, head_at, cells_on}
use Rattle.journal_records.proofs.GrowsLemmas.{grows-then, grows-cut, grows-sunk}
use Rattle.journal_records.proofs.StoreLemmas.{store-composes, store-full}

-- the head, the records and the end
module _ {D : Type 0} (seen : D → Option (List ℕ)) (moment : D → ℕ) (may_leave : D → ℕ → List ℕ → Type 0) (count : D → ℕ) (plan : Plan) (job : JobSizes)
    (due : Option Place) (head : Head) (is : head ≡ head_of plan) (old : Store D) where
  pub cells-head : {e : WriteFault ReadFault} {r : Result (Unit {0}) (WriteFault ReadFault)} (written : Result (Unit {0}) SinkFault)
      (told told' : Option (List ℕ)) (faults faults' : ℕ)
      → Appends told told' (head_text head) faults faults' written
      → Err e ≡ of_sink written
      → r ≡ Err e
      → WritesCells seen moment may_leave count plan job due (λ of. vis_text head (all_cells head of)) old old told told' faults faults' r
  cells-head written told told' faults faults' one failed same = record {
    at = λ c source.
        file-head (head_at plan) (cells_on c plan) (Stays seen moment may_leave count job) (Fails seen moment may_leave count job)
        (store-composes seen moment may_leave count plan job) head old (sym is) (store-full c plan old)
        written told told' faults faults' one failed same;
    grows =
        subst (λ (q : Result (Unit {0}) (WriteFault ReadFault)). Grows told told' q) (sym (same ∙ failed))
        (grows-sunk written (head_text head) told told' faults faults' one);
  }

  pub cells-records : {e : WriteFault ReadFault} {x : Unit {0}} {r : Result (Unit {0}) (WriteFault ReadFault)} (written : Result (Unit {0}) SinkFault) (new : Store D)
      (told told' told'' : Option (List ℕ)) (faults faults' faults'' : ℕ)
      → Appends told told' (head_text head) faults faults' written
      → Ok x ≡ of_sink {F = ReadFault} written
      → WritesCells {T = Unit {0}} seen moment may_leave count plan job due (λ of. scans_text head of) old new told' told'' faults' faults'' (Err e)
      → r ≡ Err e
      → WritesCells seen moment may_leave count plan job due (λ of. vis_text head (all_cells head of)) old new told told'' faults faults'' r
  cells-records {e = e} {x = x} written new told told' told'' faults faults' faults'' one done scans same = record {
    at = λ c source.
        file-records (head_at plan) (cells_on c plan) (Stays seen moment may_leave count job) (Fails seen moment may_leave count job)
        (store-composes seen moment may_leave count plan job) head old (sym is) (store-full c plan old)
        written new told told' told'' faults faults' faults'' one done (scans.at c source) same;
    grows =
        let begun : Grows {T = Unit {0}} {E = WriteFault ReadFault} told told' (Ok x) =
        subst (λ (q : Result (Unit {0}) (WriteFault ReadFault)). Grows told told' q) (sym done) (grows-sunk written (head_text head) told told' faults faults' one) in
        let both : Grows {T = Unit {0}} {E = WriteFault ReadFault} told told'' (Err e) = grows-then (Err e) told told' told'' begun scans.grows in
        grows-cut told told'' same both;
  }

  pub cells-all : {x y : Unit {0}} {r : Result (Unit {0}) (WriteFault ReadFault)} (written ended : Result (Unit {0}) SinkFault) (new : Store D) (n : ℕ)
      (told told' told'' told''' : Option (List ℕ)) (faults faults' faults'' faults''' : ℕ)
      → Appends told told' (head_text head) faults faults' written
      → Ok x ≡ of_sink {F = ReadFault} written
      → WritesCells {T = Unit {0}} seen moment may_leave count plan job due (λ of. scans_text head of) old new told' told'' faults' faults'' (Ok y)
      → n ≡ length (places_of head) % 2 ^ 64
      → Appends told'' told''' (end_text n) faults'' faults''' ended
      → r ≡ of_sink ended
      → WritesCells seen moment may_leave count plan job due (λ of. vis_text head (all_cells head of)) old new told told''' faults faults''' r
  cells-all {x = x} {y = y} written ended new n told told' told'' told''' faults faults' faults'' faults''' one done scans counted last same = record {
    at = λ c source.
        file-all (head_at plan) (cells_on c plan) (Stays seen moment may_leave count job) (Fails seen moment may_leave count job)
        (store-composes seen moment may_leave count plan job) head old (sym is) (store-full c plan old)
        written ended new n told told' told'' told''' faults faults' faults'' faults''' one done (scans.at c source) counted last same;
    grows =
        let begun : Grows {T = Unit {0}} {E = WriteFault ReadFault} told told' (Ok x) =
        subst (λ (q : Result (Unit {0}) (WriteFault ReadFault)). Grows told told' q) (sym done) (grows-sunk written (head_text head) told told' faults faults' one) in
        let records : Grows {T = Unit {0}} {E = WriteFault ReadFault} told told'' (Ok y) = grows-then (Ok y) told told' told'' begun scans.grows in
        subst (λ (q : Result (Unit {0}) (WriteFault ReadFault)). Grows told told''' q) (sym same)
        (grows-then (of_sink ended) told told'' told''' records (grows-sunk ended (end_text n) told'' told''' faults'' faults''' last));
  }

-- an answer for the same part of the text
answered : (kept : ℕ) (old new : Option (List ℕ)) (text : List ℕ) (r : Result (Unit {0}) (WriteFault ReadFault))
    → Appended old text new r → Appended old text new (answer_with kept r)
answered kept old new text (Ok x) a = record { all = a.all; part = tt }
answered kept old new text (Err fault) a = record { all = tt; part = a.part }

kept_text-is : (plan : Plan) (kept : List KeptEpoch) (head : Head) → head ≡ head_of plan
    → vis_text head (all_cells head (kept_cells plan kept)) ≡ kept_text plan kept
unfolding kept_text
kept_text-is plan kept head is = ap (λ (h : Head). vis_text h (all_cells h (kept_cells plan kept))) is

-- what a journal that stands on its disk keeps
keeps-known : (id : List ℕ) (job : JobSizes) (j : JournalState) (image : List ℕ) (k : Knows id job j image) → Keeps id job image (records k.reading.things)
keeps-known id job j image k = inr (k.reading, k.reads, refl)

-- before the first byte
pub kept-refused : (id : List ℕ) (plan : Plan) (job : JobSizes) (j : JournalState) (seen told : Option (List ℕ)) (result : Result (Unit {0}) EmitFault)
    → job ≡ sizes_of plan → result ≡ Err Memory
    → WhereTold seen (Knows id job j)
    → WhereTold seen (λ image. WritesKept id plan image told told result)
kept-refused id plan job j seen told result same is knows =
    where_then seen (Knows id job j) (λ image. WritesKept id plan image told told result)
    (λ image k. record {
      kept = records k.reading.things;
      keeps = subst (λ (s : JobSizes). Keeps id s image (records k.reading.things)) same (keeps-known id job j image k);
      appended =
          subst (λ (r : Result (Unit {0}) EmitFault). Appended told (kept_text plan (records k.reading.things)) told r) (sym is)
          (record { all = tt; part = PrefixMore-none told told (kept_text plan (records k.reading.things)) refl });
    }) knows

-- what a call that wrote the file answers for
module _ {D : Type 0} (seen : D → Option (List ℕ)) (moment : D → ℕ) (may_leave : D → ℕ → List ℕ → Type 0) (count : D → ℕ) (plan : Plan) (job : JobSizes)
    (due : Option Place) (head : Head) (old new : Store D) (told told' : Option (List ℕ)) (faults faults' : ℕ) (result : Result (Unit {0}) (WriteFault ReadFault))
    (h : WritesCells seen moment may_leave count plan job due (λ of. vis_text head (all_cells head of)) old new told told' faults faults' result) where
  one : Writes (head_at plan) (cells_on None plan) (Stays seen moment may_leave count job) (Fails seen moment may_leave count job)
      (λ of. vis_text head (all_cells head of)) old new told told' faults faults' result
  one = h.at None tt

  pub file-grows : (kept : ℕ) → Grows told told' (answer_with kept result)
  file-grows kept = (h.grows.0, answered kept told told' h.grows.0 result h.grows.1)

  pub file-journal : (kept : ℕ) → CountsJournal (count old.disk) (count new.disk) (answer_with kept result)
  file-journal kept = by result one.goes
    where
      by : (r : Result (Unit {0}) (WriteFault ReadFault))
          → SourceGoes (Stays seen moment may_leave count job) (Fails seen moment may_leave count job) old new r
          → CountsJournal (count old.disk) (count new.disk) (answer_with kept r)
      by (Ok x) goes = goes.count_stays
      by (Err (Source Disk)) goes = goes.risen
      by (Err Sink) goes = goes.count_stays

  pub file-writes : (kept : ℕ) → CountsWrites faults faults' (answer_with kept result)
  file-writes kept = by result one.counts
    where
      by : (r : Result (Unit {0}) (WriteFault ReadFault)) → SinkCounts faults faults' r
          → CountsWrites faults faults' (answer_with kept r)
      by (Ok x) counts = counts
      by (Err (Source Disk)) counts = counts
      by (Err Sink) counts = counts.0

  pub file-written : (kept : ℕ) → head ≡ head_of plan → job ≡ sizes_of plan → old.journal.end.next ≡ None
      → option_map place_at old.journal.here.next ≡ due
      → (id : List ℕ) → StandsAt seen moment may_leave job id old
      → WhereTold (seen old.disk) (λ image. WritesKept id plan image told told' (answer_with kept result))
  file-written kept is same covers first id stands = by (seen old.disk) refl stands.image
    where
      by : (o : Option (List ℕ)) → seen old.disk ≡ o → WhereTold o (Knows id job old.journal)
          → WhereTold o (λ image. WritesKept id plan image told told' (answer_with kept result))
      by None shown k = tt
      by (Some image) shown k =
          let all : List KeptEpoch = records k.reading.things in
          let keeps : Keeps id job image (records k.reading.things) = keeps-known id job old.journal image k in
          let tells : Tells seen moment may_leave job id (records k.reading.things) due old = record {
            stands = stands;
            covers = covers;
            image = image;
            told = shown;
            keeps = keeps;
            up_to = first;
          } in
          let text : Appended told (vis_text head (all_cells head (kept_cells plan (records k.reading.things)))) told' result =
          (h.at (Some (records k.reading.things)) (id, tells)).appended in
          record {
            kept = all;
            keeps = subst (λ (s : JobSizes). Keeps id s image (records k.reading.things)) same keeps;
            appended =
                subst (λ (t : List ℕ). Appended told t told' (answer_with kept result)) (kept_text-is plan (records k.reading.things) head is)
                (answered kept told told' (vis_text head (all_cells head (kept_cells plan (records k.reading.things)))) result text);
          }
