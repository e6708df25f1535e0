-- A journal on its disk as a source of the cells of a plan's records.
use Rattle.std.specs.Prelude.{slice_get, option_map, replicate, flat_map}
use Rattle.std.specs.Int.{div_ceil}
use Rattle.std.proofs.Common.{◌≡◌, ◌∙◌, sym, ap, refl, subst, ℕ, ◌+◌, ◌*◌, ◌<◌, ◌≤◌, List, [], ◌++◌, length, get_or, Option, Some, None, Result, Ok, Err, arith}
use Rattle.std.specs.List.{range_with_len}
use Rattle.std.specs.Option.{option_map_or}
use Rattle.std.proofs.lemmas.List.{length-replicate}
use Rattle.std.proofs.lemmas.Option.{slice_get-map, slice_get_within, slice_get_read, get_or_from_slice_get}
use Rattle.dev_traits.specs.Fault.{HasRisen}
use Rattle.dev_traits.specs.Told.{WhereTold}
use Rattle.sink_text.specs.Appends.{Appends}
use Rattle.corr_model.specs.declared.cell.Cell.{Cell}
use Rattle.corr_model.specs.Cell.{no_cell}
use Rattle.corr_model.specs.Records.{Head, HeadScan, records_text, product_places}
use Rattle.piece_plan.specs.declared.job.ScanSize.{ScanSize}
use Rattle.piece_plan.specs.declared.epoch.EpochPlan.{EpochPlan}
use Rattle.piece_plan.specs.Epochs.{JobSizes, IsEpoch, cell_count}
use Rattle.piece_plan.specs.Order.{Place}
use Rattle.plan_places.specs.Places.{place_at}
use Rattle.job_plan.specs.declared.plan.ScanPlan.{ScanPlan}
use Rattle.job_plan.specs.declared.plan.Plan.{Plan}
use Rattle.job_plan.specs.Ranges.{IsPlan, IsScanPlan}
use Rattle.job_plan.specs.Output.{head_of, head_scan, integrations_of}
use Rattle.job_epochs.specs.Sizes.{size_of, sizes_of}
use Rattle.job_epochs.specs.Added.{width_of}
use Rattle.journal_image.specs.Image.{Due, KeptEpoch}
use Rattle.checkpoint_journal.proofs.RunLemmas.{looks_none, looks_both}
use Rattle.checkpoint_journal.specs.declared.fault.ReadFault.{ReadFault}
use Rattle.checkpoint_journal.specs.declared.finding.Found.{Found}
use Rattle.checkpoint_journal.specs.Standing.{JournalState, Stands, StandsAtRest}
use Rattle.vis_records.specs.declared.writer.SinkFault.{SinkFault}
use Rattle.vis_writer.specs.declared.fault.WriteFault.{WriteFault}
use Rattle.vis_writer.specs.declared.fault.WriteFault.TheVariants.{Source, Sink}
use Rattle.vis_writer.specs.Cells as counts
use Rattle.vis_writer.specs.Cells.{CellsOf, IsFull, cells_at, widest}
use Rattle.vis_writer.specs.Texts.{integration_at, text_at}
use Rattle.vis_writer.specs.Writes.{Composes, Writes, SourceGoes, of_sink}
use Rattle.vis_writer.proofs.FileText.{text_at-some, widest-at}
use Rattle.vis_writer.proofs.PlanCounts.{scan-cells, scan-seen}
use Rattle.vis_writer.proofs.WritesLemmas.{where_always, Writes-none, Writes-then, Writes-same, Writes-sunk, Writes-filled, Writes-failed, Writes-next, Writes-cut}
use Rattle.journal_records.specs.Kept.{added_kept, kept_cells}
use Rattle.journal_records.specs.Places.{place_of_scan, place_of_integration}
use Rattle.journal_records.specs.Store.{Store, IsRoom, Tells, Reaches, Rests, Stays, Fails, IsSource, WritesCells, head_at, cells_on}
use Rattle.journal_records.proofs.GrowsLemmas.{grows-none, grows-failed, grows-then, grows-cut, grows-sunk}
use Rattle.journal_records.proofs.AddedLemmas.{length-added_kept}
use Rattle.journal_records.proofs.PlaceLemmas.{place_of_scan-first, place_of_integration-first, place_of_integration-last}

-- ---- the scans of a plan

-- a scan of a plan in its ranges
pub scan-IsScanPlan : (plan : Plan) (number : ℕ) (scan : ScanPlan) → IsPlan plan → slice_get plan.scans number ≡ Some scan
    → IsScanPlan plan scan
scan-IsScanPlan plan number scan is there =
    subst (IsScanPlan plan) (get_or_from_slice_get plan.scans number scan scan there) (is.scans number scan (slice_get_within plan.scans number scan there))

-- the scan's size, and how many integrations it has
size-at : (plan : Plan) (number : ℕ) (scan : ScanPlan) → slice_get plan.scans number ≡ Some scan
    → slice_get (sizes_of plan).scans number ≡ Some (size_of plan scan)
size-at plan number scan there = slice_get-map (size_of plan) plan.scans number ∙ ap (option_map (size_of plan)) there

pub size-cut : (plan : Plan) (job : JobSizes) (number : ℕ) (scan : ScanPlan) → job ≡ sizes_of plan → slice_get plan.scans number ≡ Some scan
    → slice_get job.scans number ≡ Some (size_of plan scan)
size-cut plan job number scan same there = ap (λ (j : JobSizes). slice_get j.scans number) same ∙ size-at plan number scan there

-- where it begins, and where the next one does
pub scan-first : (plan : Plan) (job : JobSizes) (number : ℕ) (scan : ScanPlan) → job ≡ sizes_of plan → slice_get plan.scans number ≡ Some scan
    → place_of_integration job number (size_of plan scan) 0 ≡ place_of_scan job number
scan-first plan job number scan same there = place_of_integration-first job number (size_of plan scan) (size-cut plan job number scan same there)

pub scan-last : (plan : Plan) (job : JobSizes) (number : ℕ) (scan : ScanPlan) → IsPlan plan → job ≡ sizes_of plan → slice_get plan.scans number ≡ Some scan
    → place_of_integration job number (size_of plan scan) (integrations_of plan scan) ≡ place_of_scan job (number + 1)
scan-last plan job number scan is same there =
    let long : job.integration ≡ plan.integration = ap (λ (j : JobSizes). j.integration) same in
    place_of_integration-last job number (size_of plan scan) (integrations_of plan scan) (omega (arith, long, is.some_integration))
    (ap (div_ceil scan.samples) (sym long))

-- ---- the cells of an integration

pub kept-at : (plan : Plan) (kept : List KeptEpoch) (number m : ℕ) (scan : ScanPlan) → slice_get plan.scans number ≡ Some scan
    → kept_cells plan kept number m ≡ added_kept number m (replicate (width_of plan scan) no_cell) kept
kept-at plan kept number m scan there =
    ap (λ (o : Option ScanPlan). option_map_or (λ (scan : ScanPlan). added_kept number m (replicate (width_of plan scan) no_cell) kept) o []) there

-- how many cells the head and the plan say that an integration has
pub width-at : (plan : Plan) (number : ℕ) (scan : ScanPlan) → slice_get plan.scans number ≡ Some scan
    → cells_at (head_of plan) number ≡ width_of plan scan
width-at plan number scan there = scan-cells plan number scan there ∙ omega arith

kept-full : (plan : Plan) (kept : List KeptEpoch) → IsFull (head_of plan) (kept_cells plan kept)
kept-full plan kept = λ number m inside. by number m (slice_get plan.scans number) refl
  where
    by : (number m : ℕ) (o : Option ScanPlan) → slice_get plan.scans number ≡ o
        → length (kept_cells plan kept number m) ≡ cells_at (head_of plan) number
    by number m (Some scan) there =
        ap length (kept-at plan kept number m scan there)
        ∙ length-added_kept number m (replicate (width_of plan scan) no_cell) kept
        ∙ length-replicate (width_of plan scan) no_cell
        ∙ sym (width-at plan number scan there)
    by number m None there =
        ap (λ (o : Option ScanPlan). length (option_map_or (λ (scan : ScanPlan). added_kept number m (replicate (width_of plan scan) no_cell) kept) o [])) there
        ∙ sym (ap (λ (o : Option HeadScan). option_map_or (counts.cells_of (head_of plan)) o 0)
        (slice_get-map head_scan plan.scans number ∙ ap (option_map head_scan) there))

pub store-full : {D : Type 0} (kept : Option (List KeptEpoch)) (plan : Plan) (s : Store D)
    → WhereTold (cells_on kept plan s) (IsFull (head_of plan))
store-full None plan s = tt
store-full (Some kept) plan s = kept-full plan kept

-- ---- a journal that goes back to its first epoch

pub stands-again : (id : List ℕ) (job : JobSizes) (old new : JournalState) (seen : Option (List ℕ)) (images : List ℕ → Type 0)
    → ((id : List ℕ) (job : JobSizes) (seen : Option (List ℕ)) → StandsAtRest id job old seen → StandsAtRest id job new seen)
    → Stands id job old seen images → Stands id job new seen images
stands-again id job old new seen images again s =
    let at_rest : StandsAtRest id job old seen = record {
      sound = s.sound;
      named = s.named;
      plan = s.plan;
      first = s.first;
      version = s.version;
      places = s.places;
      turned = s.turned;
      within = s.within;
      before = s.before;
      image = s.image;
      durable = λ image is. is;
    } in
    let r = again id job seen at_rest in
    record {
      sound = r.sound;
      named = r.named;
      plan = r.plan;
      first = r.first;
      version = r.version;
      places = r.places;
      turned = r.turned;
      within = r.within;
      before = r.before;
      image = r.image;
      durable = s.durable;
    }

pub first-place : (id : List ℕ) (job : JobSizes) (j : JournalState) (seen : Option (List ℕ)) (images : List ℕ → Type 0) → Stands id job j seen images
    → option_map place_at j.first.next ≡ place_of_scan job 0
first-place id job j seen images s = ap (λ (d : Due). d.place) s.first.due ∙ sym (place_of_scan-first job)

-- ---- calls one after another

module _ {D : Type 0} (seen : D → Option (List ℕ)) (moment : D → ℕ) (may_leave : D → ℕ → List ℕ → Type 0) (job : JobSizes) where
  pub rests-none : (s : Store D) → Rests seen moment may_leave job s s
  rests-none s = record { stands = λ id stands. stands; end = refl; looks = looks_none seen moment may_leave s.disk }

  pub rests-both : (old mid new : Store D) → Rests seen moment may_leave job old mid → Rests seen moment may_leave job mid new
      → Rests seen moment may_leave job old new
  rests-both old mid new first second = record {
    stands = λ id stands. second.stands id (first.stands id stands);
    end = second.end ∙ first.end;
    looks = looks_both seen moment may_leave old.disk mid.disk new.disk first.looks second.looks;
  }

  -- the disk tells the same epochs, and the journal is read up to another place
  pub tells-on : (id : List ℕ) (kept : List KeptEpoch) (from to : Option Place) (old new : Store D)
      → Tells seen moment may_leave job id kept from old → Rests seen moment may_leave job old new → option_map place_at new.journal.here.next ≡ to
      → Tells seen moment may_leave job id kept to new
  tells-on id kept from to old new t rests reached = record {
    stands = rests.stands id t.stands;
    covers = ap (λ (f : Found). f.next) rests.end ∙ t.covers;
    image = t.image;
    told = rests.looks.same ∙ t.told;
    keeps = t.keeps;
    up_to = reached;
  }

  -- another word for the place
  pub tells-same : (id : List ℕ) (kept : List KeptEpoch) (a b : Option Place) (s : Store D) → a ≡ b
      → Tells seen moment may_leave job id kept a s → Tells seen moment may_leave job id kept b s
  tells-same id kept a b s same t = subst (λ (o : Option Place). Tells seen moment may_leave job id kept o s) same t

  source-on : (c : Option (List KeptEpoch)) (from to : Option Place) (old new : Store D)
      → IsSource seen moment may_leave job from c old → Rests seen moment may_leave job old new → Reaches seen moment may_leave job from to old new
      → IsSource seen moment may_leave job to c new
  source-on None from to old new source rests reaches = tt
  source-on (Some kept) from to old new source rests reaches =
      (source.0, tells-on source.0 kept from to old new source.1 rests (reaches source.0 kept source.1))

  source-same : (c : Option (List KeptEpoch)) (a b : Option Place) (s : Store D) → a ≡ b
      → IsSource seen moment may_leave job a c s → IsSource seen moment may_leave job b c s
  source-same c a b s same source = subst (λ (o : Option Place). IsSource seen moment may_leave job o c s) same source

  pub reaches-none : (from : Option Place) (s : Store D) → Reaches seen moment may_leave job from from s s
  reaches-none from s = λ id kept t. t.up_to

  pub reaches-both : (from mid to : Option Place) (old between new : Store D) → Rests seen moment may_leave job old between
      → Reaches seen moment may_leave job from mid old between → Reaches seen moment may_leave job mid to between new
      → Reaches seen moment may_leave job from to old new
  reaches-both from mid to old between new rests first second = λ id kept t.
      second id kept (tells-on id kept from mid old between t rests (first id kept t))

  pub reaches-same : (from from' to to' : Option Place) (old new : Store D) → from ≡ from' → to ≡ to'
      → Reaches seen moment may_leave job from to old new → Reaches seen moment may_leave job from' to' old new
  reaches-same from from' to to' old new same_from same_to reaches = λ id kept t.
      reaches id kept (tells-same id kept from' from old (sym same_from) t) ∙ same_to

module _ {D : Type 0} (seen : D → Option (List ℕ)) (moment : D → ℕ) (may_leave : D → ℕ → List ℕ → Type 0) (count : D → ℕ) (plan : Plan) (job : JobSizes) where
  pub store-composes : Composes {C = Store D} {F = ReadFault} (Stays seen moment may_leave count job) (Fails seen moment may_leave count job)
  store-composes = record {
    none = λ s. record { rests = rests-none seen moment may_leave job s; count_stays = refl };
    both = λ old mid new first second. record {
      rests = rests-both seen moment may_leave job old mid new first.rests second.rests;
      count_stays = second.count_stays ∙ first.count_stays;
    };
    last = λ old mid new fault first second. record {
      rests = rests-both seen moment may_leave job old mid new first.rests second.rests;
      risen = subst (λ n. HasRisen n (count new.disk)) first.count_stays second.risen;
    };
  }

  pub goes-rests : {T : Type 0} (old new : Store D) (r : Result T (WriteFault ReadFault))
      → SourceGoes (Stays seen moment may_leave count job) (Fails seen moment may_leave count job) old new r
      → Rests seen moment may_leave job old new
  goes-rests old new (Ok x) goes = goes.rests
  goes-rests old new (Err (Source fault)) goes = goes.rests
  goes-rests old new (Err Sink) goes = goes.rests

  pub cells-rests : {T : Type 0} {due : Option Place} {text : CellsOf → List ℕ} {old new : Store D} {told_old told_new : Option (List ℕ)} {faults_old faults_new : ℕ}
      {r : Result T (WriteFault ReadFault)}
      → WritesCells seen moment may_leave count plan job due text old new told_old told_new faults_old faults_new r
      → Rests seen moment may_leave job old new
  cells-rests {old = old} {new = new} {r = r} h = goes-rests old new r (h.at None tt).goes

  pub cells-none : (due : Option Place) (s : Store D) (told : Option (List ℕ)) (faults : ℕ)
      → WritesCells {T = Unit {0}} seen moment may_leave count plan job due (λ of. []) s s told told faults faults (Ok tt)
  cells-none due s told faults = record {
    at = λ c source.
        Writes-none (head_at plan) (cells_on c plan) (Stays seen moment may_leave count job) (Fails seen moment may_leave count job) store-composes
        tt s told faults;
    grows = grows-none told;
  }

  -- the texts of the first numbers, and of the next one
  pub cells-next : {T U : Type 0} {x : U} {r : Result T (WriteFault ReadFault)} (text : CellsOf → ℕ → List ℕ) (k : ℕ) (from mid_place : Option Place) (old mid new : Store D)
      (told_old told_mid told_new : Option (List ℕ)) (faults_old faults_mid faults_new : ℕ)
      → Reaches seen moment may_leave job from mid_place old mid
      → WritesCells {T = U} seen moment may_leave count plan job from (λ of. flat_map (text of) (range_with_len 0 k)) old mid told_old told_mid faults_old faults_mid (Ok x)
      → WritesCells seen moment may_leave count plan job mid_place (λ of. text of k) mid new told_mid told_new faults_mid faults_new r
      → WritesCells seen moment may_leave count plan job from (λ of. flat_map (text of) (range_with_len 0 (k + 1))) old new told_old told_new faults_old faults_new r
  cells-next {r = r} text k from mid_place old mid new told_old told_mid told_new faults_old faults_mid faults_new reaches first second = record {
    at = λ c source.
        let begun = first.at c source in
        Writes-next (head_at plan) (cells_on c plan) (Stays seen moment may_leave count job) (Fails seen moment may_leave count job) store-composes
        text k old mid new told_old told_mid told_new faults_old faults_mid faults_new begun
        (second.at c (source-on seen moment may_leave job c from mid_place old mid source begun.goes.rests reaches));
    grows = grows-then r told_old told_mid told_new first.grows second.grows;
  }

  -- the texts of all numbers, of which one failed
  pub cells-cut : {T U : Type 0} {e : WriteFault ReadFault} {r : Result T (WriteFault ReadFault)} (text : CellsOf → ℕ → List ℕ) (k n : ℕ) (from : Option Place) (old new : Store D)
      (told_old told_new : Option (List ℕ)) (faults_old faults_new : ℕ)
      → k < n
      → r ≡ Err e
      → WritesCells {T = U} seen moment may_leave count plan job from (λ of. flat_map (text of) (range_with_len 0 (k + 1))) old new told_old told_new faults_old faults_new (Err e)
      → WritesCells seen moment may_leave count plan job from (λ of. flat_map (text of) (range_with_len 0 n)) old new told_old told_new faults_old faults_new r
  cells-cut text k n from old new told_old told_new faults_old faults_new h failed first = record {
    at = λ c source.
        Writes-cut (head_at plan) (cells_on c plan) (Stays seen moment may_leave count job) (Fails seen moment may_leave count job) store-composes
        text k n old new told_old told_new faults_old faults_new h failed (first.at c source);
    grows = grows-cut told_old told_new failed first.grows;
  }

  -- another word for the same text and the same place
  pub cells-same : {T : Type 0} {r : Result T (WriteFault ReadFault)} (a b : CellsOf → List ℕ) (from from' : Option Place) (old new : Store D)
      (told_old told_new : Option (List ℕ)) (faults_old faults_new : ℕ)
      → ((of : CellsOf) → a of ≡ b of) → from ≡ from'
      → WritesCells seen moment may_leave count plan job from a old new told_old told_new faults_old faults_new r
      → WritesCells seen moment may_leave count plan job from' b old new told_old told_new faults_old faults_new r
  cells-same a b from from' old new told_old told_new faults_old faults_new same place first = record {
    at = λ c source.
        Writes-same (head_at plan) (cells_on c plan) (Stays seen moment may_leave count job) (Fails seen moment may_leave count job) store-composes
        a b old new told_old told_new faults_old faults_new
        (where_always (cells_on c plan old) (λ of. a of ≡ b of) same) (first.at c (source-same seen moment may_leave job c from' from old (sym place) source));
    grows = first.grows;
  }

  -- the records of an integration, whose cells were read
  pub cells-integration : (due : Option Place) (old new : Store D) (head : Head) (number m : ℕ) (sums : List Cell)
      (told told' : Option (List ℕ)) (faults faults' : ℕ) (written : Result (Unit {0}) SinkFault)
      → Rests seen moment may_leave job old new → count new.disk ≡ count old.disk
      → ((id : List ℕ) (kept : List KeptEpoch) → Tells seen moment may_leave job id kept due old → sums ≡ kept_cells plan kept number m)
      → Appends told told' (integration_at head number m sums) faults faults' written
      → WritesCells seen moment may_leave count plan job due (λ of. integration_at head number m (of number m)) old new told told' faults faults' (of_sink written)
  cells-integration due old new head number m sums told told' faults faults' written rests stays read appends = record {
    at = one;
    grows = grows-sunk written (integration_at head number m sums) told told' faults faults' appends;
  }
    where
      same_text : (c : Option (List KeptEpoch)) → IsSource seen moment may_leave job due c old
          → WhereTold (option_map (kept_cells plan) c) (λ of. integration_at head number m sums ≡ integration_at head number m (of number m))
      same_text None source = tt
      same_text (Some kept) source = ap (integration_at head number m) (read source.0 kept source.1)

      one : (c : Option (List KeptEpoch)) → IsSource seen moment may_leave job due c old
          → Writes (head_at plan) (cells_on c plan) (Stays seen moment may_leave count job) (Fails seen moment may_leave count job)
          (λ of. integration_at head number m (of number m)) old new told told' faults faults' (of_sink written)
      one c source =
          let cells : Store D → Option CellsOf = cells_on c plan in
          let steady : Store D → Store D → Type 0 = Stays seen moment may_leave count job in
          let fails : Store D → Store D → ReadFault → Type 0 = Fails seen moment may_leave count job in
          let first : Writes {T = Unit {0}} (head_at plan) cells steady fails (λ of. []) old new told told faults faults (Ok tt) =
          Writes-filled (head_at plan) cells steady fails store-composes tt old new told faults (record { rests = rests; count_stays = stays }) refl refl in
          let sunk = Writes-sunk (head_at plan) cells steady fails store-composes written (integration_at head number m sums) new told told' faults faults' appends in
          let second = Writes-same (head_at plan) cells steady fails store-composes (λ of. integration_at head number m sums)
          (λ of. integration_at head number m (of number m)) new new told told' faults faults' (same_text c source) sunk in
          Writes-then (head_at plan) cells steady fails store-composes (λ of. integration_at head number m (of number m)) (λ of. [])
          (λ of. integration_at head number m (of number m)) old new new told told told' faults faults faults'
          (where_always (cells old) (λ of. integration_at head number m (of number m) ≡ [] ++ integration_at head number m (of number m)) (λ of. refl))
          first second

  -- the records of an integration, whose cells could not be read
  pub cells-failed : (due : Option Place) (text : CellsOf → List ℕ) (old new : Store D) (told : Option (List ℕ)) (faults : ℕ) (fault : ReadFault)
      → Rests seen moment may_leave job old new → HasRisen (count old.disk) (count new.disk)
      → WritesCells {T = Unit {0}} seen moment may_leave count plan job due text old new told told faults faults (Err (Source fault))
  cells-failed due text old new told faults fault rests risen = record {
    at = λ c source.
        Writes-failed (head_at plan) (cells_on c plan) (Stays seen moment may_leave count job) (Fails seen moment may_leave count job) store-composes
        fault text old new told faults (record { rests = rests; risen = risen }) refl refl;
    grows = grows-failed told (Source fault);
  }

-- the records of a scan, integration by integration
pub text_at-integrations : (head : Head) (of : CellsOf) (number : ℕ) (s : HeadScan) → slice_get head.scans number ≡ Some s
    → flat_map (λ m. integration_at head number m (of number m)) (range_with_len 0 (counts.integrations_of head s)) ≡ text_at head of number
text_at-integrations head of number s there =
    ap (λ (o : Option HeadScan). flat_map (λ m. option_map_or (λ (s : HeadScan). records_text head.lags (product_places head number s m) (of number m)) o [])
    (range_with_len 0 (counts.integrations_of head s))) there
    ∙ text_at-some head of number s there

pub scan-text : (plan : Plan) (head : Head) (number : ℕ) (scan : ScanPlan) → head ≡ head_of plan
    → slice_get plan.scans number ≡ Some scan → (of : CellsOf)
    → flat_map (λ m. integration_at head number m (of number m)) (range_with_len 0 (integrations_of plan scan)) ≡ text_at head of number
scan-text plan head number scan is there of =
    subst (λ (h : Head). flat_map (λ m. integration_at h number m (of number m)) (range_with_len 0 (integrations_of plan scan)) ≡ text_at h of number) (sym is)
    (text_at-integrations (head_of plan) of number (head_scan scan) (scan-seen plan number scan there))

-- the cells of an integration have room in the widest
pub width-within : (plan : Plan) (head : Head) (number : ℕ) (scan : ScanPlan) → head ≡ head_of plan
    → slice_get plan.scans number ≡ Some scan
    → width_of plan scan ≤ widest head
width-within plan head number scan is there =
    let seen : cells_at (head_of plan) number ≡ counts.cells_of (head_of plan) (head_scan scan) =
    ap (λ (o : Option HeadScan). option_map_or (counts.cells_of (head_of plan)) o 0) (scan-seen plan number scan there) in
    subst (λ (h : Head). width_of plan scan ≤ widest h) (sym is)
    (subst (λ n. n ≤ widest (head_of plan)) (sym seen ∙ width-at plan number scan there)
    (widest-at (head_of plan) number (head_scan scan) (scan-seen plan number scan there)))

-- the head has the scan, and as many cells for its integrations
pub number-within : (plan : Plan) (head : Head) (number : ℕ) (scan : ScanPlan) → head ≡ head_of plan
    → slice_get plan.scans number ≡ Some scan
    → number < length head.scans
number-within plan head number scan is there =
    subst (λ (h : Head). number < length h.scans) (sym is) (slice_get_within (head_of plan).scans number (head_scan scan) (scan-seen plan number scan there))

pub width-of-head : (plan : Plan) (head : Head) (number : ℕ) (scan : ScanPlan) → head ≡ head_of plan
    → slice_get plan.scans number ≡ Some scan
    → cells_at head number ≡ width_of plan scan
width-of-head plan head number scan is there = ap (λ (h : Head). cells_at h number) is ∙ width-at plan number scan there

-- a scan that was read from the list of the plan's
pub scan-there : (plan : Plan) (listed : List ScanPlan) (number : ℕ) (scan : ScanPlan) → listed ≡ plan.scans
    → number < length plan.scans → scan ≡ get_or listed number scan → slice_get plan.scans number ≡ Some scan
scan-there plan listed number scan same within is =
    ap (λ (l : List ScanPlan). slice_get l number) (sym same)
    ∙ slice_get_read listed (length listed) number scan refl (subst (λ (l : List ScanPlan). number < length l) (sym same) within) is

-- so have the cells of each epoch of the job
pub cells-room : (plan : Plan) (job : JobSizes) (head : Head) → job ≡ sizes_of plan → head ≡ head_of plan → IsRoom job (widest head)
cells-room plan job head same is = λ e epoch. by e epoch (slice_get plan.scans e.scan) refl
  where
    by : (e : EpochPlan) (epoch : IsEpoch job e) (o : Option ScanPlan) → slice_get plan.scans e.scan ≡ o → cell_count e ≤ widest head
    by e epoch None there =
        let none : slice_get job.scans e.scan ≡ None =
        ap (λ (j : JobSizes). slice_get j.scans e.scan) same ∙ slice_get-map (size_of plan) plan.scans e.scan ∙ ap (option_map (size_of plan)) there in
        let never : ◌≡◌ {A = Option ScanSize} (Some epoch.size) None = sym epoch.scan ∙ none in
        absurd (cc)
    by e epoch (Some scan) there =
        let sizes : ◌≡◌ {A = Option ScanSize} (Some epoch.size) (Some (size_of plan scan)) = sym epoch.scan ∙ size-cut plan job e.scan scan same there in
        let size : epoch.size ≡ size_of plan scan = cc in
        let products : e.products ≡ length plan.products = epoch.products ∙ ap (λ (s : ScanSize). s.products) size in
        let baselines : e.baselines ≡ length scan.baselines = epoch.baselines ∙ ap (λ (s : ScanSize). s.baselines) size in
        let lags : e.lags ≡ plan.lags = epoch.lags ∙ ap (λ (j : JobSizes). j.lags) same in
        let count : cell_count e ≡ width_of plan scan =
        ap (λ n. n * e.baselines * e.lags) products ∙ ap (λ n. length plan.products * n * e.lags) baselines ∙ ap (λ n. length plan.products * length scan.baselines * n) lags in
        omega (arith, count, width-within plan head e.scan scan is there)
