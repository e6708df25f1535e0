-- The epochs of an integration, read one after another.
use Rattle.std.specs.Prelude.{slice_get, option_map, IfSome}
use Rattle.std.proofs.Common.{◌≡◌, ◌∙◌, sym, ap, refl, subst, inr, ℕ, ◌+◌, ◌<◌, ◌≤◌, List, [], ◌∷◌, ◌++◌, length, take, drop, Option, Some, None, ltb, arith}
use Rattle.std.proofs.lemmas.Bool.{cond-true, lt-ltb}
use Rattle.std.proofs.lemmas.List.{map-append, take_at, drop_at, length-drop, take-append-drop}
use Rattle.dev_traits.specs.Told.{WhereTold}
use Rattle.corr_model.specs.declared.cell.Cell.{Cell}
use Rattle.piece_plan.specs.declared.job.ScanSize.{ScanSize}
use Rattle.piece_plan.specs.declared.epoch.EpochPlan.{EpochPlan}
use Rattle.piece_plan.specs.Epochs.{JobSizes, integration_at, cell_count}
use Rattle.piece_plan.specs.Order.{Place, place_of, job_start, AreInOrder}
use Rattle.plan_places.specs.Places.{place_at}
use Rattle.job_epochs.specs.Added.{add_cells}
use Rattle.checkpoint_journal.specs.Cells.{body_cells}
use Rattle.journal_image.specs.Image.{Due, Thing, Kept, Turn, next, ThingsGo, KeptEpoch, records, start, Reading, Keeps}
use Rattle.journal_image.proofs.KeptLemmas.{reads_in_order}
use Rattle.journal_image.proofs.ReadingLemmas.{keeps_one}
use Rattle.checkpoint_journal.specs.Finding.{due_of}
use Rattle.checkpoint_journal.specs.Kept.{ReadsNext}
use Rattle.checkpoint_journal.specs.Standing.{JournalState, Knows, IsNext}
use Rattle.journal_records.specs.Kept.{added_kept}
use Rattle.journal_records.specs.Places.{place_from, place_of_integration, IsIntegration}
use Rattle.journal_records.specs.Reading.{AddsOne, AddsNext, IsAdded}
use Rattle.journal_records.specs.Store.{Store, Tells}
use Rattle.journal_records.proofs.OrderLemmas.{order-cut, AreOther-before, AreOther-behind, is_of-same}
use Rattle.journal_records.proofs.PlaceLemmas.{place_from-begin, place_from-end, place_from-past, place_from-after}
use Rattle.journal_records.proofs.AddedLemmas.{epochs_kept, added_kept-other, added_kept-behind, added_kept-next}

-- ---- where a journal stands among the epochs that it keeps

records-append : (xs ys : List Thing) → records (xs ++ ys) ≡ records xs ++ records ys
records-append [] ys = refl
records-append (Kept e body ∷ xs) ys = ap (λ (l : List KeptEpoch). record { epoch = e; body = body } ∷ l) (records-append xs ys)
records-append (Turn mark ∷ xs) ys = records-append xs ys

in_order : (job : JobSizes) (due end : Due) (things : List Thing) → ThingsGo job due things end
    → AreInOrder job due.place (epochs_kept (records things)) end.place
in_order job due end [] goes = ap (λ (d : Due). d.place) goes
in_order job due end (Kept e body ∷ things) goes = (goes.0.place, goes.0.epoch, in_order job (next job due (Kept e body)) end things goes.1)
in_order job due end (Turn mark ∷ things) goes = in_order job (next job due (Turn mark)) end things goes.1

-- those that were read go up to the place where it is read on, and the others from there to the job's end
pub record IsCutAt (job : JobSizes) (kept : List KeptEpoch) (n : ℕ) (due : Option Place) : Type 0 where
  pub before : AreInOrder job (job_start job) (epochs_kept (take n kept)) due
  pub behind : AreInOrder job due (epochs_kept (drop n kept)) None

cut-at : (job : JobSizes) (kept xs ys : List KeptEpoch) (n : ℕ) (due : Option Place) → kept ≡ xs ++ ys → length xs ≡ n
    → AreInOrder job (job_start job) (epochs_kept kept) None
    → AreInOrder job (job_start job) (epochs_kept xs) due
    → IsCutAt job kept n due
cut-at job kept xs ys n due is long all front =
    let first : take n kept ≡ xs = ap (take n) is ∙ take_at xs ys n long in
    let rest : drop n kept ≡ ys = ap (drop n) is ∙ drop_at xs ys n long in
    let both : epochs_kept kept ≡ epochs_kept xs ++ epochs_kept ys = ap epochs_kept is ∙ map-append (λ (k : KeptEpoch). k.epoch) xs ys in
    record {
      before = subst (λ (l : List KeptEpoch). AreInOrder job (job_start job) (epochs_kept l) due) (sym first) front;
      behind =
          subst (λ (l : List KeptEpoch). AreInOrder job due (epochs_kept l) None) (sym rest)
          (order-cut job (job_start job) due None (epochs_kept xs) (epochs_kept ys)
          (subst (λ (l : List EpochPlan). AreInOrder job (job_start job) l None) both all) front);
    }

module _ {D : Type 0} (seen : D → Option (List ℕ)) (moment : D → ℕ) (may_leave : D → ℕ → List ℕ → Type 0) (job : JobSizes) (id : List ℕ) (kept : List KeptEpoch)
    (due : Option Place) (s : Store D) (t : Tells seen moment may_leave job id kept due s) where
  knows : Knows id job s.journal t.image
  knows = subst (λ (o : Option (List ℕ)). WhereTold o (Knows id job s.journal)) t.told t.stands.image

  same_kept : (other : List KeptEpoch) → Keeps id job t.image other → other ≡ kept
  same_kept other keeps = keeps_one id job t.image t.stands.named t.stands.plan other kept keeps t.keeps

  pub tells-cut : IsCutAt job kept s.journal.here.kept due
  tells-cut =
      let k : Knows id job s.journal t.image = knows in
      let r : Reading = k.reading in
      let things : List KeptEpoch = records k.here.before in
      let is : kept ≡ records k.here.before ++ records k.here.after =
      sym (same_kept (records r.things) (inr (r, k.reads, refl))) ∙ ap records k.here.is ∙ records-append k.here.before k.here.after in
      let last : r.due.place ≡ None = ap (λ (d : Due). d.place) (sym k.end.due) ∙ ap (option_map place_at) t.covers in
      let all : AreInOrder job (job_start job) (epochs_kept (records r.things)) None =
      subst (λ (o : Option Place). AreInOrder job (job_start job) (epochs_kept (records r.things)) o) last (reads_in_order id job t.image r k.reads) in
      let whole : AreInOrder job (job_start job) (epochs_kept kept) None =
      subst (λ (l : List KeptEpoch). AreInOrder job (job_start job) (epochs_kept l) None) (same_kept (records r.things) (inr (r, k.reads, refl))) all in
      let front : AreInOrder job (job_start job) (epochs_kept (records k.here.before)) due =
      subst (λ (o : Option Place). AreInOrder job (job_start job) (epochs_kept (records k.here.before)) o) t.up_to
      (in_order job (start job r.old) (due_of s.journal.here) k.here.before k.here.goes) in
      cut-at job kept (records k.here.before) (records k.here.after) s.journal.here.kept due is (sym k.here.kept) whole front

  -- none is left where none is due
  nothing_left : (n : ℕ) → IsCutAt job kept n due → length kept ≡ n → due ≡ None
  nothing_left n cut many = by (drop n kept) refl
    where
      by : (rest : List KeptEpoch) → drop n kept ≡ rest → due ≡ None
      by [] is = subst (λ (l : List KeptEpoch). AreInOrder job due (epochs_kept l) None) is cut.behind
      by (k ∷ rest) is = absurd (omega (arith, ap length is, length-drop n kept, many))

  -- the next epoch was read, and its cells are added
  pub next-added : (new : JournalState) (read : Option EpochPlan) (cells start sums : List Cell)
      → WhereTold (seen s.disk) (λ image. ReadsNext id job image s.journal.here.kept read cells)
      → IsNext job s.journal new read
      → IfSome read (λ e. sums ≡ add_cells start (take (cell_count e) cells))
      → AddsNext job kept s.journal new start sums (option_map (λ (e : EpochPlan). e.to) read)
  next-added new read cells start sums told is added = by read (subst (λ (o : Option (List ℕ)). WhereTold o (λ image. ReadsNext id job image s.journal.here.kept read cells)) t.told told) is added
    where
      by : (read : Option EpochPlan) → ReadsNext id job t.image s.journal.here.kept read cells → IsNext job s.journal new read
          → IfSome read (λ e. sums ≡ add_cells start (take (cell_count e) cells))
          → AddsNext job kept s.journal new start sums (option_map (λ (e : EpochPlan). e.to) read)
      by None many is added =
          t.up_to ∙ nothing_left s.journal.here.kept tells-cut (ap length (sym (same_kept many.kept many.keeps)) ∙ many.many)
      by (Some e) one is added = record {
        e = e;
        is = is.epoch;
        ends = refl;
        body = one.body;
        there = ap (λ (l : List KeptEpoch). slice_get l s.journal.here.kept) (sym (same_kept one.kept one.keeps)) ∙ one.at;
        begins = is.begins;
        behind = is.next;
        count = is.kept;
        added = added ∙ ap (add_cells start) one.cells_are;
      }

-- ---- the epochs of an integration

module _ (job : JobSizes) (number : ℕ) (size : ScanSize) (m from to : ℕ) (is : IsIntegration job number size m from to) (kept : List KeptEpoch) where
  -- before the first one
  pub added-begin : (j : JournalState) (start : List Cell) → option_map place_at j.here.next ≡ place_from job number size m from
      → IsCutAt job kept j.here.kept (place_from job number size m from)
      → IsAdded job number size m from kept start start j
  added-begin j start due cut =
      let begun : AreInOrder job (job_start job) (epochs_kept (take j.here.kept kept)) (Some (record { scan = number; m = m; from = from })) =
      subst (λ (o : Option Place). AreInOrder job (job_start job) (epochs_kept (take j.here.kept kept)) o) (place_from-begin job number size m from to is) cut.before in
      record {
        within = omega (arith, is.some, is.ends);
        up_to = due;
        added = sym (added_kept-other number m start (take j.here.kept kept)
            (AreOther-before job number m (job_start job) (epochs_kept (take j.here.kept kept)) (record { scan = number; m = m; from = from }) refl refl
            (omega (arith, is.begins)) begun));
      }

  -- before the end there is a next one
  due-inside : (at : ℕ) → at < to → place_from job number size m at ≡ Some (record { scan = number; m = m; from = at })
  unfolding place_from
  due-inside at inside = cond-true (ltb at (integration_at job size m).to) _ _ (lt-ltb _ _ (omega (arith, inside, is.ends)))

  pub added-not-none : (at : ℕ) (start sums : List Cell) (j : JournalState) → at < to → IsAdded job number size m at kept start sums j
      → option_map place_at j.here.next ≡ None → ⊥
  added-not-none at start sums j inside so_far none =
      let both : ◌≡◌ {A = Option Place} (Some (record { scan = number; m = m; from = at })) None = sym (due-inside at inside) ∙ sym so_far.up_to ∙ none in
      cc

  -- one more
  pub added-next : (at : ℕ) (start sums sums' : List Cell) (old new : JournalState) (end : ℕ) → at < to
      → IsAdded job number size m at kept start sums old → AddsOne job kept old new sums sums' end
      → IsAdded job number size m end kept start sums' new
  added-next at start sums sums' old new end inside so_far one =
      let both : ◌≡◌ {A = Option Place} (Some (record { scan = number; m = m; from = at })) (Some (place_of one.e)) =
      sym (due-inside at inside) ∙ sym so_far.up_to ∙ one.begins in
      let same : ◌≡◌ {A = Place} (record { scan = number; m = m; from = at }) (place_of one.e) = cc in
      let scan : one.e.scan ≡ number = sym (ap (λ (p : Place). p.scan) same) in
      let part : one.e.m ≡ m = sym (ap (λ (p : Place). p.m) same) in
      let sizes : ◌≡◌ {A = Option ScanSize} (Some one.is.size) (Some size) = sym one.is.scan ∙ ap (slice_get job.scans) scan ∙ is.scan in
      let sized : one.is.size ≡ size = cc in
      let ends : (integration_at job one.is.size one.e.m).to ≡ (integration_at job size m).to =
      ap (λ (x : ScanSize). (integration_at job x one.e.m).to) sized ∙ ap (λ n. (integration_at job size n).to) part in
      record {
        within = omega (arith, one.is.to, one.ends, ends);
        up_to = one.behind ∙ place_from-after job number size m one.e is.scan scan part ∙ ap (place_from job number size m) one.ends;
        added = one.added
            ∙ ap (λ (l : List Cell). add_cells l (body_cells one.body)) so_far.added
            ∙ sym (added_kept-next number m start kept old.here.kept (record { epoch = one.e; body = one.body }) one.there (is_of-same number m one.e scan part))
            ∙ ap (λ n. added_kept number m start (take n kept)) (sym one.count);
      }

  -- at the end
  pub added-end : (at : ℕ) (start sums : List Cell) (j : JournalState) → to ≤ at → IsAdded job number size m at kept start sums j
      → IsAdded job number size m to kept start sums j
  added-end at start sums j past so_far =
      let same : at ≡ to = omega (arith, past, so_far.within, is.ends) in
      subst (λ n. IsAdded job number size m n kept start sums j) same so_far

  pub added-due : (start sums : List Cell) (j : JournalState) → IsAdded job number size m to kept start sums j
      → option_map place_at j.here.next ≡ place_of_integration job number size (m + 1)
  added-due start sums j all = all.up_to ∙ place_from-end job number size m to is.ends

  -- the epochs behind it add nothing
  pub added-all : (start sums : List Cell) (j : JournalState) → IsCutAt job kept j.here.kept (place_from job number size m to)
      → IsAdded job number size m to kept start sums j → sums ≡ added_kept number m start kept
  added-all start sums j cut all =
      all.added
      ∙ sym (added_kept-behind number m start (take j.here.kept kept) (drop j.here.kept kept)
      (AreOther-behind job number m (place_from job number size m to) None (epochs_kept (drop j.here.kept kept)) (place_from-past job number size m to is.ends) cut.behind))
      ∙ ap (added_kept number m start) (take-append-drop j.here.kept kept)
