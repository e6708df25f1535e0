-- The places of a shard that was read are in order, and whether those of an integration cover it.
use Rattle.std.specs.Prelude.{slice_get}
use Rattle.std.specs.Option.{option_map_or}
use Rattle.std.specs.List.{All, AllZip}
use Rattle.std.proofs.Common.{◌≡◌, ◌∙◌, ◌⊎◌, inl, inr, ⊎_elim, ℕ, ◌+◌, ◌*◌, ◌^◌, ◌<◌, ◌≤◌, min, Bool, false, eqb, ◌&&◌, List, [], ◌∷◌, filter, Option, Some, refl, sym, ap, subst, arith}
use Rattle.std.proofs.lemmas.List.Elements.{All-nil, All-cons, All-head, All-weaker, All-filter}
use Rattle.std.proofs.lemmas.Bool.Decides.{nat_tests}
use Rattle.corr_model.specs.Files.{Files}
use Rattle.piece_plan.specs.declared.job.ScanSize.{ScanSize}
use Rattle.piece_plan.specs.declared.epoch.EpochPlan.{EpochPlan}
use Rattle.piece_plan.specs.Epochs.{JobSizes, IsJob, IsOfPlan, integration_at}
use Rattle.piece_plan.specs.Order.{Place, job_start, place_after, AreInOrder}
use Rattle.piece_plan.specs.Limited.{limited}
use Rattle.piece_plan.proofs.EpochLemmas.{IsEpoch-IsOfPlan, scan-IsScan}
use Rattle.piece_plan.proofs.LimitLemmas.{limited-IsJob}
use Rattle.job_epochs.specs.Added.{is_of}
use Rattle.journal_image.specs.Image.{KeptEpoch, Reading, records}
use Rattle.journal_image.proofs.KeptLemmas.{reads_in_order}
use Rattle.checkpoint_journal.specs.declared.listed.KeptAt.{KeptAt}
use Rattle.checkpoint_journal.specs.Identity.{shard_of}
use Rattle.checkpoint_journal.specs.Listed.{IsKeptAt}
use Rattle.shard_merge.specs.declared.shard.Shard.{Shard}
use Rattle.shard_merge.specs.Covers.{follow, covers, epochs_of_kept}
use Rattle.shard_merge.specs.Reading.{IsReadFrom}
use Rattle.shard_merge.specs.CoverageOrder.{epochs_of_listed}
use Rattle.shard_merge.proofs.CoverageLists.{epochs_of_listed-epochs_of_kept, listed_in, filter-epochs_of_kept}
use Rattle.shard_merge.proofs.CoverageSteps.{Rise, ordered-Rise}

-- places of epochs of a part of the job, in order
record AreOrdered (job : JobSizes) (listed : List KeptAt) : Type 0 where
  from : ℕ
  to : ℕ
  end : Option Place
  order : AreInOrder (limited job from to) (job_start (limited job from to)) (epochs_of_listed listed) end

no-listed : (image : List ℕ) (kept : List KeptEpoch) (listed : List KeptAt) → kept ≡ [] → AllZip (IsKeptAt image) kept listed → listed ≡ []
no-listed image kept [] none all = refl
no-listed image kept (a ∷ listed) none all =
    let never = subst (λ (ks : List KeptEpoch). AllZip (IsKeptAt image) ks (a ∷ listed)) none all in
    absurd never

-- the places of a shard are none, or in order
read-cases : (files : Files) (id : List ℕ) (job : JobSizes) (s : Shard) (kept : List KeptEpoch) → IsReadFrom files id job s kept
    → (s.kept.items ≡ []) ⊎ AreOrdered job s.kept.items
read-cases files id job s kept read =
    ⊎_elim
    (λ blank. inl (no-listed read.image kept s.kept.items blank.1 read.places))
    (λ h.
    let r : Reading = h.0 in
    let is = h.1 in
    let part = limited job is.from is.to in
    let order = reads_in_order (shard_of id is.from is.to) part read.image r is.reads in
    let same : epochs_of_kept (records r.things) ≡ epochs_of_listed s.kept.items =
    ap epochs_of_kept (sym h.2) ∙ sym (epochs_of_listed-epochs_of_kept read.image kept s.kept.items read.places) in
    inr (record {
      from = is.from;
      to = is.to;
      end = r.due.place;
      order = subst (λ (es : List EpochPlan). AreInOrder part (job_start part) es r.due.place) same order;
    }))
    read.keeps

pub read-Rise : (files : Files) (id : List ℕ) (job : JobSizes) (s : Shard) (kept : List KeptEpoch) → IsReadFrom files id job s kept → Rise s.kept.items
read-Rise files id job s kept read =
    ⊎_elim
    (λ none. subst Rise (sym none) tt)
    (λ o. ordered-Rise (limited job o.from o.to) (job_start (limited job o.from o.to)) o.end s.kept.items o.order)
    (read-cases files id job s kept read)

ordered-IsOfPlan : (job : JobSizes) (due end : Option Place) (listed : List KeptAt) → IsJob job → AreInOrder job due (epochs_of_listed listed) end
    → All (λ (a : KeptAt). IsOfPlan a.epoch) listed
ordered-IsOfPlan job due end [] is order = All-nil (λ (a : KeptAt). IsOfPlan a.epoch)
ordered-IsOfPlan job due end (a ∷ listed) is order =
    All-cons (λ (b : KeptAt). IsOfPlan b.epoch) a listed (IsEpoch-IsOfPlan job a.epoch is order.1)
    (ordered-IsOfPlan job (place_after job a.epoch) end listed is order.2)

read-IsOfPlan : (files : Files) (id : List ℕ) (job : JobSizes) (s : Shard) (kept : List KeptEpoch) → IsJob job → IsReadFrom files id job s kept
    → All (λ (a : KeptAt). IsOfPlan a.epoch) s.kept.items
read-IsOfPlan files id job s kept is read =
    ⊎_elim
    (λ none. subst (All (λ (a : KeptAt). IsOfPlan a.epoch)) (sym none) (All-nil (λ (a : KeptAt). IsOfPlan a.epoch)))
    (λ o. ordered-IsOfPlan (limited job o.from o.to) (job_start (limited job o.from o.to)) o.end s.kept.items (limited-IsJob job o.from o.to is) o.order)
    (read-cases files id job s kept read)

-- epochs that begin below a bound follow one another from no sample past it
capped : (from to cap : ℕ) → to < cap → eqb (min from cap) to ≡ eqb from to
capped from to cap below = grind (arith, nat_tests)

follow-capped : (from to cap : ℕ) (listed : List KeptAt) → to < cap → All (λ (a : KeptAt). a.epoch.from < cap) listed
    → follow (min from cap) to (epochs_of_listed listed) ≡ follow from to (epochs_of_listed listed)
follow-capped from to cap [] below all = capped from to cap below
follow-capped from to cap (a ∷ listed) below all =
    let start = a.epoch.from in
    let small : start < cap = All-head (λ (b : KeptAt). b.epoch.from < cap) a listed all in
    let same : eqb start (min from cap) ≡ eqb start from = grind (arith, nat_tests) in
    ap (λ (b : Bool). b && follow a.epoch.to to (epochs_of_listed listed)) same

-- the sample behind an integration, as it is reckoned in 64 bits
capped-end : (m integration samples from to : ℕ) → samples ≤ 2 ^ 40 → from ≡ min (m * integration) 18446744073709551615
    → to ≡ min samples (min (from + integration) 18446744073709551615) → to ≡ min (0 + (m + 1) * integration) samples
capped-end m integration samples from to bound is ends = omega arith

-- whether kept epochs cover an integration, by the places that are listed for it
pub covers-listed : (files : Files) (id : List ℕ) (job : JobSizes) (s : Shard) (kept : List KeptEpoch) (number m from to : ℕ) (size : ScanSize)
    → IsJob job → slice_get job.scans number ≡ Some size → IsReadFrom files id job s kept → from ≡ min (m * job.integration) 18446744073709551615
    → to ≡ min size.samples (min (from + job.integration) 18446744073709551615)
    → follow from to (epochs_of_listed (listed_in number m s.kept.items)) ≡ covers job number m (epochs_of_kept kept)
covers-listed files id job s kept number m from to size is there read begins ends =
    let scan = scan-IsScan job number size is there in
    let bound = scan.samples in
    let listed = listed_in number m s.kept.items in
    let start = (integration_at job size m).from in
    let end = (integration_at job size m).to in
    let last : to ≡ end = capped-end m job.integration size.samples from to bound begins ends in
    let low : to < 18446744073709551615 = omega (arith, ends, bound) in
    let first : from ≡ min start 18446744073709551615 = omega (arith, begins) in
    let all = All-filter (λ (a : KeptAt). is_of number m a.epoch) (λ (a : KeptAt). a.epoch.from < 18446744073709551615) s.kept.items
    (All-weaker (λ (a : KeptAt). IsOfPlan a.epoch) (λ (a : KeptAt). a.epoch.from < 18446744073709551615) (λ a plan. omega (arith, plan.some, plan.to))
    s.kept.items (read-IsOfPlan files id job s kept is read)) in
    let cut : covers job number m (epochs_of_kept kept) ≡ follow start end (filter (is_of number m) (epochs_of_kept kept)) =
    ap (λ (o : Option ScanSize). option_map_or
    (λ (z : ScanSize). follow (integration_at job z m).from (integration_at job z m).to (filter (is_of number m) (epochs_of_kept kept))) o false) there in
    ap (λ (n : ℕ). follow n to (epochs_of_listed listed)) first
    ∙ follow-capped start to 18446744073709551615 listed low all
    ∙ ap (λ (n : ℕ). follow start n (epochs_of_listed listed)) last
    ∙ ap (follow start end) (sym (filter-epochs_of_kept read.image number m kept s.kept.items read.places))
    ∙ sym cut
