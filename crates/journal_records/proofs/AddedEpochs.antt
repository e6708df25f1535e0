-- Epochs in order, however long each of them is, add up to the cells of an integration.
use Rattle.std.specs.Prelude.{slice_get, IfSome, if◌then◌else◌}
use Rattle.std.proofs.Common.{◌≡◌, ◌∙◌, refl, sym, ap, subst, ℕ, ◌+◌, ◌*◌, ◌^◌, ◌<◌, ◌≤◌, ⊎_elim, Bool, true, false, ◌==◌, ◌&&◌, List, [], ◌∷◌, Option, Some, None, arith}
use Rattle.std.proofs.lemmas.Bool.{eqb-true, eq-eqb, cond-true, cond-false, cases_lt}
use Rattle.corr_model.specs.declared.cell.Cell.{Cell}
use Rattle.corr_model.specs.Cell.{Samples}
use Rattle.piece_plan.specs.declared.job.ScanSize.{ScanSize}
use Rattle.piece_plan.specs.declared.epoch.EpochPlan.{EpochPlan}
use Rattle.piece_plan.specs.Epochs.{JobSizes, IsEpoch, integration_at}
use Rattle.piece_plan.specs.Order.{Place, place_of, job_start, place_after, AreInOrder, CoverJob}
use Rattle.plan_places.specs.Places.{IsPlace, IsUpTo, IsBefore}
use Rattle.plan_places.proofs.Orders.{up_to-or-before}
use Rattle.plan_places.proofs.AfterLemmas.{after-inside, first-before}
use Rattle.job_plan.specs.declared.plan.ScanPlan.{ScanPlan}
use Rattle.job_plan.specs.declared.plan.Plan.{Plan}
use Rattle.job_epochs.specs.Sums.{range_cells}
use Rattle.job_epochs.specs.Added.{add_cells, is_of}
use Rattle.job_epochs.proofs.RangeCells.{AllSmall, range_cells-split}
use Rattle.job_epochs.proofs.FoldLemmas.{added_by}
use Rattle.journal_records.proofs.OrderSteps.{IsPast, after-IsPast, end-IsPast, before-other, before-goes_on, place-same}

is_of-true : (number m k j : ℕ) → k ≡ number → j ≡ m → ((k == number) && (j == m)) ≡ true
is_of-true number m k j scan here = ap (λ (b : Bool). b && (j == m)) (eq-eqb k number scan) ∙ eq-eqb j m here

is_of-false : (number m k j : ℕ) → (k ≡ number → j ≡ m → ⊥) → ((k == number) && (j == m)) ≡ false
is_of-false number m k j other = one_false (k == number) (j == m) (λ same here. other (eqb-true k number same) (eqb-true j m here))
  where
    one_false : (a b : Bool) → (a ≡ true → b ≡ true → ⊥) → (a && b) ≡ false
    one_false true true never = absurd (never refl refl)
    one_false true false never = refl
    one_false false b never = refl

module _ (f : EpochPlan → List Cell) (number m : ℕ) (job : JobSizes) where
  -- an epoch of the integration adds its cells, and one of another adds none
  counted : (sum : List Cell) (e : EpochPlan) → e.scan ≡ number → e.m ≡ m
      → (if is_of number m e then add_cells sum (f e) else sum) ≡ add_cells sum (f e)
  counted sum e scan here = cond-true ((e.scan == number) && (e.m == m)) _ sum (is_of-true number m e.scan e.m scan here)

  left_out : (sum : List Cell) (e : EpochPlan) → (e.scan ≡ number → e.m ≡ m → ⊥)
      → (if is_of number m e then add_cells sum (f e) else sum) ≡ sum
  left_out sum e other = cond-false ((e.scan == number) && (e.m == m)) _ sum (is_of-false number m e.scan e.m other)

  -- behind the integration nothing is added
  past-added : (due : Option Place) (epochs : List EpochPlan) (sum : List Cell) → AreInOrder job due epochs None
      → IfSome due (IsPast number m) → added_by f number m sum epochs ≡ sum
  past-added due [] sum are past = refl
  past-added None (e ∷ epochs) sum are past = absurd (cc (are.0))
  past-added (Some p) (e ∷ epochs) sum are past =
      let begins : ◌≡◌ {A = Option Place} (Some p) (Some (place_of e)) = are.0 in
      let same : p ≡ place_of e = cc in
      let here : IsPast number m (place_of e) = subst (IsPast number m) same past in
      ap (λ (cells : List Cell). added_by f number m cells epochs)
      (left_out sum e (λ scan at. omega (arith, here.later (sym scan), at)))
      ∙ past-added (place_after job e) epochs sum are.2 (after-IsPast number m job e are.1 here)

  module _ (plan : Plan) (z : Samples) (scan : ScanPlan) (size : ScanSize) (small : AllSmall z)
      (there : slice_get job.scans number ≡ Some size) (few : (integration_at job size m).to ≤ 2 ^ 40)
      (each : (e : EpochPlan) → e.scan ≡ number → f e ≡ range_cells plan z scan e.from e.to) where
    -- from a sample in the integration on
    inside-added : (n : ℕ) (due : Option Place) (epochs : List EpochPlan) (sum : List Cell)
        → due ≡ Some (record { scan = number; m = m; from = n }) → (integration_at job size m).from ≤ n
        → AreInOrder job due epochs None → sum ≡ range_cells plan z scan (integration_at job size m).from n
        → added_by f number m sum epochs
        ≡ range_cells plan z scan (integration_at job size m).from (integration_at job size m).to
    inside-added n due [] sum place low are is =
        let both : ◌≡◌ {A = Option Place} None (Some (record { scan = number; m = m; from = n })) = sym are ∙ place in
        absurd (cc)
    inside-added n due (e ∷ epochs) sum place low are is =
        let both : ◌≡◌ {A = Option Place} (Some (place_of e)) (Some (record { scan = number; m = m; from = n })) =
        sym are.0 ∙ place in
        let same : ◌≡◌ {A = Place} (place_of e) (record { scan = number; m = m; from = n }) = cc in
        let number_is : e.scan ≡ number = ap (λ (p : Place). p.scan) same in
        let m_is : e.m ≡ m = ap (λ (p : Place). p.m) same in
        let from_is : e.from ≡ n = ap (λ (p : Place). p.from) same in
        let fits : IsEpoch job e = are.1 in
        let sizes : ◌≡◌ {A = Option ScanSize} (Some fits.size) (Some size) =
        sym fits.scan ∙ ap (slice_get job.scans) number_is ∙ there in
        let size_is : fits.size ≡ size = cc in
        let end_is : (integration_at job fits.size e.m).to ≡ (integration_at job size m).to =
        ap (λ (s : ScanSize). (integration_at job s e.m).to) size_is ∙ ap (λ (j : ℕ). (integration_at job size j).to) m_is in
        let within : e.to ≤ (integration_at job size m).to = omega (arith, fits.to, end_is) in
        let added : (if is_of number m e then add_cells sum (f e) else sum)
        ≡ range_cells plan z scan (integration_at job size m).from e.to =
        counted sum e number_is m_is
        ∙ ap (λ (cells : List Cell). add_cells cells (f e)) is
        ∙ ap (add_cells (range_cells plan z scan (integration_at job size m).from n)) (each e number_is)
        ∙ ap
        (λ (k : ℕ). add_cells (range_cells plan z scan (integration_at job size m).from n) (range_cells plan z scan k e.to)) from_is
        ∙ range_cells-split plan z scan (integration_at job size m).from n e.to small low
        (omega (arith, from_is, fits.some)) (omega (arith, within, few)) in
        ⊎_elim
        (λ (inside : e.to < (integration_at job size m).to).
        let next : place_after job e ≡ Some (record { scan = number; m = m; from = e.to }) =
        after-inside job e fits.size fits.scan (omega (arith, inside, end_is))
        ∙ ap (λ (p : Place). Some (record { scan = p.scan; m = p.m; from = e.to })) same in
        inside-added e.to (place_after job e) epochs _ next (omega (arith, low, from_is, fits.some)) are.2 added)
        (λ (end : (integration_at job size m).to ≤ e.to).
        let whole : e.to ≡ (integration_at job size m).to = omega (arith, end, within) in
        let past : IfSome (place_after job e) (IsPast number m) =
        subst (λ (p : Place). IfSome (place_after job e) (IsPast p.scan p.m)) same
        (end-IsPast job e fits (omega (arith, end, end_is))) in
        past-added (place_after job e) epochs _ are.2 past ∙ added
        ∙ ap (range_cells plan z scan (integration_at job size m).from) whole)
        (cases_lt e.to (integration_at job size m).to)

    -- from a place on that is not behind the integration's first sample
    reached-added : (due : Option Place) (p : Place) (epochs : List EpochPlan) (sum : List Cell) → due ≡ Some p
        → IsUpTo p (record { scan = number; m = m; from = (integration_at job size m).from })
        → IsPlace job (record { scan = number; m = m; from = (integration_at job size m).from })
        → AreInOrder job due epochs None
        → sum ≡ range_cells plan z scan (integration_at job size m).from (integration_at job size m).from
        → added_by f number m sum epochs
        ≡ range_cells plan z scan (integration_at job size m).from (integration_at job size m).to
    reached-added due p [] sum begins order place are is =
        let both : ◌≡◌ {A = Option Place} None (Some p) = sym are ∙ begins in
        absurd (cc)
    reached-added due p (e ∷ epochs) sum begins order place are is =
        let first : Place = record { scan = number; m = m; from = (integration_at job size m).from } in
        let both : ◌≡◌ {A = Option Place} (Some p) (Some (place_of e)) = sym begins ∙ are.0 in
        let same : p ≡ place_of e = cc in
        let here : 0 + m * job.integration ≡ m * job.integration = omega arith in
        ⊎_elim
        (λ (reached : IsUpTo first (place_of e)).
        let at : p ≡ first = place-same p first order (subst (IsUpTo first) (sym same) reached) in
        inside-added (integration_at job size m).from due (e ∷ epochs) sum (begins ∙ ap {B = Option Place} Some at) (omega arith)
        are is)
        (λ (before : IsBefore (place_of e) first).
        let next = before-goes_on job e first place are.1 here before in
        ap (λ (cells : List Cell). added_by f number m cells epochs)
        (left_out sum e (before-other job e first are.1 here before))
        ∙ reached-added (place_after job e) next.0 epochs sum next.1 next.2 place are.2 is)
        (up_to-or-before first (place_of e))

    -- epochs that cover the job
    pub cover-added : (epochs : List EpochPlan) (sum : List Cell) → CoverJob job epochs → size.first ≤ m
        → (integration_at job size m).from < (integration_at job size m).to
        → sum ≡ range_cells plan z scan (integration_at job size m).from (integration_at job size m).from
        → added_by f number m sum epochs
        ≡ range_cells plan z scan (integration_at job size m).from (integration_at job size m).to
    cover-added epochs sum cover begun some is =
        let place : IsPlace job (record { scan = number; m = m; from = (integration_at job size m).from }) = record {
          size = size;
          scan = there;
          first = begun;
          from = omega arith;
          inside = some;
        } in
        let first = first-before job (record { scan = number; m = m; from = (integration_at job size m).from }) place in
        reached-added (job_start job) first.0 epochs sum first.1 first.2 place cover is
