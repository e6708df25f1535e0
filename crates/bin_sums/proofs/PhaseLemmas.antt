-- Where no scan of a plan is without a phase, each has one.
use Rattle.std.specs.Prelude.{slice_get}
use Rattle.std.specs.List.{position_or_len}
use Rattle.std.proofs.Common.{◌≡◌, ◌∙◌, refl, sym, ap, ℕ, ◌<◌, Bool, true, false, not, length, Some, None, arith}
use Rattle.std.proofs.lemmas.List.Sums.{prefix_len_passes}
use Rattle.std.proofs.lemmas.Option.{slice_get_within, get_or_from_slice_get}
use Rattle.job_plan.specs.declared.plan.ScanPlan.{ScanPlan}
use Rattle.job_plan.specs.declared.plan.Plan.{Plan}
use Rattle.pulsar_bins.specs.Bins.{BinsFields}
use Rattle.pulsar_bins.specs.Scans.{has_phase, no_phase}
use Rattle.run_sums.proofs.PlaceLemmas.{position_or_len-None}

not-not : (b : Bool) → not (not b) ≡ true → b ≡ true
not-not true h = refl
not-not false h = h

pub has_phase-each : (plan : Plan) (bins : BinsFields) (i : ℕ) (scan : ScanPlan) → no_phase bins plan ≡ None → slice_get plan.scans i ≡ Some scan
    → has_phase plan bins scan ≡ true
unfolding no_phase
has_phase-each plan bins i scan none there =
    let lacks : ScanPlan → Bool = λ s. not (has_phase plan bins s) in
    let all : length plan.scans ≡ position_or_len lacks plan.scans = position_or_len-None lacks plan.scans none in
    let inside : i < position_or_len lacks plan.scans = omega (arith, all, slice_get_within plan.scans i scan there) in
    not-not (has_phase plan bins scan)
    (ap (λ (s : ScanPlan). not (lacks s)) (sym (get_or_from_slice_get plan.scans i scan scan there))
    ∙ prefix_len_passes (λ (s : ScanPlan). not (lacks s)) plan.scans i scan inside)
