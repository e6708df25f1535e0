use Rattle.std.proofs.Common.{◌≡◌, ℕ, map, filter, length, get_or, ap, refl, ◌∙◌, arith}
use Rattle.std.proofs.lemmas.List.{take_all}
use Rattle.named_list.specs.Named.{names}
use Rattle.job_plan.specs.declared.plan.ScanPlan.{ScanPlan}
use Rattle.job_join.specs.declared.joining.Joining.{Joining}
use Rattle.job_join.specs.declared.places.Place.{Place}
use Rattle.job_join.specs.Standing.{taken}
use Rattle.job_join.specs.Joined.{scan_plan}
use Rattle.job_join.specs.Planned.{has_baseline}
use Rattle.job_join.proofs.HeldLemmas.{map-taken}
use Rattle.job_join.proofs.ReadyLemmas.{scans-turn}
use Rattle.job_join.proofs.scans.scan_plans.Goals as goal

pub loop-place-preserved : goal.loop-place-preserved
loop-place-preserved c =
    let j : Joining = c.args.j.now in
    let i : ℕ = c.loop-place.place-index in
    let p : Place = c.place-item.result in
    let is : p ≡ get_or j.places.items i p = c.place-item.is ∙ ap (λ ps. get_or ps i p) c.deref-place-items.ensures.value in
    let long : length c.deref-place-items.result.now ≡ length j.places.items = ap length c.deref-place-items.ensures.value in
    scans-turn (λ (q : Place). scan_plan j.job.now j.rate (names j.channels) q.scan.now) j.places.items i p c.loop-place.all.items c.add.new.plans.items (omega arith) is c.loop-place.invariant c.in_ok-add.ensures

pub returns : goal.returns
unfolding taken
returns c =
    let j : Joining = c.args.j.now in
    let f : Place → ScanPlan = λ (q : Place). scan_plan j.job.now j.rate (names j.channels) q.scan.now in
    let long : length c.deref-place-items.result.now ≡ length j.places.items = ap length c.deref-place-items.ensures.value in
    c.loop-place.invariant ∙ ap (λ ps. filter has_baseline (map f (filter (λ (q : Place). q.taken) ps))) (take_all c.loop-place.place-index j.places.items (omega arith))
    ∙ ap (filter has_baseline) (map-taken j.job.now f (scan_plan j.job.now j.rate (names j.channels)) (λ p held. refl) j.places.items c.requires.joining.visits)
