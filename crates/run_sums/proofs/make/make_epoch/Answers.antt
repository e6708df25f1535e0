use Rattle.std.proofs.Common.{◌≡◌, ◌∙◌, ℕ, List, Vec, Global, refl, ap, subst, length}
use Rattle.job_plan.specs.declared.plan.Plan.{Plan}
use Rattle.epoch_run.specs.Rows.{HoldRows}
use Rattle.epoch_run.proofs.PlaneValues.{kept_items}
use Rattle.run_sums.proofs.FrameLemmas.{HoldsEpoch-all}
use Rattle.run_sums.proofs.make.make_epoch.Goals as goal

pub returns : goal.returns
returns g c = λ told holds.
    let ready = c.args.ready.now in
    let frames = c.args.frames in
    let new = c.fill_rows.new.rows in
    let from = c.reach_from-from.result in
    let many : length new ≡ length frames.rows.items = c.fill_rows.auto.rows ∙ ap (λ (l : List (Vec ℕ Global)). length l) c.deref_mut.ensures.value in
    let kept = kept_items frames.rows new many in
    let chans : length c.items-2.result.now ≡ length ready.plan.channels =
    ap (λ l. length l) c.items-2.ensures ∙ ap (λ (p : Plan). length p.channels) c.plan-plan.ensures.same in
    HoldsEpoch-all told ready.plan ready.recordings.items c.args.scan.now c.args.e.now frames _ new _
    c.plan-plan.ensures.same refl c.deref.ensures.value c.deref-2.ensures.value c.reach_from-from.ensures c.reach_to-to.ensures
    c.plan-plan.ensures.ranges c.requires.ranges ready.named many refl (c.in_ok-planes.ensures.count ∙ ap (λ l. length l) c.items.ensures)
    (subst (λ (n : ℕ). HoldRows from n new c.in_ok-planes.planes) chans
    (subst (λ (rows : List (Vec ℕ Global)). HoldRows from (length c.items-2.result.now) rows c.in_ok-planes.planes) kept c.in_ok-planes.ensures.rows))
    c.fill_rows.ensures holds
