use Rattle.std.proofs.Common.{◌≡◌, ◌∙◌, sym, ap, subst, Option, Some, IfSome, slice_get, rules}
use Rattle.std.proofs.lemmas.Option.{same_Some}
use Rattle.piece_plan.specs.declared.epoch.EpochPlan.{EpochPlan}
use Rattle.job_plan.specs.declared.plan.ScanPlan.{ScanPlan}
use Rattle.run_sums.specs.Frames.{HoldsFrames}
use Rattle.bin_sums.specs.declared.ahead.Held.{Held}
use Rattle.bin_sums.specs.Ahead.{IsHeld}
use Rattle.bin_sums.proofs.ahead.take_frames.Goals as goal

pub returns-then-eq-clause-frames : goal.returns-then-eq-clause-frames
returns-then-eq-clause-frames g c =
    let told = g.F.Shelf.told c.args._shelf.now in
    let ready = c.args._ready.now in
    let frames = c.in_ok-held.held.frames in
    let held : IsHeld told ready c.in_ok-held.held =
    subst (λ (h : Option Held). IfSome h (IsHeld told ready)) (sym c.in_ok-held.ensures.value) c.requires.ahead in
    let epoch : c.in_ok-held.held.epoch ≡ c.args.e.now = search rules in
    let scans : Some held.scan ≡ Some c.args._scan.now =
    sym held.of_scan.there ∙ ap (λ (e : EpochPlan). slice_get ready.plan.scans e.scan) epoch ∙ c.requires.epoch.there in
    subst (λ (e : EpochPlan). HoldsFrames told ready.plan ready.recordings.items c.args._scan.now e frames) epoch
    (subst (λ (scan : ScanPlan). HoldsFrames told ready.plan ready.recordings.items scan c.in_ok-held.held.epoch frames) (same_Some held.scan c.args._scan.now scans) held.frames)
