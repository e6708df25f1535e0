use Rattle.std.proofs.Common.{◌≡◌, ◌<◌, ◌≤◌, ℕ, Bool, false, not, List, length, get_or, rules, sym, ap, ◌∙◌}
use Rattle.std.specs.List.{position}
use Rattle.job_plan.specs.declared.plan.Plan.{Plan}
use Rattle.job_plan.specs.declared.plan.ScanPlan.{ScanPlan}
use Rattle.pulsar_bins.specs.Bins.{BinsFields}
use Rattle.pulsar_bins.specs.Scans.{has_phase}
use Rattle.job_plan.proofs.FirstLemmas.{first-start, first-found, first-none}
use Rattle.pulsar_bins.proofs.scans.first_without.Goals as goal

abbrev lacks : Plan → BinsFields → ScanPlan → Bool
lacks plan bins scan = not (has_phase plan bins scan)

pub loop-i-init : goal.loop-i-init
loop-i-init c = first-start (lacks c.args.plan.now c.args.bins.now) c.args.scans.now

pub returns-then-not-has_phase : goal.returns-then-not-has_phase
returns-then-not-has_phase c =
    let xs : List ScanPlan = c.args.scans.now in
    let p : ScanPlan → Bool = lacks c.args.plan.now c.args.bins.now in
    let i : ℕ = c.loop-i.i in
    let d : ScanPlan = c.index-scans-i.result in
    let less : i < length xs = search rules in
    let is : d ≡ get_or xs i d = search rules in
    let gone : has_phase c.args.plan.now c.args.bins.now d ≡ false = sym c.has_phase.ensures ∙ c.if-not-has_phase.true in
    first-found p xs (position p xs) i d less (ap p (sym is) ∙ ap not gone) c.loop-i.invariant

pub returns : goal.returns
returns c =
    let xs : List ScanPlan = c.args.scans.now in
    let p : ScanPlan → Bool = lacks c.args.plan.now c.args.bins.now in
    let past : length xs ≤ c.loop-i.i = search rules in
    first-none p xs (position p xs) c.loop-i.i past c.loop-i.invariant
