use Rattle.piece_plan.proofs.EndLemmas.{ends-sorted}
use Rattle.piece_plan.proofs.JobLemmas.{some_ends, last_end}
use Rattle.piece_plan.proofs.EpochLemmas.{found_by, epoch_at-IsEpoch, IsEpoch-IsOfPlan}
use Rattle.piece_plan.proofs.job.JobPlan.epoch.Goals as goal

pub first_above-scan-requires-clause-some : goal.first_above-scan-requires-clause-some
first_above-scan-requires-clause-some c =
    let inside = rw (← c.self.view_is) at c.requires in
    rw c.deref.ensures.value (some_ends _ c.self.inside.ends.items c.args.i c.self.invariant.1 inside)

pub first_above-scan-requires-clause-last : goal.first_above-scan-requires-clause-last
first_above-scan-requires-clause-last c =
    let inside = rw (← c.self.view_is) at c.requires in
    let some = some_ends _ c.self.inside.ends.items c.args.i c.self.invariant.1 inside in
    rw (c.deref.ensures.value, last_end _ c.self.inside.ends.items c.self.invariant.1 some) inside

pub first_above-scan-requires-clause-sorted : goal.first_above-scan-requires-clause-sorted
first_above-scan-requires-clause-sorted c = rw c.deref.ensures.value (ends-sorted _ c.self.inside.ends.items c.self.invariant.1)

pub epoch_in-requires-clause-inside : goal.epoch_in-requires-clause-inside
epoch_in-requires-clause-inside c =
    let found = found_by _ c.self.inside.ends.items c.deref.result.now c.deref-2.result.now c.args.i c.first_above-scan.result c.number_before-before.result c.index.result.now
    c.self.invariant.0 c.self.invariant.1 c.deref.ensures.value c.deref-2.ensures.value
    c.first_above-scan.ensures.within c.first_above-scan.ensures.above c.first_above-scan.ensures.before
    c.number_before-before.ensures.first c.number_before-before.ensures.later c.index.ensures in
    found.inside

pub returns : goal.returns
returns c =
    let found = found_by _ c.self.inside.ends.items c.deref.result.now c.deref-2.result.now c.args.i c.first_above-scan.result c.number_before-before.result c.index.result.now
    c.self.invariant.0 c.self.invariant.1 c.deref.ensures.value c.deref-2.ensures.value
    c.first_above-scan.ensures.within c.first_above-scan.ensures.above c.first_above-scan.ensures.before
    c.number_before-before.ensures.first c.number_before-before.ensures.later c.index.ensures in
    let is = c.epoch_in.ensures c.self.inside.scans.items in
    let inside = epoch_at-IsEpoch _ _ _ _ c.self.invariant.0 found.scan found.inside in
    rw (← c.self.view_is, is)
    (record { at = found.at; inside = inside; of_plan = IsEpoch-IsOfPlan _ _ c.self.invariant.0 inside })
