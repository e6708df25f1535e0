use Rattle.std.specs.Prelude.{replicate}
use Rattle.std.proofs.Common.{◌≡◌, ◌∙◌, ℕ, ◌+◌, ◌*◌, ◌<◌, ◌≤◌, min, Option, refl, ap, subst, arith}
use Rattle.corr_model.specs.Cell.{no_cell}
use Rattle.corr_model.specs.Files.{Files}
use Rattle.piece_plan.proofs.Quotients.{below_ceil}
use Rattle.job_plan.specs.declared.plan.Plan.{Plan}
use Rattle.bin_sums.specs.Ahead.{IsAheadOf}
use Rattle.bin_sums.proofs.PhaseLemmas.{has_phase-each}
use Rattle.bin_sums.proofs.ScanLemmas.{scan-IsScanPlan}
use Rattle.bin_sums.proofs.IntegrationLemmas.{none-yet, epoch-more, integration-whole}
use Rattle.bin_sums.proofs.sums.sum_integration.Goals as goal

pub loop-at-init : goal.loop-at-init
loop-at-init g c =
    let plan : Plan = c.args.ready.now.plan in
    let begun : c.args.m * plan.integration < c.args.scan.now.samples =
    below_ceil c.args.scan.now.samples plan.integration c.args.m c.plan-plan.ensures.ranges.some_integration c.requires.inside in
    let start : c.args.m * c.plan-plan.result.now.integration ≡ c.args.m * plan.integration = ap (λ (p : Plan). c.args.m * p.integration) c.plan-plan.ensures.same in
    record {
      begun = omega arith;
      within = omega (arith, c.min-to.ensures, begun, start);
      same = refl;
      kept = refl;
      ahead = c.requires.ahead;
      cells =
          none-yet plan c.args.bins.now c.args.scan.now (g.F.Shelf.told c.args.shelf.now) (c.args.m * c.plan-plan.result.now.integration) c.start.new.cells
          (c.start.ensures ∙ ap (λ (n : ℕ). replicate n no_cell) c.requires.room);
    }

pub add_epoch-requires-clause-covered : goal.add_epoch-requires-clause-covered
add_epoch-requires-clause-covered g c κs within =
    has_phase-each c.args.ready.now.plan c.args.bins.now c.args.number c.args.scan.now c.requires.covered c.requires.scan

pub loop-at-preserved : goal.loop-at-preserved
loop-at-preserved g c =
    let plan : Plan = c.plan-plan.result.now in
    let before = c.loop-at.invariant in
    let wide : (c.args.m + 1) * plan.integration ≡ c.args.m * plan.integration + plan.integration = grind arith in
    let on : c.loop-at.at ≤ c.epoch_at-e.result.to = omega (arith, wide, c.epoch_at-e.ensures.to, c.min-to.ensures, c.loop-at-test.true) in
    let within : c.epoch_at-e.result.to ≤ c.min-to.result = omega (arith, wide, c.epoch_at-e.ensures.to, c.min-to.ensures) in
    record {
      begun = omega (arith, before.begun, on);
      within = within;
      same = c.in_ok-add_epoch.ensures.same ∙ before.same;
      kept = c.in_ok-add_epoch.ensures.counts.kept ∙ before.kept;
      ahead = subst (λ (o : Option Files). IsAheadOf o c.args.ready.now c.add_epoch.new.ahead) before.same c.in_ok-add_epoch.ensures.ahead;
      cells =
          epoch-more c.args.ready.now.plan c.args.bins.now c.args.scan.now (g.F.Shelf.told c.args.shelf.now) (g.F.Shelf.told c.loop-at.shelf) _ c.loop-at.at
          c.epoch_at-e.result.from c.epoch_at-e.result.to c.loop-at.cells c.add_epoch.new.cells
          c.plan-plan.ensures.ranges
          (scan-IsScanPlan c.args.ready.now.plan c.args.number c.args.scan.now c.plan-plan.ensures.ranges c.requires.scan)
          before.same c.epoch_at-e.ensures.from before.begun on (omega (arith, within, c.min-to.ensures)) before.cells c.in_ok-add_epoch.ensures.added;
    }

pub returns-clause-cells : goal.returns-clause-cells
returns-clause-cells g c =
    let plan : Plan = c.plan-plan.result.now in
    let wide : (c.args.m + 1) * plan.integration ≡ c.args.m * plan.integration + plan.integration = grind arith in
    let end : c.loop-at.at ≡ min ((c.args.m + 1) * plan.integration) c.args.scan.now.samples =
    omega (arith, wide, c.min-to.ensures, c.loop-at-test.false, c.loop-at.invariant.within) in
    integration-whole c.args.ready.now.plan c.args.bins.now c.args.scan.now (g.F.Shelf.told c.args.shelf.now) c.args.m (c.args.m * plan.integration) c.loop-at.at c.loop-at.cells
    (ap (λ (p : Plan). c.args.m * p.integration) c.plan-plan.ensures.same)
    (end ∙ ap (λ (p : Plan). min ((c.args.m + 1) * p.integration) c.args.scan.now.samples) c.plan-plan.ensures.same)
    c.loop-at.invariant.cells
