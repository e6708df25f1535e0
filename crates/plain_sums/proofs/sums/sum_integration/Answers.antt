use Rattle.std.specs.Prelude.{replicate}
use Rattle.std.proofs.Common.{◌≡◌, ◌∙◌, ◌+◌, ◌*◌, ◌≤◌, min, length, drop, refl, ap, rules, arith}
use Rattle.std.proofs.lemmas.List.{take_at}
use Rattle.corr_model.specs.Cell.{no_cell}
use Rattle.plain_sums.proofs.SumLemmas.{begins, none-yet, part-more, integration-whole}
use Rattle.plain_sums.proofs.sums.sum_integration.Goals as goal

pub loop-at-init : goal.loop-at-init
loop-at-init g c =
    let begun = begins c.args.plan.now c.args.scan.now c.args.m c.requires.plan c.requires.inside in
    record {
      begun = omega arith;
      within = omega (arith, c.min-to.ensures, begun);
      held = search rules;
      same = refl;
      kept = refl;
      cells =
          none-yet c.args.plan.now c.args.scan.now (g.F.Shelf.told c.args.shelf.now) (c.args.m * c.args.plan.now.integration) c.start.new.cells
          (c.start.ensures ∙ ap (λ n. replicate n no_cell) c.requires.room);
    }

pub loop-at-preserved : goal.loop-at-preserved
loop-at-preserved g c =
    let before = c.loop-at.invariant in
    let on : c.loop-at.at ≤ c.min-end.result = omega (arith, c.min-end.ensures, c.loop-at-test.true) in
    let within : c.min-end.result ≤ c.min-to.result = omega (arith, c.min-end.ensures) in
    let lent : length c.deref_mut.result.now ≡ c.loop-at.lags.len = search rules in
    let room : length c.deref_mut.result.now ≡ c.args.plan.now.lags = search rules in
    let given : length c.add_part.new.lags ≡ length c.deref_mut.result.now = c.add_part.auto.lags in
    record {
      begun = omega (arith, before.begun, on);
      within = within;
      held = ap length (take_at c.add_part.new.lags (drop (length c.add_part.new.lags) c.loop-at.lags.items) c.loop-at.lags.len (given ∙ lent)) ∙ given ∙ room;
      same = c.in_ok-add_part.ensures.same ∙ before.same;
      kept = c.in_ok-add_part.ensures.counts.kept ∙ before.kept;
      cells =
          part-more c.args.plan.now c.args.scan.now (g.F.Shelf.told c.args.shelf.now) (g.F.Shelf.told c.loop-at.shelf) _ _ _ c.loop-at.cells c.add_part.new.cells
          c.requires.plan c.requires.scan before.same before.begun on (omega (arith, within, c.min-to.ensures)) before.cells c.in_ok-add_part.ensures.added;
    }

pub returns-clause-cells : goal.returns-clause-cells
returns-clause-cells g c =
    let wide : (c.args.m + 1) * c.args.plan.now.integration ≡ c.args.m * c.args.plan.now.integration + c.args.plan.now.integration = grind arith in
    let end : c.loop-at.at ≡ min ((c.args.m + 1) * c.args.plan.now.integration) c.args.scan.now.samples =
    omega (arith, wide, c.min-to.ensures, c.loop-at-test.false, c.loop-at.invariant.within) in
    integration-whole c.args.plan.now c.args.scan.now (g.F.Shelf.told c.args.shelf.now) c.args.m c.loop-at.at c.loop-at.cells end c.loop-at.invariant.cells
