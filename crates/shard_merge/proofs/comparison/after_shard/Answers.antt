use Rattle.std.specs.Prelude.{option_map}
use Rattle.std.proofs.Common.{◌∙◌, ap, refl}
use Rattle.std.proofs.lemmas.Bool.{not-true, not-false}
use Rattle.shard_merge.specs.Verdict.{earlier}
use Rattle.shard_merge.specs.CompareSteps.{as_difference}
use Rattle.shard_merge.proofs.CompareShards.{IsFoundAfter-uncovered, IsFoundAfter-first, IsFoundAfter-more}
use Rattle.shard_merge.proofs.comparison.after_shard.Goals as goal

pub returns-then-not-covers-clause-stands : goal.returns-then-not-covers-clause-stands
returns-then-not-covers-clause-stands g c =
    IsFoundAfter-uncovered (g.F.Shelf.told c.args.shelf.now) c.args.plan.now c.args.shard.now c.args.number c.args.m c.covers.result
    c.args.found c.args.first.now c.covers.ensures c.if-not-covers.true

pub returns-then-not-found-clause-stands : goal.returns-then-not-found-clause-stands
returns-then-not-found-clause-stands g c =
    IsFoundAfter-first (g.F.Shelf.told c.args.shelf.now) c.args.plan.now c.args.shard.now c.args.number c.args.m _ c.covers.result
    c.args.found _ c.args.first.now c.sum_cells.new.sums c.covers.ensures c.if-not-covers.false (not-true c.args.found.some c.if-not-found.true) refl refl
    c.requires.first c.in_ok-sum_cells.ensures.sums

pub returns-clause-stands : goal.returns-clause-stands
returns-clause-stands g c =
    IsFoundAfter-more (g.F.Shelf.told c.args.shelf.now) c.args.plan.now c.args.shard.now c.args.number c.args.m _ c.covers.result
    c.args.found _ c.args.first.now c.sum_cells-2.new.sums c.covers.ensures c.if-not-covers.false (not-false c.args.found.some c.if-not-found.false) refl
    (c.earlier.ensures.least ∙ ap (earlier (option_map as_difference c.args.found.least)) c.difference.ensures.first)
    c.requires.other c.in_ok-sum_cells-2.ensures.sums
