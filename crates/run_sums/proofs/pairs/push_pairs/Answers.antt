use Rattle.std.proofs.Common.{[], ◌∷◌, ◌++◌, ap, ◌∙◌, arith}
use Rattle.corr_model.specs.declared.cell.Pair.{Pair}
use Rattle.run_sums.specs.Pairs.{placed_pair}
use Rattle.run_sums.proofs.PairLemmas.{map-next}
use Rattle.run_sums.proofs.pairs.push_pairs.Goals as goal

pub loop-b-preserved : goal.loop-b-preserved
loop-b-preserved c =
    map-next (placed_pair c.args.scan.now c.args.p.now) c.args.pairs.now.items c.loop-b.pairs.items c.push.new.self.items c.args.baselines.now c.loop-b.b-index _
    (omega arith) c.loop-b.invariant (c.in_ok-push.ensures.items ∙ ap (λ (p : Pair). c.loop-b.pairs.items ++ p ∷ []) c.placed_pair.ensures)
