use Rattle.std.proofs.Common.{◌≡◌, ◌+◌, length, get_or, ap, subst, arith}
use Rattle.corr_model.proofs.CellLemmas.{IsGrown}
use Rattle.lag_kernel.proofs.HeldLemmas.{block-adds}
use Rattle.lag_kernel.proofs.lags.add_held.Goals as goal

pub returns-clause-adds : goal.returns-clause-adds
returns-clause-adds g c =
    let held : length c.fetch.new.held ≡ length c.args.first.now = c.fetch.auto.held in
    let wide : length c.fetch-2.new.held ≡ length c.args.second.now = c.fetch-2.auto.held in
    block-adds (g.V.Values.samples c.args.v.now) c.args.pair.now c.args.samples c.args.at (c.args.at + length c.args.first.now) c.fetch.new.held c.fetch-2.new.held c.args.out.now c.add_sums.new.out
    c.fetch.ensures.values c.fetch-2.ensures.values (ap (λ n. c.args.at + n) held) c.requires.inside (omega (arith, held, wide, c.requires.room)) c.add_sums.ensures.adds

pub returns-clause-grown : goal.returns-clause-grown
returns-clause-grown g c =
    λ k d h. subst (λ n. IsGrown (get_or c.add_sums.new.out k d) (c.args.pairs + n)) c.fetch.auto.held (c.add_sums.ensures.grown k d h)
