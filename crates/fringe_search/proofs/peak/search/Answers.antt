use Rattle.std.proofs.Common.{subst, sym}
use Rattle.fringe_search.specs.Layout.{Series}
use Rattle.fringe_search.specs.Peaks.{IsPeak, IsSmall}
use Rattle.fringe_search.proofs.peak.search.Goals as goal

pub peak_of-requires : goal.peak_of-requires
peak_of-requires c = subst (λ (s : Series). IsSmall s) (sym c.of.ensures) (c.requires.small (record { scan = c.args.scan; product = c.args.product; baseline = c.args.baseline }) c.requires.at)

pub returns : goal.returns
returns c = subst (λ (s : Series). IsPeak s c.args.grid.now c.peak_of.result) c.of.ensures c.peak_of.ensures
