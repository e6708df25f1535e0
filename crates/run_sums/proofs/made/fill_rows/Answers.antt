use Rattle.run_sums.proofs.MadeLemmas.{AreAllMade-cons}
use Rattle.run_sums.proofs.made.fill_rows.Goals as goal

pub returns : goal.returns
returns g c =
    AreAllMade-cons c.args.making.now 0 c.fill_first.new.first c.fill_first.new.rest c.fill_first.ensures.long c.fill_first.ensures.made c.fill_first.ensures.rest
