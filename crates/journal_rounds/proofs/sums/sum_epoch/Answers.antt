use Rattle.journal_rounds.proofs.sums.sum_epoch.Goals as goal

pub sum-requires-clause-held : goal.sum-requires-clause-held
sum-requires-clause-held g c κs within = (c.requires.held.scan, c.requires.held.of_scan, c.requires.held.values)

pub returns-clause-sums : goal.returns-clause-sums
returns-clause-sums g c told held = record {
  fits = held.fits;
  of_plan = held.of_scan.of_scan.of_plan;
  sums = c.in_ok-sums.ensures.sums told held.scan held.of_scan held.values;
}
