use Rattle.std.proofs.Common.{◌∙◌}
use Rattle.fringe_search.proofs.Turns.{series_all}
use Rattle.fringe_search.proofs.places.first.Goals as goal

pub returns-clause-first : goal.returns-clause-first
returns-clause-first c = series_all c.args.head.now ∙ c.scan_from.ensures.rest
