use Rattle.std.proofs.Common.{◌∙◌, ap, arith, ◌∷◌}
use Rattle.fringe_search.proofs.Turns.{next_product, next_scan}
use Rattle.fringe_search.proofs.places.product_after.Goals as goal

pub returns-then-next-count-clause-rest : goal.returns-then-next-count-clause-rest
returns-then-next-count-clause-rest c = next_product c.args.head.now c.args.at c.requires.at c.requires.last (omega arith)

pub returns-else-next-count-clause-rest : goal.returns-else-next-count-clause-rest
returns-else-next-count-clause-rest c =
    next_scan c.args.head.now c.args.at c.requires.at c.requires.last (omega arith) ∙ ap (λ t. c.args.at ∷ t) c.scan_from.ensures.rest
