use Rattle.std.proofs.Common.{◌++◌, codes, ◌∙◌}
use Rattle.fringe_search.proofs.Strips.{word, place_parts, behind_front, place_strips}
use Rattle.fringe_search.proofs.strip.strip_place.Goals as goal

pub returns-in_err-product : goal.returns-in_err-product
returns-in_err-product c = rw c.from_residual-in_err-product.ensures (λ rest e.
    let at = c.args.at in
    c.in_err-product.ensures (word at.product ++ (word at.baseline ++ rest))
    (behind_front c.args.text.now (codes "peak ") c.in_ok-scan.scan.now (word at.scan ++ (word at.product ++ (word at.baseline ++ rest))) c.in_ok-scan.ensures (e ∙ place_parts at rest)))

pub returns-in_err-baseline : goal.returns-in_err-baseline
returns-in_err-baseline c = rw c.from_residual-in_err-baseline.ensures (λ rest e.
    let at = c.args.at in
    let scan = behind_front c.args.text.now (codes "peak ") c.in_ok-scan.scan.now (word at.scan ++ (word at.product ++ (word at.baseline ++ rest))) c.in_ok-scan.ensures (e ∙ place_parts at rest) in
    c.in_err-baseline.ensures (word at.baseline ++ rest) (behind_front c.in_ok-scan.scan.now (word at.scan) c.in_ok-product.product.now (word at.product ++ (word at.baseline ++ rest)) c.in_ok-product.ensures scan))

pub returns : goal.returns
returns c =
    place_strips c.args.text.now c.args.at c.in_ok-scan.scan.now c.in_ok-product.product.now c.in_ok-baseline.baseline.now c.strip_number-3.result
    c.in_ok-scan.ensures
    c.in_ok-product.ensures
    c.in_ok-baseline.ensures
    c.strip_number-3.ensures
