use Rattle.std.proofs.Common.{◌≡◌, ◌∙◌, ◌*◌, length, ap}
use Rattle.piece_claim.specs.declared.sizes.Sizes.{Sizes}
use Rattle.atomic_sums.specs.Sums.{EpochCells}
use Rattle.journal_cases.proofs.BoardLemmas.{length-cells}
use Rattle.journal_cases.proofs.board.sums_of.Goals as goal

pub returns : goal.returns
returns c =
    let n = length c.args.amounts.now in
    let many : length c.in_ok-sums.sums.totals ≡ n = c.in_ok-sums.ensures.0 ∙ ap (λ (k : Sizes). k.width) c.in_ok-board.ensures.sizes in
    ap (λ (e : EpochCells). 3 * length e.cells) c.unbias.ensures ∙ length-cells c.args.bias n c.in_ok-sums.sums many c.requires.thirds
