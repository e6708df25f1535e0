use Rattle.std.proofs.Common.{◌≡◌, ◌∙◌, ◌+◌, ◌*◌, ◌<◌, ◌++◌, take, length, ap, sym, arith, ℕ, List}
use Rattle.corr_model.specs.Records.{cell_text}
use Rattle.checkpoint_journal.proofs.TextLemmas.{body_text-more}
use Rattle.checkpoint_journal.proofs.record.fill.Goals as goal

pub loop-k-preserved : goal.loop-k-preserved
loop-k-preserved c =
    let k = c.loop-k.k in
    let buffer = c.put_cell.new.buffer in
    let place : 24 * (k + 1) ≡ 24 * k + 24 = omega arith in
    let inside : c.args.first + k < length c.args.sums.now.cells = omega arith in
    ap (λ (n : ℕ). take n buffer) place ∙ c.put_cell.ensures ∙ ap (λ (l : List ℕ). l ++ cell_text c.cell.result) c.loop-k.invariant
    ∙ sym (body_text-more c.args.sums.now.cells c.args.first k c.cell.result inside c.cell.ensures)
