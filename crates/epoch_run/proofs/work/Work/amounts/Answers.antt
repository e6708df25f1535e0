use Rattle.std.specs.Prelude.{flat_map}
use Rattle.std.proofs.Common.{◌-◌, ◌*◌, ◌≤◌, ◌∙◌, All, ap, sym, subst}
use Rattle.epoch_run.specs.Amounts.{amounts_in, bias_of}
use Rattle.epoch_run.proofs.Pieces.{amounts_of-piece, amounts-within}
use Rattle.epoch_run.proofs.work.Work.amounts.Goals as goal

pub returns : goal.returns
returns c =
    let w = c.args.self.now in
    let p = c.piece_at-piece.result in
    let pair = c.pair_of-pair.result in
    record {
      amounts = c.write_amounts.ensures ∙ ap (flat_map (amounts_in (bias_of (p.to - p.from)))) c.sum_piece.ensures.cells
          ∙ sym (amounts_of-piece w c.args.n p pair c.piece_at-piece.ensures.at c.pair_of-pair.ensures);
      within = subst (All (λ a. a ≤ 900 * w.piece)) (sym c.write_amounts.ensures)
          (amounts-within w p c.sum_piece.new.cells c.piece_at-piece.ensures.part c.sum_piece.ensures.within);
    }
