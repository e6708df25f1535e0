use Rattle.std.specs.Prelude.{slice_get}
use Rattle.std.proofs.Common.{◌≡◌, ◌+◌, ◌*◌, ◌/◌, ◌<◌, ◌∙◌, length, Some, ap, sym, subst, arith}
use Rattle.piece_plan.specs.Pieces.{PieceSizes, per_group, pieces_of}
use Rattle.epoch_run.specs.Amounts.{cut_of}
use Rattle.epoch_run.specs.Levelled.{IsWork}
use Rattle.epoch_run.proofs.Pieces.{IsPart-piece, group-pair, length-work}
use Rattle.epoch_run.proofs.work.Work.piece_at.Goals as goal

pub piece-requires : goal.piece-requires
piece-requires c =
    let w = c.args.self.now in
    let cut : c.new.result ≡ cut_of w = c.new.ensures.sizes ∙ ap cut_of c.self.view_is in
    subst (λ (s : PieceSizes). c.args.n < length (pieces_of s)) (sym cut) (omega (arith, length-work w, c.requires))

pub returns : goal.returns
returns c =
    let w = c.args.self.now in
    let is : IsWork w = subst IsWork c.self.view_is c.self.invariant in
    let cut : c.new.result ≡ cut_of w = c.new.ensures.sizes ∙ ap cut_of c.self.view_is in
    let p = c.piece.result in
    let at = subst (λ (s : PieceSizes). slice_get (pieces_of s) c.args.n ≡ Some p) cut c.piece.ensures.at in
    let group =
    subst (λ (s : PieceSizes). p.product * s.epoch.baselines + p.baseline ≡ c.args.n / per_group s) cut c.piece.ensures.group in
    record {
      at = at;
      part = IsPart-piece w c.args.n p is (omega (arith, length-work w, c.requires)) at;
      group = omega (arith, group, group-pair w c.args.n is c.requires);
    }
