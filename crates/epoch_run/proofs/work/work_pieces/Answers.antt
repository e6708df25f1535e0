use Rattle.std.proofs.Common.{◌≡◌, ◌<◌, ◌++◌, ◌∷◌, [], List, ap, sym, subst, ◌∙◌}
use Rattle.piece_claim.specs.State.{Piece, piece, pieces}
use Rattle.atomic_sums.specs.Seats.{BoardId, SeatOf, finished_with}
use Rattle.epoch_run.specs.Left.{left}
use Rattle.epoch_run.proofs.Fewer.{fewer}
use Rattle.epoch_run.proofs.work.work_pieces.Goals as goal

pub loop-n-smaller : goal.loop-n-smaller
loop-n-smaller g c =
    let v = c.loop-n.seat.state in
    let n = c.in-Some.n in
    let amounts = c.amounts.new.amounts in
    let drawn = c.in-Some.ensures.drawn in
    let m = pieces c.args.board.now.sizes in
    let inside : n < m = subst (λ (b : BoardId). n < pieces b.sizes) c.loop-n.invariant.of drawn.0 in
    let grown : c.post.new.seat.state.finished ≡ v.finished ++ piece n amounts ∷ [] =
    ap (λ (s : SeatOf). s.state.finished) c.post.ensures.finished
    ∙ ap (λ (s : SeatOf). (finished_with s.state.hand s.state amounts).finished) drawn.2 in
    subst (λ (ps : List Piece). left ps m < left v.finished m) (sym grown) (fewer v.finished n m amounts inside drawn.1)
