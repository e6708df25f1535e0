use Rattle.std.proofs.Common.{◌≡◌, Some, ap, sym, subst, ◌∙◌, arith}
use Rattle.std.proofs.lemmas.List.Elements.{All-append, All-pop}
use Rattle.piece_claim.specs.State.{Piece}
use Rattle.atomic_sums.specs.Seats.{SeatOf}
use Rattle.epoch_run.specs.Amounts.{HaveAmounts, amounts_of}
use Rattle.epoch_run.specs.Team.{IsOver}
use Rattle.epoch_run.proofs.team.join_team.Goals as goal

pub loop-worker-preserved : goal.loop-worker-preserved
loop-worker-preserved c =
    let work = c.args._work.now in
    let was = c.loop-worker.invariant in
    let rest =
    All-pop (IsOver work c.args.board.now) c.loop-worker.team.items c.pop-in-loop-worker.new.self.items
    (Some c.in-Some-pop.worker) c.in-Some-pop.ensures.items was.team in
    let joined = c.join-seat.ensures.joined in
    record {
      team = rest.0;
      of = ap (λ (s : SeatOf). s.board) joined;
      over = ap (λ (s : SeatOf). s.state.done) joined ∙ was.over;
      shares = omega (arith, ap (λ (s : SeatOf). s.state.shares) joined, rest.1.share, c.in-Some-pop.ensures.len, was.shares);
      amounts = subst (HaveAmounts work) (sym (ap (λ (s : SeatOf). s.state.finished) joined))
          (All-append (λ (p : Piece). p.amounts ≡ amounts_of work p.number) c.loop-worker.seat.state.finished
          c.in-Some-pop.worker.seat.state.finished was.amounts rest.1.amounts);
    }
