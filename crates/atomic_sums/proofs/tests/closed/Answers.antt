use Rattle.std.proofs.Common.{arith, lit<, lit≤, sym, ap, subst, ◌≡◌, ◌≤◌, ◌*◌, ◌∙◌, Some, true}
use Rattle.std.proofs.lemmas.List.Elements.{All-pop}
use Rattle.piece_claim.specs.declared.sizes.Sizes.{Sizes}
use Rattle.piece_claim.specs.State.{sums}
use Rattle.piece_claim.specs.Invariant.{IsSizes}
use Rattle.atomic_sums.specs.declared.board.BoardSeat.{BoardSeat}
use Rattle.atomic_sums.proofs.Totals.{totals_within}
use Rattle.atomic_sums.proofs.tests.closed.Goals as goal

pub returns : goal.returns
returns c =
    let k = c.args.board.sizes in
    let e = c.requires.sizes in
    let sizes : IsSizes k = subst IsSizes (sym e) record {
      groups = lit< tt;
      per_group = lit< tt;
      width = lit< tt;
      bound = lit< tt;
      shares = c.requires.shares.0;
      few = c.requires.shares.1;
      fits = lit< tt;
      room = omega arith;
      words = lit< tt;
    } in
    totals_within k c.loop-seat.whole.state c.close.result 3 1998000 c.laws.ensures.words sizes (ap sums e) (subst (λ (q : Sizes). q.per_group * q.bound ≤ 1998000) (sym e) (lit≤ tt)) c.close.ensures.last

pub loop-seat-preserved : goal.loop-seat-preserved
loop-seat-preserved c =
    let P : BoardSeat → Type 0 = λ s. (s.board ≡ c.args.board) × (s.state.done ≡ true) × (s.state.shares ≡ 1) in
    let rest = All-pop P c.loop-seat.seats.items c.pop-in-loop-seat.new.self.items (Some c.in-Some.seat) c.in-Some.ensures.items c.loop-seat.invariant.over in
    let joined = c.join-whole.ensures.joined in
    record {
      over = rest.0;
      of = ap (λ (s : BoardSeat). s.board) joined;
      done = ap (λ (s : BoardSeat). s.state.done) joined ∙ c.loop-seat.invariant.done;
      shares = omega (arith, ap (λ (s : BoardSeat). s.state.shares) joined, rest.1.2, c.in-Some.ensures.len, c.loop-seat.invariant.shares);
    }
