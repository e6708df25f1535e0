use Rattle.std.proofs.Common.{arith, ◌≡◌, ◌∙◌, ℕ, List, IfOk, drop, ap, sym}
use Rattle.std.proofs.lemmas.Result.{IfOk-from_err}
use Rattle.piece_claim.specs.State.{pieces}
use Rattle.atomic_sums.specs.Sums.{Totals}
use Rattle.atomic_sums.proofs.Closes.{closed_once, closed_sums, closed_last}
use Rattle.atomic_sums.proofs.board.SumBoard.close.Goals as goal

pub free-requires : goal.free-requires
free-requires c = λ k lt. absurd (omega (arith, lt, c.close_with-closed.ensures.counts.1, c.self.invariant.no_slots))

pub returns-clause-each_once : goal.returns-clause-each_once
returns-clause-each_once c =
    let last = c.close_with-closed.ensures.values.2 in
    closed_once c.self.inside c.seat.inside c.args.self c.args.seat last.0 c.self.view_is c.seat.view_is c.self.invariant c.seat.invariant last.1.0 last.1.1 c.requires.over c.requires.shares

pub returns-clause-sums : goal.returns-clause-sums
returns-clause-sums c =
    let last = c.close_with-closed.ensures.values.2 in
    let make : List ℕ → Totals = λ l. record { totals = l; pieces = pieces c.self.inside.sizes } in
    c.of.ensures
    ∙ ap make (c.in_ok-totals.ensures ∙ ap (drop 1) (sym last.2))
    ∙ closed_sums c.self.inside c.seat.inside c.args.self c.args.seat last.0 c.self.view_is c.seat.view_is c.self.invariant c.seat.invariant last.1.0 last.1.1 c.requires.over c.requires.shares

pub returns-clause-last : goal.returns-clause-last
returns-clause-last c =
    let last = c.close_with-closed.ensures.values.2 in
    closed_last c.self.inside c.seat.inside c.args.self c.args.seat last.0 c.self.view_is c.seat.view_is c.self.invariant c.seat.invariant last.1.0 last.1.1 c.requires.over c.requires.shares (λ words. c.of.result.totals ≡ words)
    (ap (λ (t : Totals). t.totals) c.of.ensures ∙ c.in_ok-totals.ensures ∙ ap (drop 1) (sym last.2))

pub returns-in_err-totals-clause-each_once : goal.returns-in_err-totals-clause-each_once
returns-in_err-totals-clause-each_once c =
    let last = c.close_with-closed.ensures.values.2 in
    closed_once c.self.inside c.seat.inside c.args.self c.args.seat last.0 c.self.view_is c.seat.view_is c.self.invariant c.seat.invariant last.1.0 last.1.1 c.requires.over c.requires.shares

pub returns-in_err-totals-clause-last : goal.returns-in_err-totals-clause-last
returns-in_err-totals-clause-last c =
    let last = c.close_with-closed.ensures.values.2 in
    closed_last c.self.inside c.seat.inside c.args.self c.args.seat last.0 c.self.view_is c.seat.view_is c.self.invariant c.seat.invariant last.1.0 last.1.1 c.requires.over c.requires.shares (λ words. IfOk c.from_residual.result (λ t. t.totals ≡ words))
    (IfOk-from_err c.from_residual.result (λ t. t.totals ≡ drop 1 last.0.words) c.from_residual.ensures.0)
