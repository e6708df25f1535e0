use Rattle.std.proofs.Common.{rules, ◌≡◌, ◌==◌, ◌≤◌, ℕ, true, length, get_or, arith, sym}
use Rattle.std.proofs.lemmas.List.Sums.{position_or_len_is}
use Rattle.fringe_search.proofs.number.word_len.Goals as goal

pub returns-then-b-stop-clause-place : goal.returns-then-b-stop-clause-place
returns-then-b-stop-clause-place c =
    let here : (get_or c.args.text.now c.loop-i.i 0 == c.args.stop) ≡ true = search rules in
    let within : c.loop-i.i ≤ length c.args.text.now = omega arith in
    sym (position_or_len_is (λ b. b == c.args.stop) c.args.text.now c.loop-i.i 0 within c.loop-i.invariant (λ _. here))

pub returns-clause-place : goal.returns-clause-place
returns-clause-place c =
    let whole : c.loop-i.i ≡ length c.args.text.now = omega arith in
    let n : ℕ = length c.args.text.now in
    sym (position_or_len_is (λ b. b == c.args.stop) c.args.text.now n 0 (omega arith)
    (λ k h. c.loop-i.invariant k (omega (arith, h, whole))) (λ h. absurd (omega (arith, h))))
