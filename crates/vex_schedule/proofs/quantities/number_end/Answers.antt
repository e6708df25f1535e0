use Rattle.std.proofs.Common.{rules, ◌≡◌, ◌≤◌, ℕ, true, length, get_or, arith, sym}
use Rattle.std.proofs.lemmas.List.Sums.{position_or_len_is}
use Rattle.vex_schedule.specs.Quantities.{ends_number}
use Rattle.vex_schedule.proofs.quantities.number_end.Goals as goal

pub returns-then-ends_number-clause-place : goal.returns-then-ends_number-clause-place
returns-then-ends_number-clause-place c =
    let here : ends_number (get_or c.args.text.now c.loop-i.i 0) ≡ true = search rules in
    let within : c.loop-i.i ≤ length c.args.text.now = omega arith in
    sym (position_or_len_is ends_number c.args.text.now c.loop-i.i 0 within c.loop-i.invariant (λ _. here))

pub returns-clause-place : goal.returns-clause-place
returns-clause-place c =
    let whole : c.loop-i.i ≡ length c.args.text.now = omega arith in
    let n : ℕ = length c.args.text.now in
    sym (position_or_len_is ends_number c.args.text.now n 0 (omega arith)
    (λ k h. c.loop-i.invariant k (omega (arith, h, whole))) (λ h. absurd (omega (arith, h))))
