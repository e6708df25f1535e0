use Rattle.std.proofs.Common.{rules, ◌≡◌, ◌≤◌, ℕ, length, get_or, arith, sym, ap}
use Rattle.std.proofs.lemmas.List.Sums.{position_or_len_is}
use Rattle.num_time.specs.Numerals.{is_point}
use Rattle.num_time.proofs.numerals.point_place.Goals as goal

pub returns-then-c-eq46-clause-place : goal.returns-then-c-eq46-clause-place
returns-then-c-eq46-clause-place c =
    let here : get_or c.args.text.now c.loop-i.i 0 ≡ 46 = search rules in
    let within : c.loop-i.i ≤ length c.args.text.now = omega arith in
    sym (position_or_len_is is_point c.args.text.now c.loop-i.i 0 within c.loop-i.invariant (λ _. ap is_point here))

pub returns-clause-place : goal.returns-clause-place
returns-clause-place c =
    let whole : c.loop-i.i ≡ length c.args.text.now = omega arith in
    let n : ℕ = length c.args.text.now in
    sym (position_or_len_is is_point c.args.text.now n 0 (omega arith)
    (λ k h. c.loop-i.invariant k (omega (arith, h, whole))) (λ h. absurd (omega (arith, h))))
