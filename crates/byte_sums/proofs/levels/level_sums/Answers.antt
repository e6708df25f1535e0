use Rattle.std.proofs.Common.{◌≡◌, ◌+◌, ◌-◌, ◌*◌, ◌/◌, length, slice_index, subst, arith, inl, inr}
use Rattle.std.proofs.lemmas.Bool.{cases_lt}
use Rattle.byte_sums.specs.Sums.{lag_sum}
use Rattle.byte_sums.proofs.Halves.{zeros}
use Rattle.byte_sums.proofs.levels.level_sums.Goals as goal

pub halve-requires-clause-zeros : goal.halve-requires-clause-zeros
halve-requires-clause-zeros c = λ k. zeros 4128 k

pub join_halves-requires-clause-zeros : goal.join_halves-requires-clause-zeros
join_halves-requires-clause-zeros c = λ k. zeros 4640 k

pub loop-i-init : goal.loop-i-init
loop-i-init c =
    let far = 2 * (length c.args.out.now / 4) in
    let all : 2 * c.loop-q.q ≡ far = omega arith in
    record {
      len = c.loop-q.invariant.len;
      done = λ i lt. elim (cases_lt i far) [
        | inl l ↦ c.loop-q.invariant.lower i (omega (arith, l, all))
        | inr m ↦
            let place : far + (i - far) ≡ i = omega (arith, m) in
            subst (λ j. slice_index c.loop-q.out j ≡ lag_sum c.args.a.now c.args.b.now j (length c.args.a.now)) place (c.loop-q.invariant.upper (i - far) (omega (arith, lt, m, all)))
      ];
    }
