use Rattle.std.proofs.Common.{ℕ, ◌≡◌, ◌≤◌, ◌+◌, ◌-◌, ◌*◌, ◌/◌, ◌%◌, Fits, w32, length, get_or, ap, sym, ◌∙◌, arith, add_assoc}
use Rattle.byte_sums.proofs.Halves.{halves-sum, lower-within, upper-within}
use Rattle.byte_sums.proofs.levels.four_level_sums.Goals as goal

-- four times a sum that is no more than nine for each place of the vectors
four-fit : (m sum halves : ℕ) → m ≤ 4128 → sum ≡ halves → halves ≤ 9 * (96 * ((m + 96 - 1) / 96)) → Fits w32 (4 * sum)
four-fit m sum halves size is within = record { fits = omega arith }

pub overflow_mul-result : goal.overflow_mul-result
overflow_mul-result c = four-fit _ _ _ c.requires.size c.field_sums-sums.ensures.first.0 (lower-within _ _ _ _ c.requires.small c.requires.fields)

pub overflow_mul-result-2 : goal.overflow_mul-result-2
overflow_mul-result-2 c = four-fit _ _ _ c.requires.size c.field_sums-sums.ensures.first.1 (lower-within _ _ _ _ c.requires.small c.requires.fields)

pub overflow_mul-result-3 : goal.overflow_mul-result-3
overflow_mul-result-3 c = four-fit _ _ _ c.requires.size c.field_sums-sums.ensures.second.0 (upper-within _ _ _ _ c.requires.small c.requires.fields)

pub overflow_mul-result-4 : goal.overflow_mul-result-4
overflow_mul-result-4 c = four-fit _ _ _ c.requires.size c.field_sums-sums.ensures.second.1 (upper-within _ _ _ _ c.requires.small c.requires.fields)

pub returns-clause-first : goal.returns-clause-first
returns-clause-first c =
    let theirs = c.args.theirs.now in
    let lag = c.args.lag in
    let n = 96 * ((length c.args.a.now + 96 - 1) / 96) in
    let all : length c.args.a.now ≤ n = omega arith in (
      ap (λ s. 4 * s) c.field_sums-sums.ensures.first.0
          ∙ halves-sum c.args.a.now c.args.b.now c.args.mine.now (λ k. get_or theirs (lag + k) 0 % 64) lag n c.requires.mine c.requires.small all
          (λ k lt. c.requires.near (lag + k) (omega (arith, lt, c.requires.lag))),
      ap (λ s. 4 * s) c.field_sums-sums.ensures.first.1
          ∙ halves-sum c.args.a.now c.args.b.now c.args.mine.now (λ k. get_or theirs (lag + 1 + k) 0 % 64) (lag + 1) n c.requires.mine c.requires.small all
          (λ k lt. c.requires.near (lag + 1 + k) (omega (arith, lt, c.requires.lag))),
    )

pub returns-clause-second : goal.returns-clause-second
returns-clause-second c =
    let a = c.args.a.now in
    let b = c.args.b.now in
    let theirs = c.args.theirs.now in
    let lag = c.args.lag in
    let far = c.args.far in
    let n = 96 * ((length a + 96 - 1) / 96) in
    let all : length a ≤ n = omega arith in (
      ap (λ s. 4 * s) c.field_sums-sums.ensures.second.0
          ∙ halves-sum a b c.args.mine.now (λ k. get_or theirs (lag + k) 0 / 64) (far + lag) n c.requires.mine c.requires.small all
          (λ k lt. c.requires.upper (lag + k) (omega (arith, lt, c.requires.lag)) ∙ ap (λ p. get_or b p 0) (sym (add_assoc far lag k))),
      ap (λ s. 4 * s) c.field_sums-sums.ensures.second.1
          ∙ halves-sum a b c.args.mine.now (λ k. get_or theirs (lag + 1 + k) 0 / 64) (far + (lag + 1)) n c.requires.mine c.requires.small all
          (λ k lt. c.requires.upper (lag + 1 + k) (omega (arith, lt, c.requires.lag)) ∙ ap (λ p. get_or b p 0) (sym (add_assoc far (lag + 1) k))),
    )
