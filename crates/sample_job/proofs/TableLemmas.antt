-- What holds of each number of seconds, one by one.
use Rattle.std.proofs.Common.{◌≡◌, ◌*◌, ◌+◌, ◌≤◌, ◌<◌, ⊎_elim, ℕ, zero, suc, List, [], ◌∷◌, None, refl, subst, arith}
use Rattle.std.specs.Fmt.{digits}
use Rattle.std.proofs.lemmas.Bool.{cases_lt}
use Rattle.num_time.specs.Numerals.{decimal_of, is_number, moved_digits, scaled}
use Rattle.sample_gen.specs.Job.{job_of}
use Rattle.job_text.specs.Inline.{scans_of}
use Rattle.job_join.specs.Standing.{taken, stands_in, rate_of}
use Rattle.job_join.specs.Channels.{channels_of}
use Rattle.job_join.specs.Spans.{end_sample, samples_of}
use Rattle.job_join.specs.Limits.{baselines_in, measures, limit}
use Rattle.sample_job.proofs.Said.{job_with}
use Rattle.sample_job.proofs.TextLemmas.{seen_of, wanted_of}

-- what a function gives at n numbers from a on
abbrev values : {A : Type 0} → (ℕ → A) → ℕ → ℕ → List A
values f a zero = []
values f a (suc n) = f a ∷ values f (a + 1) n

heads : {A : Type 0} (x y : A) (xs ys : List A) → x ∷ xs ≡ y ∷ ys → (x ≡ y) × (xs ≡ ys)
heads x y xs ys same = (cc, cc)

-- two functions that give the same at each of them
at-one : {A : Type 0} (f g : ℕ → A) (a n k : ℕ) → values f a n ≡ values g a n → a ≤ k → k < a + n → f k ≡ g k
at-one f g a zero k same from to = absurd (omega arith)
at-one f g a (suc n) k same from to =
    let both = heads (f a) (g a) (values f (a + 1) n) (values g (a + 1) n) same in
    ⊎_elim
    (λ (more : a < k). at-one f g (a + 1) n k both.1 (omega arith) (omega arith))
    (λ (here : k ≤ a). let is : a ≡ k = omega arith in subst (λ (i : ℕ). f i ≡ g i) is both.0)
    (cases_lt a k)

-- what the text of so many seconds shows
pub seen : (seconds : ℕ) → 1 ≤ seconds → seconds ≤ 60 → seen_of seconds ≡ wanted_of seconds
unfolding job_of digits decimal_of is_number scaled moved_digits
seen seconds some few = at-one seen_of wanted_of 1 60 seconds refl some (omega arith)

-- that the sizes of its job are within their limits
pub within : (seconds : ℕ) → 1 ≤ seconds → seconds ≤ 60 → limit (job_with (160000 * seconds)) 50000 (scans_of (job_with (160000 * seconds))) ≡ None
unfolding limit measures rate_of taken stands_in channels_of baselines_in samples_of end_sample
within seconds some few =
    at-one (λ (s : ℕ). limit (job_with (160000 * s)) 50000 (scans_of (job_with (160000 * s)))) (λ _. None) 1 60 seconds refl some (omega arith)
