-- A stretch that goes on.
use Rattle.std.proofs.Common.{◌≡◌, ℕ, ◌≤◌, ◌<◌, ◌⊎◌, ⊎_elim, ◌∙◌, arith}

cases_before : (n end : ℕ) → (n < end) ⊎ (end ≤ n)
cases_before n end = grind arith

-- one value up to `end`, the same there, and the same from there up to `last`
pub goes_on : {X : Type 0} (f : ℕ → X) (from end last : ℕ) → ((n : ℕ) → from ≤ n → n < end → f n ≡ f from) → f end ≡ f from
    → ((n : ℕ) → end ≤ n → n < last → f n ≡ f end)
    → (n : ℕ) → from ≤ n → n < last → f n ≡ f from
goes_on f from end last first here more n begun before =
    ⊎_elim (λ low. first n begun low) (λ high. more n high before ∙ here) (cases_before n end)
