-- A point that leads another.
use Rattle.std.proofs.Common.{◌≡◌, ℕ, ℤ, sym, ap₂, subst, ◌∙◌}
use Rattle.fringe_search.specs.Peaks.{IsAhead, Leads}

-- with the powers at hand
pub leads_of : (power : ℕ → ℤ → ℕ) (top value l lag lag' : ℕ) (r rate want : ℤ) → top ≡ power l r → value ≡ power lag' rate → lag' ≡ lag → rate ≡ want
    → IsAhead top l r value lag' rate → Leads power l r lag want
leads_of power top value l lag lag' r rate want top_is value_is at_lag at_rate h =
    let value_here : value ≡ power lag want = value_is ∙ ap₂ power at_lag at_rate in
    subst (λ (t : ℕ). IsAhead t l r (power lag want) lag want) top_is
    (subst (λ (v : ℕ). IsAhead top l r v lag want) value_here
    (subst (λ (n : ℕ). IsAhead top l r value n want) at_lag (subst (λ (z : ℤ). IsAhead top l r value lag' z) at_rate h)))

pub of_leads : (power : ℕ → ℤ → ℕ) (top value l lag lag' : ℕ) (r rate want : ℤ) → top ≡ power l r → value ≡ power lag' rate → lag' ≡ lag → rate ≡ want
    → Leads power l r lag want → IsAhead top l r value lag' rate
of_leads power top value l lag lag' r rate want top_is value_is at_lag at_rate h =
    let value_here : value ≡ power lag want = value_is ∙ ap₂ power at_lag at_rate in
    subst (λ (z : ℤ). IsAhead top l r value lag' z) (sym at_rate)
    (subst (λ (n : ℕ). IsAhead top l r value n want) (sym at_lag)
    (subst (λ (v : ℕ). IsAhead top l r v lag want) (sym value_here) (subst (λ (t : ℕ). IsAhead t l r (power lag want) lag want) (sym top_is) h)))
