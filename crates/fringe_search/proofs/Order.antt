-- The best point so far, point by point.
use Rattle.std.proofs.Common.{◌≡◌, ℕ, ◌+◌, ◌*◌, ◌<◌, ◌≤◌, ℤ, pos, ◌+ℤ◌, ◌-ℤ◌, unsigned_abs, sym, subst, arith, below_more, inl, inr}
use Rattle.std.proofs.lemmas.Int.{ints}
use Rattle.std.proofs.lemmas.Bool.{cases_lt}
use Rattle.fringe_search.specs.Peaks.{IsRate, Leads}
use Rattle.fringe_search.specs.Best.{Ahead}

-- a point leads one of less power
leads_less : (power : ℕ → ℤ → ℕ) (l : ℕ) (r : ℤ) (lag : ℕ) (rate : ℤ) → power lag rate < power l r → Leads power l r lag rate
leads_less power l r lag rate h = record { most = omega arith; lag_first = λ e. absurd (omega arith); rate_first = λ e _. absurd (omega arith) }

-- a point that led one of less power leads it after a greater one is taken
leads_greater : (power : ℕ → ℤ → ℕ) (l : ℕ) (r : ℤ) (l' : ℕ) (r' : ℤ) (lag : ℕ) (rate : ℤ) → Leads power l r lag rate
    → power l r < power l' r' → Leads power l' r' lag rate
leads_greater power l r l' r' lag rate h g = leads_less power l' r' lag rate (omega (arith, h.most))

-- no rate of the next point is greater: the best point stays
pub stays : (power : ℕ → ℤ → ℕ) (rates l : ℕ) (r : ℤ) (lag n : ℕ) → Ahead power rates l r lag n
    → power lag (pos n -ℤ pos rates) ≤ power l r → Ahead power rates l r lag (n + 1)
stays power rates l r lag n a h = record {
  earlier = a.earlier;
  here = below_more (λ k. Leads power l r lag (pos k -ℤ pos rates)) n a.here (record { most = h; lag_first = λ _. a.late; rate_first = λ _ e. a.rate_late (sym e) });
  late = a.late;
  rate_late = λ e. let low = a.rate_late e in omega (arith, ints);
}

-- it is greater: it is taken
pub takes : (power : ℕ → ℤ → ℕ) (rates l : ℕ) (r : ℤ) (lag n : ℕ) → Ahead power rates l r lag n
    → power l r < power lag (pos n -ℤ pos rates) → Ahead power rates lag (pos n -ℤ pos rates) lag (n + 1)
takes power rates l r lag n a h = record {
  earlier = λ lag' rate p q. leads_greater power l r lag (pos n -ℤ pos rates) lag' rate (a.earlier lag' rate p q) h;
  here = below_more (λ k. Leads power lag (pos n -ℤ pos rates) lag (pos k -ℤ pos rates)) n
      (λ k p. leads_greater power l r lag (pos n -ℤ pos rates) lag (pos k -ℤ pos rates) (a.here k p) h)
      (record { most = omega arith; lag_first = λ _. omega arith; rate_first = λ _ _. omega (arith, ints) });
  late = omega arith;
  rate_late = λ _. omega (arith, ints);
}

-- all rates of a lag are behind
pub next_lag : (power : ℕ → ℤ → ℕ) (rates l : ℕ) (r : ℤ) (lag : ℕ) → Ahead power rates l r lag (2 * rates + 1) → Ahead power rates l r (lag + 1) 0
next_lag power rates l r lag a = record {
  earlier = λ lag' rate p q. elim (cases_lt lag' lag) [
    | inl less ↦ a.earlier lag' rate less q
    | inr same ↦ (let e : lag ≡ lag' = omega arith in subst (λ (x : ℕ). Leads power l r x rate) e (here rate q))
  ];
  here = λ k p. absurd (omega arith);
  late = omega (arith, a.late);
  rate_late = λ e. absurd (omega (arith, a.late));
}
  where
    here : (rate : ℤ) → IsRate rates rate → Leads power l r lag rate
    here rate q =
        let k = unsigned_abs (rate +ℤ pos rates) in
        let is : pos k -ℤ pos rates ≡ rate = omega (arith, ints, q.least, q.most) in
        subst (λ (x : ℤ). Leads power l r lag x) is (a.here k (omega (arith, ints, q.least, q.most)))

-- a lag is passed over whose powers are all less
pub passes : (power : ℕ → ℤ → ℕ) (rates l : ℕ) (r : ℤ) (lag bound : ℕ) → Ahead power rates l r lag 0
    → ((rate : ℤ) → power lag rate ≤ bound) → bound < power l r → Ahead power rates l r (lag + 1) 0
passes power rates l r lag bound a within h = record {
  earlier = λ lag' rate p q. elim (cases_lt lag' lag) [
    | inl less ↦ a.earlier lag' rate less q
    | inr same ↦ (let e : lag ≡ lag' = omega arith in subst (λ (x : ℕ). Leads power l r x rate) e (leads_less power l r lag rate (omega (arith, within rate))))
  ];
  here = λ k p. absurd (omega arith);
  late = omega (arith, a.late);
  rate_late = λ e. absurd (omega (arith, a.late));
}
