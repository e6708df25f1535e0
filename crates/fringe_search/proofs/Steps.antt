-- The best point so far, over records and a grid.
use Rattle.std.proofs.Common.{◌≡◌, ℕ, ◌+◌, ◌*◌, ◌<◌, ◌≤◌, ℤ, pos, ◌-ℤ◌, sym, subst, arith, inl, inr}
use Rattle.std.proofs.lemmas.Bool.{cases_lt}
use Rattle.fringe_search.specs.Layout.{Series}
use Rattle.fringe_search.specs.declared.grid.Grid.{Grid}
use Rattle.fringe_search.specs.declared.peak.Point.{Point}
use Rattle.fringe_search.specs.Sums.{power_at, bound_at}
use Rattle.fringe_search.specs.Best.{IsPoint, IsBest, Ahead}
use Rattle.fringe_search.proofs.Bounds.{power_at-within}
use Rattle.fringe_search.proofs.Order.{stays, takes, next_lag, passes}

-- the point of the next rate
pub best_more : (v : Series) (g : Grid) (lag n : ℕ) (best next result : Point) → IsBest v g lag n best → IsPoint v g next
    → next.lag ≡ lag → next.rate ≡ pos n -ℤ pos g.rates → (best.power < next.power → result ≡ next)
    → (next.power ≤ best.power → result ≡ best) → IsBest v g lag (n + 1) result
best_more v g lag n best next result b p at_lag at_rate taken kept =
    let power = power_at v g.divide in
    let here : next.power ≡ power lag (pos n -ℤ pos g.rates) = rw (← at_lag, ← at_rate) p.power in
    elim (cases_lt best.power next.power) [
      | inl more ↦ subst (λ (r : Point). IsBest v g lag (n + 1) r) (sym (taken more)) (record {
        point = p;
        ahead = subst (λ (l : ℕ). Ahead power g.rates l next.rate lag (n + 1)) (sym at_lag) (subst (λ (r : ℤ). Ahead power g.rates lag r lag (n + 1)) (sym at_rate) (takes power g.rates best.lag best.rate lag n b.ahead (omega (arith, here, b.point.power, more))));
      })
      | inr less ↦ subst (λ (r : Point). IsBest v g lag (n + 1) r) (sym (kept less)) (record {
        point = b.point;
        ahead = stays power g.rates best.lag best.rate lag n b.ahead (omega (arith, here, b.point.power, less));
      })
    ]

pub best_next : (v : Series) (g : Grid) (lag : ℕ) (best : Point) → IsBest v g lag (2 * g.rates + 1) best → IsBest v g (lag + 1) 0 best
best_next v g lag best b = record { point = b.point; ahead = next_lag (power_at v g.divide) g.rates best.lag best.rate lag b.ahead }

pub best_past : (v : Series) (g : Grid) (lag : ℕ) (best : Point) → IsBest v g lag 0 best → bound_at v lag < best.power → IsBest v g (lag + 1) 0 best
best_past v g lag best b h = record {
  point = b.point;
  ahead = passes (power_at v g.divide) g.rates best.lag best.rate lag (bound_at v lag) b.ahead (power_at-within v g.divide lag) (omega (arith, b.point.power));
}
