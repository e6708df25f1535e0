-- Kept epochs are in the order of the integrations that they are of.
use Rattle.std.specs.Prelude.{⊤, slice_get, nat_lt}
use Rattle.std.proofs.Common.{◌≡◌, ℕ, zero, suc, ◌+◌, ◌*◌, ◌<◌, ◌≤◌, Bool, true, false, cond, List, [], ◌∷◌, length, drop, get_or, Option, Some, None, subst, arith}
use Rattle.piece_plan.specs.declared.job.ScanSize.{ScanSize}
use Rattle.piece_plan.specs.declared.epoch.EpochPlan.{EpochPlan}
use Rattle.piece_plan.specs.Epochs.{JobSizes, integration_at}
use Rattle.piece_plan.specs.Order.{Place, first_place, place_in, place_after, AreInOrder}
use Rattle.checkpoint_journal.specs.declared.listed.KeptAt.{KeptAt}
use Rattle.shard_merge.specs.CoverageOrder.{epochs_of_listed}

-- integration n of scan t is the same as integration m of scan s, or stands behind it
pub record IsFrom (s m t n : ℕ) : Type 0 where
  pub scan : s ≤ t
  pub own : s ≡ t → m ≤ n

pub IsFrom-refl : (s m : ℕ) → IsFrom s m s m
IsFrom-refl s m = record { scan = omega arith; own = λ e. omega arith }

pub IsFrom-trans : (s m t n u o : ℕ) → IsFrom s m t n → IsFrom t n u o → IsFrom s m u o
IsFrom-trans s m t n u o h k = record {
  scan = omega (arith, h.scan, k.scan);
  own = λ e.
      let first : s ≡ t = omega (arith, h.scan, k.scan, e) in
      let last : t ≡ u = omega (arith, h.scan, k.scan, e) in
      omega (arith, h.own first, k.own last);
}

-- a fact of the place, where there is one
abbrev Each : (Place → Type 0) → Option Place → Type 0
Each Q None = ⊤
Each Q (Some p) = Q p

Each-cond : (Q : Place → Type 0) (b : Bool) (x y : Option Place) → Each Q x → Each Q y → Each Q (cond b x y)
Each-cond Q true x y h k = h
Each-cond Q false x y h k = k

Each-weaker : (P Q : Place → Type 0) → ((p : Place) → P p → Q p) → (o : Option Place) → Each P o → Each Q o
Each-weaker P Q weaker None h = h
Each-weaker P Q weaker (Some p) h = weaker p h

abbrev PlaceFrom : ℕ → ℕ → Place → Type 0
PlaceFrom s m p = IsFrom s m p.scan p.m

-- the first sample of later scans is of one of them
first_place-later : (integration number : ℕ) (scans : List ScanSize) (s m : ℕ) → s < number → Each (PlaceFrom s m) (first_place integration number scans)
first_place-later integration number [] s m before = tt
first_place-later integration number (size ∷ scans) s m before =
    Each-cond (PlaceFrom s m) (nat_lt (size.first * integration) size.samples)
    (Some (record { scan = number; m = size.first; from = size.first * integration })) (first_place integration (number + 1) scans)
    (record { scan = omega (arith, before); own = λ e. absurd (omega (arith, before, e)) })
    (first_place-later integration (number + 1) scans s m (omega (arith, before)))

place_in-later : (job : JobSizes) (e : EpochPlan) (o : Option ScanSize) → Each (PlaceFrom e.scan e.m) (place_in job e o)
place_in-later job e None = tt
place_in-later job e (Some size) =
    Each-cond (PlaceFrom e.scan e.m) (nat_lt e.to (integration_at job size e.m).to)
    (Some (record { scan = e.scan; m = e.m; from = e.to }))
    (cond (nat_lt e.to size.samples) (Some (record { scan = e.scan; m = e.m + 1; from = e.to }))
    (first_place job.integration (e.scan + 1) (drop (e.scan + 1) job.scans)))
    (IsFrom-refl e.scan e.m)
    (Each-cond (PlaceFrom e.scan e.m) (nat_lt e.to size.samples)
    (Some (record { scan = e.scan; m = e.m + 1; from = e.to })) (first_place job.integration (e.scan + 1) (drop (e.scan + 1) job.scans))
    (record { scan = omega arith; own = λ same. omega arith })
    (first_place-later job.integration (e.scan + 1) (drop (e.scan + 1) job.scans) e.scan e.m (omega arith)))

place_after-later : (job : JobSizes) (e : EpochPlan) → Each (PlaceFrom e.scan e.m) (place_after job e)
unfolding place_after
place_after-later job e = place_in-later job e (slice_get job.scans e.scan)

-- each of the places is of the integration or of one behind it
abbrev pub AllFrom : ℕ → ℕ → List KeptAt → Type 0
AllFrom s m [] = ⊤
AllFrom s m (a ∷ listed) = IsFrom s m a.epoch.scan a.epoch.m × AllFrom s m listed

-- no place is of an integration before that of an earlier one
abbrev pub Rise : List KeptAt → Type 0
Rise [] = ⊤
Rise (a ∷ listed) = AllFrom a.epoch.scan a.epoch.m listed × Rise listed

ordered-AllFrom : (job : JobSizes) (due end : Option Place) (listed : List KeptAt) (s m : ℕ) → Each (PlaceFrom s m) due
    → AreInOrder job due (epochs_of_listed listed) end → AllFrom s m listed
ordered-AllFrom job due end [] s m from order = tt
ordered-AllFrom job due end (a ∷ listed) s m from order =
    let e = a.epoch in
    let here : IsFrom s m e.scan e.m = subst (Each (PlaceFrom s m)) order.0 from in (
      here,
      ordered-AllFrom job (place_after job e) end listed s m
          (Each-weaker (PlaceFrom e.scan e.m) (PlaceFrom s m) (λ p later. IsFrom-trans s m e.scan e.m p.scan p.m here later) (place_after job e) (place_after-later job e))
          order.2,
    )

pub ordered-Rise : (job : JobSizes) (due end : Option Place) (listed : List KeptAt) → AreInOrder job due (epochs_of_listed listed) end → Rise listed
ordered-Rise job due end [] order = tt
ordered-Rise job due end (a ∷ listed) order = (
  ordered-AllFrom job (place_after job a.epoch) end listed a.epoch.scan a.epoch.m (place_after-later job a.epoch) order.2,
  ordered-Rise job (place_after job a.epoch) end listed order.2,
)

AllFrom-get_or : (s m : ℕ) (listed : List KeptAt) (i : ℕ) (d : KeptAt) → i < length listed → AllFrom s m listed
    → IsFrom s m (get_or listed i d).epoch.scan (get_or listed i d).epoch.m
AllFrom-get_or s m [] i d inside all = absurd (omega arith)
AllFrom-get_or s m (a ∷ listed) zero d inside all = all.0
AllFrom-get_or s m (a ∷ listed) (suc i) d inside all = AllFrom-get_or s m listed i d (omega arith) all.1

pub Rise-get_or : (listed : List KeptAt) (i j : ℕ) (d : KeptAt) → i ≤ j → j < length listed → Rise listed
    → IsFrom (get_or listed i d).epoch.scan (get_or listed i d).epoch.m (get_or listed j d).epoch.scan (get_or listed j d).epoch.m
Rise-get_or [] i j d le inside up = absurd (omega arith)
Rise-get_or (a ∷ listed) zero zero d le inside up = IsFrom-refl a.epoch.scan a.epoch.m
Rise-get_or (a ∷ listed) zero (suc j) d le inside up = AllFrom-get_or a.epoch.scan a.epoch.m listed j d (omega arith) up.0
Rise-get_or (a ∷ listed) (suc i) zero d le inside up = absurd (omega arith)
Rise-get_or (a ∷ listed) (suc i) (suc j) d le inside up = Rise-get_or listed i j d (omega arith) (omega arith) up.1
