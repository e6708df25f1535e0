-- Epochs in order, by their numbers.
use Rattle.std.specs.Prelude.{slice_get, option_map}
use Rattle.std.proofs.Common.{◌≡◌, ◌∙◌, sym, ap, refl, subst, ℕ, zero, suc, ◌+◌, ◌-◌, ◌≤◌, List, [], ◌∷◌, get_or, Option, Some, None, arith}
use Rattle.std.proofs.lemmas.Option.{slice_get_within, slice_get-get_or}
use Rattle.piece_plan.specs.declared.epoch.EpochPlan.{EpochPlan}
use Rattle.piece_plan.specs.Epochs.{JobSizes, IsEpoch}
use Rattle.piece_plan.specs.Order.{Place, place_of, place_after, AreInOrder}
use Rattle.plan_places.specs.Places.{IsUpTo}
use Rattle.plan_places.specs.Search.{begin_at}
use Rattle.plan_places.proofs.Orders.{up_to-refl, up_to-trans, before-up_to}
use Rattle.plan_places.proofs.AfterLemmas.{after-before}

-- an epoch begins there
pub record BeginsWith (epochs : List EpochPlan) (i : ℕ) (p : Place) : Type 0 where
  pub e : EpochPlan
  pub at : slice_get epochs i ≡ Some e
  pub is : place_of e ≡ p

begun : (o : Option EpochPlan) (p : Place) → option_map place_of o ≡ Some p → (e : EpochPlan) × (o ≡ Some e) × (place_of e ≡ p)
begun None p h = absurd (cc)
begun (Some e) p h =
    let same : place_of e ≡ p = cc in
    (e, refl, same)

pub begin_at-some : (epochs : List EpochPlan) (i : ℕ) (p : Place) → begin_at epochs i ≡ Some p → BeginsWith epochs i p
begin_at-some epochs i p h =
    let there = begun (slice_get epochs i) p h in
    record { e = there.0; at = there.1; is = there.2 }

pub begin_at-is : (epochs : List EpochPlan) (i : ℕ) (e : EpochPlan) → slice_get epochs i ≡ Some e → begin_at epochs i ≡ Some (place_of e)
begin_at-is epochs i e at = ap (option_map place_of) at

pub order-first : (job : JobSizes) (due : Option Place) (epochs : List EpochPlan) → AreInOrder job due epochs None → due ≡ begin_at epochs 0
order-first job due [] h = h
order-first job due (e ∷ epochs) h = h.0

-- an epoch of those, and where the next one begins
pub record IsFollowed (job : JobSizes) (epochs : List EpochPlan) (i : ℕ) (e : EpochPlan) : Type 0 where
  pub is : IsEpoch job e
  pub next : place_after job e ≡ begin_at epochs (i + 1)

pub order-at : (job : JobSizes) (due : Option Place) (epochs : List EpochPlan) (i : ℕ) (e : EpochPlan) → AreInOrder job due epochs None
    → slice_get epochs i ≡ Some e → IsFollowed job epochs i e
order-at job due [] i e h at = absurd (cc)
order-at job due (d ∷ epochs) zero e h at =
    let same : d ≡ e = cc in
    let here : IsFollowed job (d ∷ epochs) 0 d = record {
      is = h.1;
      next = order-first job (place_after job d) epochs h.2;
    } in
    subst (λ (x : EpochPlan). IsFollowed job (d ∷ epochs) 0 x) same here
order-at job due (d ∷ epochs) (suc i) e h at =
    let rest = order-at job (place_after job d) epochs i e h.2 at in
    let shift : suc (i + 1) ≡ suc i + 1 = omega arith in
    record {
      is = rest.is;
      next = rest.next ∙ ap (begin_at (d ∷ epochs)) shift;
    }

-- an epoch stands before a later one
earlier : (epochs : List EpochPlan) (i : ℕ) (e : EpochPlan) → slice_get epochs (suc i) ≡ Some e → (d : EpochPlan) × (slice_get epochs i ≡ Some d)
earlier epochs i e at =
    let within = slice_get_within epochs (suc i) e at in
    (get_or epochs i e, slice_get-get_or epochs i e (omega (arith, within)))

-- they are sorted by their begins
pub order-sorted : (job : JobSizes) (due : Option Place) (epochs : List EpochPlan) (i n : ℕ) (d e : EpochPlan) → AreInOrder job due epochs None
    → slice_get epochs i ≡ Some d → slice_get epochs (i + n) ≡ Some e → IsUpTo (place_of d) (place_of e)
order-sorted job due epochs i zero d e h at there =
    let here : i + zero ≡ i = omega arith in
    let again : slice_get epochs i ≡ Some e = ap (slice_get epochs) (sym here) ∙ there in
    let both : ◌≡◌ {A = Option EpochPlan} (Some d) (Some e) = sym at ∙ again in
    let same : d ≡ e = cc in
    subst (λ (x : EpochPlan). IsUpTo (place_of d) (place_of x)) same (up_to-refl (place_of d))
order-sorted job due epochs i (suc n) d e h at there =
    let next : i + suc n ≡ suc (i + n) = omega arith in
    let one : i + n + 1 ≡ suc (i + n) = omega arith in
    let last : slice_get epochs (suc (i + n)) ≡ Some e = ap (slice_get epochs) (sym next) ∙ there in
    let mid = earlier epochs (i + n) e last in
    let before = order-sorted job due epochs i n d mid.0 h at mid.1 in
    let follow = order-at job due epochs (i + n) mid.0 h mid.1 in
    let after : place_after job mid.0 ≡ Some (place_of e) = follow.next ∙ begin_at-is epochs (i + n + 1) e (ap (slice_get epochs) one ∙ last) in
    up_to-trans (place_of d) (place_of mid.0) (place_of e) before
    (before-up_to (place_of mid.0) (place_of e) (after-before job mid.0 (place_of e) follow.is after))

pub order-le : (job : JobSizes) (due : Option Place) (epochs : List EpochPlan) (i k : ℕ) (d e : EpochPlan) → AreInOrder job due epochs None
    → i ≤ k → slice_get epochs i ≡ Some d → slice_get epochs k ≡ Some e → IsUpTo (place_of d) (place_of e)
order-le job due epochs i k d e h le at there =
    let sum : k ≡ i + (k - i) = omega (arith, le) in
    order-sorted job due epochs i (k - i) d e h at (ap (slice_get epochs) (sym sum) ∙ there)
