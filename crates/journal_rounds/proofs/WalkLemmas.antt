-- The epochs that are left where a walk stands.
use Rattle.std.specs.Prelude.{is_some}
use Rattle.std.proofs.Common.{◌≡◌, ◌∙◌, ℕ, ◌+◌, ◌<◌, true, false, List, [], ◌∷◌, length, Option, None, Some, option_map, refl, sym, ap, subst, arith}
use Rattle.piece_plan.specs.declared.epoch.EpochPlan.{EpochPlan}
use Rattle.piece_plan.specs.Epochs.{JobSizes}
use Rattle.piece_plan.specs.Order.{Place, place_after}
use Rattle.plan_places.specs.declared.place.Place.{Place as Spot}
use Rattle.plan_places.specs.Places.{place_at}
use Rattle.plan_places.specs.Walk.{next_epoch, IsWalk, AreLeft}

-- there is one walk from a place
pub walk-alone : (job : JobSizes) (epoch : ℕ) (due : Option Place) (epochs others : List EpochPlan) → IsWalk job epoch due epochs → IsWalk job epoch due others → epochs ≡ others
walk-alone job epoch due [] [] h k = refl
walk-alone job epoch due [] (f ∷ others) h k =
    let none : next_epoch job epoch due ≡ None = ap (next_epoch job epoch) h in
    absurd (cc (none, k.0))
walk-alone job epoch due (e ∷ epochs) [] h k =
    let none : next_epoch job epoch due ≡ None = ap (next_epoch job epoch) k in
    absurd (cc (none, h.0))
walk-alone job epoch due (e ∷ epochs) (f ∷ others) h k =
    let both : ◌≡◌ {A = Option EpochPlan} (Some e) (Some f) = sym h.0 ∙ k.0 in
    let same : e ≡ f = cc in
    let later : IsWalk job epoch (place_after job f) epochs = subst (λ (x : EpochPlan). IsWalk job epoch (place_after job x) epochs) same h.1 in
    let rest = walk-alone job epoch (place_after job f) epochs others later k.1 in
    ap (λ (x : EpochPlan). x ∷ epochs) same ∙ ap (λ (l : List EpochPlan). f ∷ l) rest

-- where epochs are left, the walk stands at a place
pub left-some : (job : JobSizes) (epoch left : ℕ) (due : Option Place) → AreLeft job epoch due left → 0 < left → is_some due ≡ true
left-some job epoch left (Some p) are some = refl
left-some job epoch left None are some = of_walk are.epochs are.walk are.many
  where
    of_walk : (epochs : List EpochPlan) → IsWalk job epoch None epochs → left ≡ length epochs → false ≡ true
    of_walk [] walk many = absurd (omega (arith, many, some))
    of_walk (e ∷ epochs) walk many = absurd (cc (walk.0))

-- where none is left, it has ended
pub left-none : (job : JobSizes) (epoch left : ℕ) (due : Option Place) → AreLeft job epoch due left → left ≡ 0 → due ≡ None
left-none job epoch left due are none = of_walk are.epochs are.walk are.many
  where
    of_walk : (epochs : List EpochPlan) → IsWalk job epoch due epochs → left ≡ length epochs → due ≡ None
    of_walk [] walk many = walk
    of_walk (e ∷ epochs) walk many = absurd (omega (arith, many, none))

-- behind its next epoch one less is left
pub left-behind : (job : JobSizes) (epoch left : ℕ) (due : Option Place) (e : EpochPlan) → AreLeft job epoch due (left + 1) → next_epoch job epoch due ≡ Some e
    → AreLeft job epoch (place_after job e) left
left-behind job epoch left due e are next = of_walk are.epochs are.walk are.many
  where
    of_walk : (epochs : List EpochPlan) → IsWalk job epoch due epochs → left + 1 ≡ length epochs → AreLeft job epoch (place_after job e) left
    of_walk [] walk many = absurd (omega (arith, many))
    of_walk (f ∷ epochs) walk many =
        let both : ◌≡◌ {A = Option EpochPlan} (Some f) (Some e) = sym walk.0 ∙ next in
        let same : f ≡ e = cc in
        record {
          epochs = epochs;
          walk = subst (λ (x : EpochPlan). IsWalk job epoch (place_after job x) epochs) same walk.1;
          many = omega (arith, many);
        }

-- a place that stands for none is none
pub at-none : (at : Option Spot) → option_map place_at at ≡ None → at ≡ None
at-none None is = refl
at-none (Some p) is = absurd (cc (is))

-- a place that stands for one is one
pub at-some : (at : Option Spot) → is_some (option_map place_at at) ≡ true → is_some at ≡ true
at-some None is = is
at-some (Some p) is = refl
