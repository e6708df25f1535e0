use Rattle.std.proofs.Common.{◌≡◌, ◌∙◌, sym, ap, refl, subst, ℕ, List, [], ◌∷◌, Option, Some, None}
use Rattle.piece_plan.specs.declared.epoch.EpochPlan.{EpochPlan}
use Rattle.piece_plan.specs.Epochs.{JobSizes}
use Rattle.piece_plan.specs.Order.{Place, place_after}
use Rattle.plan_places.specs.Walk.{next_epoch, IsWalk}
use Rattle.plan_places.proofs.laws.walks_are_alone.Goals as goal

one : (job : JobSizes) (epoch : ℕ) (due : Option Place) (epochs others : List EpochPlan)
    → IsWalk job epoch due epochs → IsWalk job epoch due others → epochs ≡ others
one job epoch due [] [] h k = refl
one job epoch due [] (f ∷ others) h k =
    let none : next_epoch job epoch due ≡ None = ap (next_epoch job epoch) h in
    absurd (cc (none, k.0))
one job epoch due (e ∷ epochs) [] h k =
    let none : next_epoch job epoch due ≡ None = ap (next_epoch job epoch) k in
    absurd (cc (none, h.0))
one job epoch due (e ∷ epochs) (f ∷ others) h k =
    let both : ◌≡◌ {A = Option EpochPlan} (Some e) (Some f) = sym h.0 ∙ k.0 in
    let same : e ≡ f = cc in
    let later : IsWalk job epoch (place_after job f) epochs = subst (λ (x : EpochPlan). IsWalk job epoch (place_after job x) epochs) same h.1 in
    let rest = one job epoch (place_after job f) epochs others later k.1 in
    ap (λ x. x ∷ epochs) same ∙ ap (λ xs. f ∷ xs) rest

pub returns : goal.returns
returns c = one
