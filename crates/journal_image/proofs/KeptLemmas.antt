-- The epochs that a journal keeps.
use Rattle.std.proofs.Common.{◌≡◌, ◌∙◌, ℕ, Bool, true, false, List, [], ◌∷◌, ◌++◌, map, length, take, Option, Some, None, refl, sym, ap, subst, append-nil, All}
use Rattle.std.proofs.lemmas.List.Elements.{All-push}
use Rattle.piece_plan.specs.declared.epoch.EpochPlan.{EpochPlan}
use Rattle.piece_plan.specs.Epochs.{JobSizes, IsJob, epochs_of}
use Rattle.piece_plan.specs.Order.{place_of, place_after, AreInOrder}
use Rattle.plan_places.specs.Walk.{next_epoch, IsWalk}
use Rattle.plan_places.proofs.OwnWalk.{epochs-IsWalk}
use Rattle.journal_image.specs.Image.{Due, Thing, Kept, Turn, next, ThingsGo, KeptEpoch, records, start}
use Rattle.journal_image.specs.Laws.{kept_epochs, ReadsInOrder, ReadsOwn, KeepsMore, StaysHonest}

abbrev epochs_in : List Thing → List EpochPlan
epochs_in things = map (λ (k : KeptEpoch). k.epoch) (records things)

in_order : (job : JobSizes) (due end : Due) (things : List Thing) → ThingsGo job due things end → AreInOrder job due.place (epochs_in things) end.place
in_order job due end [] goes = ap (λ (d : Due). d.place) goes
in_order job due end (Kept e body ∷ things) goes = (goes.0.place, goes.0.epoch, in_order job (next job due (Kept e body)) end things goes.1)
in_order job due end (Turn mark ∷ things) goes = in_order job (next job due (Turn mark)) end things goes.1

pub reads_in_order : (id : List ℕ) (job : JobSizes) (image : List ℕ) → ReadsInOrder id job image
reads_in_order id job image r reads = in_order job (start job r.old) r.due r.things reads.row.goes

-- where records have a range, all later ones have one
stays_ranged : (job : JobSizes) (due end : Due) (things : List Thing) → ThingsGo job due things end → due.ranged ≡ true → end.ranged ≡ true
stays_ranged job due end [] goes ranged = ap (λ (d : Due). d.ranged) (sym goes) ∙ ranged
stays_ranged job due end (Kept e body ∷ things) goes ranged = stays_ranged job (next job due (Kept e body)) end things goes.1 ranged
stays_ranged job due end (Turn mark ∷ things) goes ranged = stays_ranged job (next job due (Turn mark)) end things goes.1 refl

-- records without a range are the first epochs of a walk with the job's own length
own : (job : JobSizes) (due end : Due) (things : List Thing) (all : List EpochPlan) → ThingsGo job due things end → due.ranged ≡ false → end.ranged ≡ false
    → IsWalk job job.epoch due.place all → epochs_in things ≡ take (length (epochs_in things)) all
own job due end [] all goes old still walk = refl
own job due end (Kept e body ∷ things) [] goes old still walk = let none : None ≡ Some (place_of e) = sym walk ∙ goes.0.place in cc
own job due end (Kept e body ∷ things) (f ∷ all) goes old still walk =
    let both : ◌≡◌ {A = Option EpochPlan} (Some e) (Some f) = sym (goes.0.own old).cut ∙ ap (next_epoch job job.epoch) (sym goes.0.place) ∙ walk.0 in
    let same : e ≡ f = cc in
    let later : IsWalk job job.epoch (place_after job e) all = subst (λ (x : EpochPlan). IsWalk job job.epoch (place_after job x) all) (sym same) walk.1 in
    let rest = own job (next job due (Kept e body)) end things all goes.1 old still later in
    ap (λ (x : EpochPlan). x ∷ epochs_in things) same ∙ ap (λ (l : List EpochPlan). f ∷ l) rest
own job due end (Turn mark ∷ things) all goes old still walk =
    let never : true ≡ false = sym (stays_ranged job (next job due (Turn mark)) end things goes.1 refl) ∙ still in cc

pub reads_own : (id : List ℕ) (job : JobSizes) (image : List ℕ) → IsJob job → ReadsOwn id job image
reads_own id job image is r reads still = of_start r.old reads.row.goes
  where
    of_start : (b : Bool) → ThingsGo job (start job b) r.things r.due → kept_epochs r ≡ take (length (kept_epochs r)) (epochs_of job)
    of_start true goes = own job (start job true) r.due r.things (epochs_of job) goes refl still (epochs-IsWalk job is)
    of_start false goes = let never : true ≡ false = sym (stays_ranged job (start job false) r.due r.things goes refl) ∙ still in cc

records-append : (xs ys : List Thing) → records (xs ++ ys) ≡ records xs ++ records ys
records-append [] ys = refl
records-append (Kept e body ∷ xs) ys = ap (λ (l : List KeptEpoch). record { epoch = e; body = body } ∷ l) (records-append xs ys)
records-append (Turn mark ∷ xs) ys = records-append xs ys

pub keeps_more : (job : JobSizes) → KeepsMore job
keeps_more job r e body mark = (
  records-append r.things (Kept e body ∷ []),
  records-append r.things (Turn mark ∷ []) ∙ append-nil (records r.things),
)

pub stays_honest : (job : JobSizes) → StaysHonest job
stays_honest job body_of r e mark honest =
    let kept = keeps_more job r e (body_of e) mark in
    let Good : KeptEpoch → Type 0 = λ (k : KeptEpoch). k.body ≡ body_of k.epoch in (
      subst (All Good) (sym kept.0) (All-push Good (records r.things) (record { epoch = e; body = body_of e }) honest refl),
      subst (All Good) (sym kept.1) honest,
    )
