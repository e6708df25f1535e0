use Rattle.std.proofs.Common.{◌≡◌, ℕ, ◌<◌, ◌^◌, List, map, All, fold, max, ap, sym, ◌∙◌, subst}
use Rattle.std.proofs.lemmas.List.Elements.{All-weaker}
use Rattle.named_list.specs.Named.{names}
use Rattle.job_plan.specs.declared.plan.ScanPlan.{ScanPlan}
use Rattle.job_plan.specs.declared.plan.StayPlan.{StayPlan}
use Rattle.job_plan.specs.declared.plan.BaselinePlan.{BaselinePlan}
use Rattle.job_join.specs.declared.joining.Joining.{Joining}
use Rattle.job_join.specs.declared.places.Place.{Place}
use Rattle.job_join.specs.declared.stands.Here.{Here}
use Rattle.job_join.specs.Spans.{end_sample}
use Rattle.job_join.specs.Joined.{stay_plan}
use Rattle.job_join.specs.Places.{stand_of}
use Rattle.job_join.specs.Planned.{IsShort, pairs_in}
use Rattle.job_join.proofs.HeldLemmas.{baselines-held, samples-held}
use Rattle.job_join.proofs.ReadyLemmas.{short-All, stays-held}
use Rattle.job_join.proofs.scans.scan_plan.Goals as goal

pub stay_plans-requires : goal.stay_plans-requires
stay_plans-requires c =
    let j : Joining = c.args.j.now in
    subst (All (IsShort j.rate)) (sym c.deref.ensures.value) (short-All j.job.now j.rate c.args.place.now c.requires.ready c.requires.taken)

pub pairs_in-requires : goal.pairs_in-requires
pairs_in-requires c =
    let j : Joining = c.args.j.now in
    let short : All (λ (h : Here). h.number < 2 ^ 32) c.args.place.now.stands.items =
    All-weaker (IsShort j.rate) (λ h. h.number < 2 ^ 32) (λ h its. its.number) c.args.place.now.stands.items (short-All j.job.now j.rate c.args.place.now c.requires.ready c.requires.taken) in
    subst (All (λ (h : Here). h.number < 2 ^ 32)) (sym c.deref-2.ensures.value) short

pub returns : goal.returns
returns c =
    let j : Joining = c.args.j.now in
    let p : Place = c.args.place.now in
    same c.in_ok-name.ensures c.second_of.ensures
    (c.samples_of.ensures.value ∙ ap (fold (λ most (h : Here). max most (end_sample j.rate h.pass.now)) 0) c.deref-3.ensures.value ∙ samples-held j.job.now p c.requires.ready.visit j.rate)
    (c.of.ensures ∙ c.in_ok-stays.ensures ∙ ap (map (λ (h : Here). stay_plan j.rate (names j.channels) (stand_of h))) c.deref.ensures.value ∙ stays-held j.job.now j.rate p c.requires.ready (names j.channels))
    (c.of-2.ensures ∙ c.in_ok-baselines.ensures ∙ ap (λ hs. pairs_in c.auto.result hs hs) c.deref-2.ensures.value
    ∙ ap (λ auto. pairs_in auto p.stands.items p.stands.items) c.auto.ensures ∙ baselines-held j.job.now p c.requires.ready.visit)
  where
    same : {n m : List ℕ} {s t k l : ℕ} {ss ts : List StayPlan} {bs cs : List BaselinePlan} → n ≡ m → s ≡ t → k ≡ l → ss ≡ ts → bs ≡ cs
        → ◌≡◌ {A = ScanPlan} (record { name = n; second = s; samples = k; stays = ss; baselines = bs }) (record { name = m; second = t; samples = l; stays = ts; baselines = cs })
    same a b c d e = cc
