-- A scan that a plan can hold, and the list of those that it holds.
use Rattle.std.proofs.Common.{◌≡◌, ℕ, ◌+◌, ◌^◌, ◌<◌, ◌≤◌, Bool, true, false, cond, List, [], ◌∷◌, ◌++◌, map, filter, take, length, get_or, All, ap, refl, sym, ◌∙◌, subst, arith}
use Rattle.std.proofs.lemmas.List.{map-append}
use Rattle.std.proofs.lemmas.List.Elements.{All-weaker, filter_more, filter-append}
use Rattle.std.proofs.lemmas.Option.{slice_get_within}
use Rattle.scan_list.specs.Sound.{IsPass}
use Rattle.job_plan.specs.declared.plan.ScanPlan.{ScanPlan}
use Rattle.job_text.specs.Job.{JobFields}
use Rattle.job_join.specs.declared.places.Place.{Place}
use Rattle.job_join.specs.declared.stands.Here.{Here}
use Rattle.job_join.specs.Standing.{Stand, stands_in}
use Rattle.job_join.specs.Spans.{first_sample, end_sample, samples_of}
use Rattle.job_join.specs.Joined.{stay_plan}
use Rattle.job_join.specs.Places.{stand_of}
use Rattle.job_join.specs.Planned.{IsShort, IsReady, has_baseline, kept}
use Rattle.job_join.proofs.HeldLemmas.{stands-held, samples-held}
use Rattle.job_join.proofs.JoinLemmas.{map-map}
use Rattle.job_join.proofs.RangesLists.{All-from_map}
use Rattle.job_join.proofs.RangesParts.{part-order, parts-end}
use Rattle.job_join.proofs.RangesStands.{stands-there, stands-All}

module _ (job : JobFields) (rate : ℕ) (p : Place) (ready : IsReady job rate p) where
  abbrev Fits : Stand → Type 0
  Fits s = (s.number < 2 ^ 32) × (first_sample rate s.pass < 2 ^ 64) × (end_sample rate s.pass < 2 ^ 64)

  -- the numbers of each station that stands in it fit
  pub short-All : p.taken ≡ true → All (IsShort rate) p.stands.items
  short-All taken =
      All-weaker (λ (h : Here). Fits (stand_of h)) (IsShort rate) (λ h fits. record { number = fits.0; from = fits.1; to = fits.2 }) p.stands.items
      (All-from_map Fits stand_of p.stands.items (subst (All Fits) (sym (stands-held job p ready.visit)) each))
    where
      each : All Fits (stands_in job p.scan.now)
      each k d less =
          let s : Stand = get_or (stands_in job p.scan.now) k d in
          let within : s.number < length job.stations = slice_get_within job.stations s.number s.station (stands-there job p.scan.now k d less).there in
          let ends : end_sample rate s.pass ≤ samples_of job rate p.scan.now = parts-end job rate p.scan.now k d less in
          let order : first_sample rate s.pass ≤ end_sample rate s.pass = part-order rate s.pass (stands-All IsPass job p.scan.now ready.sound.passes k d less) in
          let few = ready.samples taken in
          let same = samples-held job p ready.visit rate in
          (omega (arith, ready.stations, within), omega (arith, few, same, ends, order), omega (arith, few, same, ends))

  -- its stations' parts
  pub stays-held : (channels : List (List ℕ)) → map (λ (h : Here). stay_plan rate channels (stand_of h)) p.stands.items ≡ map (stay_plan rate channels) (stands_in job p.scan.now)
  stays-held channels = sym (map-map (stay_plan rate channels) stand_of p.stands.items) ∙ ap (map (stay_plan rate channels)) (stands-held job p ready.visit)

-- one more scan is looked at
pub scans-turn : (f : Place → ScanPlan) (ps : List Place) (i : ℕ) (p : Place) (all new : List ScanPlan) → i < length ps → p ≡ get_or ps i p
    → all ≡ filter has_baseline (map f (filter (λ (q : Place). q.taken) (take i ps))) → new ≡ all ++ cond p.taken (kept (f p)) []
    → new ≡ filter has_baseline (map f (filter (λ (q : Place). q.taken) (take (i + 1) ps)))
scans-turn f ps i p all new less is so_far next =
    let t : Place → Bool = λ (q : Place). q.taken in
    let before : List Place = filter t (take i ps) in
    let more : filter t (take (i + 1) ps) ≡ before ++ cond (t p) (p ∷ []) [] = filter_more t ps i p less ∙ ap (λ q. before ++ cond (t q) (q ∷ []) []) (sym is) in
    next ∙ ap (λ front. front ++ cond p.taken (kept (f p)) []) so_far
    ∙ ap (λ end. filter has_baseline (map f before) ++ end) (one (t p))
    ∙ sym (filter-append has_baseline (map f before) (map f (cond (t p) (p ∷ []) [])))
    ∙ ap (filter has_baseline) (sym (map-append f before (cond (t p) (p ∷ []) [])) ∙ ap (map f) (sym more))
  where
    one : (b : Bool) → cond b (kept (f p)) [] ≡ filter has_baseline (map f (cond b (p ∷ []) []))
    one true = refl
    one false = refl
