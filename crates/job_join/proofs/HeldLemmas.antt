-- What is measured of the scans as the program holds them is what is measured of the schedule.
use Rattle.std.specs.Int.{div_ceil}
use Rattle.std.proofs.Common.{◌≡◌, ℕ, ◌*◌, ◌≤◌, ◌==◌, Bool, true, false, cond, List, [], ◌∷◌, ◌++◌, map, filter, length, get_or, All, ap, refl, sym, ◌∙◌, arith}
use Rattle.std.proofs.lemmas.List.{length-map}
use Rattle.std.proofs.lemmas.List.Elements.{All-nil, All-cons, All-head, All-tail, All-weaker}
use Rattle.scan_list.specs.declared.scan.Scan.{Scan}
use Rattle.job_text.specs.Job.{JobFields}
use Rattle.job_join.specs.declared.places.Place.{Place}
use Rattle.job_join.specs.declared.stands.Here.{Here}
use Rattle.job_join.specs.Standing.{Stand, stands_in, is_taken}
use Rattle.job_join.specs.Spans.{samples_of}
use Rattle.job_join.specs.Limits.{baselines_in, epochs_in, scan_epochs}
use Rattle.job_join.specs.Places.{stand_of, stands_of, Visit, visit_in, visit_of}
use Rattle.job_join.specs.Joining.{held_samples}
use Rattle.job_join.specs.Planned.{pair_of, is_pair, pairs_with, pairs_in}
use Rattle.job_join.specs.Measured.{held_seconds, held_baselines, held_cells, held_epochs}
use Rattle.job_join.proofs.JoinLemmas.{samples_of-stands}
use Rattle.job_join.proofs.RangesBaselines.{row, rows, baselines_in-rows}
use Rattle.job_join.proofs.RangesLists.{All-from_map}
use Rattle.job_join.proofs.RangesStands.{stands-few}

-- each scan is held with the job's stations in it
pub visits-All : (job : JobFields) (ps : List Place) → map visit_of ps ≡ map (visit_in job) (map (λ (p : Place). p.scan.now) ps)
    → All (λ p. visit_of p ≡ visit_in job p.scan.now) ps
visits-All job [] e = All-nil (λ p. visit_of p ≡ visit_in job p.scan.now)
visits-All job (p ∷ ps) e =
    let first : visit_of p ≡ visit_in job p.scan.now = cc in
    let rest : map visit_of ps ≡ map (visit_in job) (map (λ (q : Place). q.scan.now) ps) = cc in
    All-cons (λ p. visit_of p ≡ visit_in job p.scan.now) p ps first (visits-All job ps rest)

-- what is made of the scans that are held and taken is made of those that the job takes
module _ {Y : Type 0} (job : JobFields) (g : Place → Y) (f : Scan → Y) (same : (p : Place) → visit_of p ≡ visit_in job p.scan.now → g p ≡ f p.scan.now) where
  pub map-taken : (ps : List Place) → map visit_of ps ≡ map (visit_in job) (map (λ (p : Place). p.scan.now) ps)
      → map g (filter (λ (p : Place). p.taken) ps) ≡ map f (filter (is_taken job.takes) (map (λ (p : Place). p.scan.now) ps))
  map-taken [] e = refl
  map-taken (p ∷ ps) e =
      let first : visit_of p ≡ visit_in job p.scan.now = cc in
      let rest : map visit_of ps ≡ map (visit_in job) (map (λ (q : Place). q.scan.now) ps) = cc in
      let held : List Place = filter (λ (q : Place). q.taken) ps in
      ap (λ b. map g (cond b (p ∷ held) held)) (ap (λ (v : Visit). v.taken) first) ∙ by (is_taken job.takes p.scan.now) (same p first) (map-taken ps rest)
    where
      by : (b : Bool) → g p ≡ f p.scan.now → map g (filter (λ (q : Place). q.taken) ps) ≡ map f (filter (is_taken job.takes) (map (λ (q : Place). q.scan.now) ps))
          → map g (cond b (p ∷ filter (λ (q : Place). q.taken) ps) (filter (λ (q : Place). q.taken) ps))
          ≡ map f (cond b (p.scan.now ∷ filter (is_taken job.takes) (map (λ (q : Place). q.scan.now) ps)) (filter (is_taken job.takes) (map (λ (q : Place). q.scan.now) ps)))
      by true one rest = cc
      by false one rest = rest

row-stands : (auto : Bool) (a : Here) (hs : List Here) → pairs_with auto a.number hs ≡ row auto (stand_of a) (stands_of hs)
row-stands auto a [] = refl
row-stands auto a (h ∷ hs) = by (is_pair auto a.number h.number) (row-stands auto a hs)
  where
    by : (b : Bool) → pairs_with auto a.number hs ≡ row auto (stand_of a) (stands_of hs)
        → map (λ (h : Here). pair_of a.number h.number) (cond b (h ∷ filter (λ (h : Here). is_pair auto a.number h.number) hs) (filter (λ (h : Here). is_pair auto a.number h.number) hs))
        ≡ map (λ (s : Stand). pair_of a.number s.number) (cond b (stand_of h ∷ filter (λ (s : Stand). is_pair auto a.number s.number) (stands_of hs)) (filter (λ (s : Stand). is_pair auto a.number s.number) (stands_of hs)))
    by true rest = ap (λ ps. pair_of a.number h.number ∷ ps) rest
    by false rest = rest

rows-stands : (auto : Bool) (all firsts : List Here) → pairs_in auto all firsts ≡ rows auto (stands_of firsts) (stands_of all)
rows-stands auto all [] = refl
rows-stands auto all (a ∷ firsts) =
    ap (λ ps. ps ++ pairs_in auto all firsts) (row-stands auto a all) ∙ ap (λ ps. row auto (stand_of a) (stands_of all) ++ ps) (rows-stands auto all firsts)

module _ (job : JobFields) (p : Place) (held : visit_of p ≡ visit_in job p.scan.now) where
  pub stands-held : stands_of p.stands.items ≡ stands_in job p.scan.now
  stands-held = ap (λ (v : Visit). v.stands) held

  -- the baselines of a scan that is held
  pub baselines-held : held_baselines job.auto p ≡ baselines_in job p.scan.now
  baselines-held =
      rows-stands job.auto p.stands.items p.stands.items ∙ ap (λ ss. rows job.auto ss ss) stands-held ∙ sym (baselines_in-rows job p.scan.now)

  pub samples-held : (rate : ℕ) → held_samples rate p ≡ samples_of job rate p.scan.now
  samples-held rate = samples_of-stands job rate p.scan.now p.stands.items stands-held

  pub seconds-held : (rate : ℕ) → held_seconds rate p ≡ div_ceil (samples_of job rate p.scan.now) rate
  seconds-held rate = ap (λ n. div_ceil n rate) (samples-held rate)

  pub cells-held : held_cells job p ≡ length (baselines_in job p.scan.now) * length job.products * job.lags
  cells-held = ap (λ bs. length bs * length job.products * job.lags) baselines-held

  pub epochs-held : (epoch rate : ℕ) → held_epochs job epoch rate p ≡ scan_epochs job epoch rate p.scan.now
  epochs-held epoch rate =
      ap (λ bs. cond (length bs == 0) 0 (epochs_in job epoch (held_samples rate p))) baselines-held
      ∙ ap (λ n. cond (length (baselines_in job p.scan.now) == 0) 0 (epochs_in job epoch n)) (samples-held rate)

  pub few-held : (most : ℕ) → length job.stations ≤ most → length p.stands.items ≤ most
  few-held most few =
      let long : length (stands_of p.stands.items) ≡ length p.stands.items = length-map p.stands.items stand_of in
      let same : length (stands_of p.stands.items) ≡ length (stands_in job p.scan.now) = ap length stands-held in
      omega (arith, stands-few job p.scan.now)

-- what holds of those that pass holds of each that passes
All-passing : {X : Type 0} (P : X → Type 0) (t : X → Bool) (xs : List X) → All P (filter t xs) → All (λ x. t x ≡ true → P x) xs
All-passing P t [] all = All-nil (λ x. t x ≡ true → P x)
All-passing P t (x ∷ xs) all = by (t x) refl all (All-passing P t xs)
  where
    by : (b : Bool) → t x ≡ b → All P (cond b (x ∷ filter t xs) (filter t xs)) → (All P (filter t xs) → All (λ x. t x ≡ true → P x) xs) → All (λ x. t x ≡ true → P x) (x ∷ xs)
    by true is all rest = All-cons (λ x. t x ≡ true → P x) x xs (λ passes. All-head P x (filter t xs) all) (rest (All-tail P x (filter t xs) all))
    by false is all rest = All-cons (λ x. t x ≡ true → P x) x xs (λ passes. absurd cc) (rest all)

module _ (job : JobFields) (ps : List Place) (whole : map visit_of ps ≡ map (visit_in job) (map (λ (p : Place). p.scan.now) ps)) where
  -- at most so many stations stand in each scan
  pub few-All : (most : ℕ) → length job.stations ≤ most → All (λ p. length p.stands.items ≤ most) ps
  few-All most few = All-weaker (λ p. visit_of p ≡ visit_in job p.scan.now) (λ p. length p.stands.items ≤ most) (λ p held. few-held job p held most few) ps (visits-All job ps whole)

  -- at most so many samples are in each that is taken
  pub samples-All : (rate most : ℕ) → All (λ scan. samples_of job rate scan ≤ most) (filter (is_taken job.takes) (map (λ (p : Place). p.scan.now) ps))
      → All (λ p. p.taken ≡ true → held_samples rate p ≤ most) ps
  samples-All rate most all = λ k d less taken.
      let p : Place = get_or ps k d in
      let visit : visit_of p ≡ visit_in job p.scan.now = visits-All job ps whole k d less in
      let each : All (λ (q : Place). is_taken job.takes q.scan.now ≡ true → samples_of job rate q.scan.now ≤ most) ps =
      All-from_map (λ scan. is_taken job.takes scan ≡ true → samples_of job rate scan ≤ most) (λ (q : Place). q.scan.now) ps
      (All-passing (λ scan. samples_of job rate scan ≤ most) (is_taken job.takes) (map (λ (q : Place). q.scan.now) ps) all) in
      omega (arith, samples-held job p visit rate, each k d less (sym (ap (λ (v : Visit). v.taken) visit) ∙ taken))
