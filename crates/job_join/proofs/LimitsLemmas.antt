-- The scans that are taken, one after the other.
use Rattle.std.proofs.Common.{◌≡◌, ℕ, ◌+◌, ◌<◌, Bool, true, false, cond, List, ◌∷◌, map, filter, find, length, get_or, drop, None, Some, Option, nat_lt, ap, refl, sym, ◌∙◌, arith}
use Rattle.std.specs.Option.{option_or}
use Rattle.std.proofs.lemmas.List.{get_or-map, length-map, at_drop_more}
use Rattle.scan_list.specs.declared.scan.Scan.{Scan}
use Rattle.job_text.specs.Job.{JobFields}
use Rattle.job_join.specs.declared.places.Place.{Place}
use Rattle.job_join.specs.declared.joining.Joining.{Joining}
use Rattle.job_join.specs.Standing.{is_taken}
use Rattle.job_join.specs.Spans.{samples_of}
use Rattle.job_join.specs.Joining.{scans_of, held_samples}
use Rattle.job_join.specs.Places.{Visit, visit_in, visit_of}
use Rattle.job_join.proofs.JoinLemmas.{samples_of-stands}

-- a scan is held with the job's stations in it
pub visit_of-at : (job : JobFields) (ps : List Place) → map visit_of ps ≡ map (visit_in job) (map (λ (p : Place). p.scan.now) ps)
    → (i : ℕ) (p : Place) → i < length ps → p ≡ get_or ps i p → visit_of p ≡ visit_in job p.scan.now
visit_of-at job ps visits i p less is =
    let scans : List Scan = map (λ (q : Place). q.scan.now) ps in
    let long : length scans ≡ length ps = length-map ps (λ (q : Place). q.scan.now) in
    ap visit_of is
    ∙ sym (get_or-map visit_of ps i p (visit_of p) less)
    ∙ ap (λ vs. get_or vs i (visit_of p)) visits
    ∙ get_or-map (visit_in job) scans i p.scan.now (visit_of p) (omega arith)
    ∙ ap (visit_in job) (get_or-map (λ (q : Place). q.scan.now) ps i p p.scan.now less)
    ∙ ap (λ (q : Place). visit_in job q.scan.now) (sym is)

-- a value that passes a test
abbrev pub passing : {Y : Type 0} → (Y → Bool) → Y → Option Y
passing p y = cond (p y) (Some y) None

module _ {X Y : Type 0} (t : X → Bool) (f : X → Y) (p : Y → Bool) where
  abbrev pub taken_value : X → Option Y
  taken_value x = cond (t x) (passing p (f x)) None

  found-more : (x : X) (xs : List X) → find p (map f (filter t (x ∷ xs))) ≡ option_or (taken_value x) (find p (map f (filter t xs)))
  found-more x xs = by (t x)
    where
      one : (b : Bool) (rest : Option Y) → cond b (Some (f x)) rest ≡ option_or (cond b (Some (f x)) None) rest
      one true rest = refl
      one false rest = refl

      by : (b : Bool) → find p (map f (cond b (x ∷ filter t xs) (filter t xs))) ≡ option_or (cond b (passing p (f x)) None) (find p (map f (filter t xs)))
      by true = one (p (f x)) (find p (map f (filter t xs)))
      by false = refl

  turn : (xs : List X) (i : ℕ) (d : X) → i < length xs → find p (map f (filter t (drop i xs))) ≡ option_or (taken_value (get_or xs i d)) (find p (map f (filter t (drop (i + 1) xs))))
  turn xs i d less = at_drop_more (λ ys. find p (map f (filter t ys))) xs i d less ∙ found-more (get_or xs i d) (drop (i + 1) xs)

  -- the first value that passes is found, or none of this scan is
  pub taken-found : (xs : List X) (i : ℕ) (d : X) (y : Y) (r : Option Y) → i < length xs → Some y ≡ taken_value (get_or xs i d) → find p (map f (filter t (drop i xs))) ≡ r → Some y ≡ r
  taken-found xs i d y r less is so_far = ap (λ o. option_or o (find p (map f (filter t (drop (i + 1) xs))))) is ∙ sym (turn xs i d less) ∙ so_far

  pub taken-skip : (xs : List X) (i : ℕ) (d : X) (r : Option Y) → i < length xs → None ≡ taken_value (get_or xs i d) → find p (map f (filter t (drop i xs))) ≡ r
      → find p (map f (filter t (drop (i + 1) xs))) ≡ r
  taken-skip xs i d r less is so_far = ap (λ o. option_or o (find p (map f (filter t (drop (i + 1) xs))))) is ∙ sym (turn xs i d less) ∙ so_far

-- what is past of a scan that is held is so of the scan
pub past-held : (job : JobFields) (rate most : ℕ) (p : Place) → visit_of p ≡ visit_in job p.scan.now
    → cond p.taken (passing (λ n. nat_lt most n) (held_samples rate p)) None ≡ taken_value (is_taken job.takes) (samples_of job rate) (λ n. nat_lt most n) p.scan.now
past-held job rate most p held =
    ap (λ t. cond t (passing (λ n. nat_lt most n) (held_samples rate p)) None) (ap (λ (v : Visit). v.taken) held)
    ∙ ap (λ n. cond (is_taken job.takes p.scan.now) (passing (λ m. nat_lt most m) n) None) (samples_of-stands job rate p.scan.now p.stands.items (ap (λ (v : Visit). v.stands) held))

-- and what is past of the place of a number is so of the scan of that number
pub past-at : (j : Joining) (most i : ℕ) (p : Place) (value : Option ℕ) → map visit_of j.places.items ≡ map (visit_in j.job.now) (scans_of j)
    → i < length j.places.items → p ≡ get_or j.places.items i p → value ≡ cond p.taken (passing (λ n. nat_lt most n) (held_samples j.rate p)) None
    → (i < length (scans_of j)) × (value ≡ taken_value (is_taken j.job.now.takes) (samples_of j.job.now j.rate) (λ n. nat_lt most n) (get_or (scans_of j) i p.scan.now))
past-at j most i p value visits less is past =
    let held = visit_of-at j.job.now j.places.items visits i p less is in
    let here : get_or (scans_of j) i p.scan.now ≡ p.scan.now = get_or-map (λ (q : Place). q.scan.now) j.places.items i p p.scan.now less ∙ ap (λ (q : Place). q.scan.now) (sym is) in (
      omega (arith, less, length-map j.places.items (λ (q : Place). q.scan.now)),
      past ∙ past-held j.job.now j.rate most p held ∙ sym (ap (taken_value (is_taken j.job.now.takes) (samples_of j.job.now j.rate) (λ n. nat_lt most n)) here),
    )
