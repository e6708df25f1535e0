-- Runs of calls of a disk, one call on.
use Rattle.std.proofs.Common.{◌≡◌, ◌<◌, ◌≤◌, ◌⊎◌, ⊎_elim, ℕ, List, refl, arith, subst, sym}
use Rattle.dev_traits.specs.Images.{Same, Torn, Shorn}
use Rattle.dev_traits.specs.Moments.{Goes, Runs, NeverFalls}

le_or_lt : (m n : ℕ) → (m ≤ n) ⊎ (n < m)
le_or_lt m n = grind arith

same_number : (m n : ℕ) → m ≤ n → n ≤ m → n ≡ m
same_number m n le ge = omega arith

-- what was not touched may be what a torn write or cut leaves
pub torn_same : (a e : ℕ) (v : List ℕ) → Torn a e v v
torn_same a e v = record { before = λ i le lt. refl; behind = λ i le ge. refl; no_shorter = omega arith; no_longer = omega arith }

pub shorn_same : (c : ℕ) (v : List ℕ) → Shorn c v v
shorn_same c v = record { front = λ i le lt. refl; no_shorter = omega arith; no_longer = omega arith }

module _ {D : Type 0} (moment : D → ℕ) (may_leave : D → ℕ → List ℕ → Type 0) where
  -- a call that changes nothing, after another: the two are like the first alone
  pub goes_same : (step : List ℕ → List ℕ → Type 0) → ((v : List ℕ) → step v v) → (old mid new : D) → Goes moment may_leave step old mid → Goes moment may_leave Same mid new → Goes moment may_leave step old new
  goes_same step stays old mid new first second = record {
    later = omega (arith, first.later, second.later);
    past = λ t image le now. first.past t image le (second.past t image (omega (arith, first.later)) now);
    kept = λ t image le before. second.kept t image (omega (arith, first.later)) (first.kept t image le before);
    each = λ t image more at_most now. ⊎_elim
        (λ (earlier : t ≤ moment mid). first.each t image more earlier (second.past t image earlier now))
        (λ (after : moment mid < t).
        let here = from_mid t image after at_most now in
        ⊎_elim
        (λ (still : moment mid ≤ moment old).
        let begun : may_leave mid (moment old) image = subst (λ m. may_leave mid m image) (same_number (moment old) (moment mid) first.later still) here in
        (image, first.past (moment old) image (omega arith) begun, stays image))
        (λ (grown : moment old < moment mid). first.each (moment mid) image grown (omega arith) here)
        (le_or_lt (moment mid) (moment old)))
        (le_or_lt t (moment mid));
    narrows = λ t t' image more up at_most now. ⊎_elim
        (λ (earlier : t' ≤ moment mid). second.kept t image (omega (arith, up, earlier)) (first.narrows t t' image more up earlier (second.past t' image earlier now)))
        (λ (after : moment mid < t'). ⊎_elim
        (λ (before : t ≤ moment mid). second.kept t image before (first.narrows t (moment mid) image more before (omega arith) (from_mid t' image after at_most now)))
        (λ (both : moment mid < t). second.narrows t t' image both up at_most now)
        (le_or_lt t (moment mid)))
        (le_or_lt t' (moment mid));
  }
    where
      from_mid : (t : ℕ) (image : List ℕ) → moment mid < t → t ≤ moment new → may_leave new t image → may_leave mid (moment mid) image
      from_mid t image after at_most now =
          let from = second.each t image after at_most now in
          subst (may_leave mid (moment mid)) (sym from.2) from.1

  module _ (step : List ℕ → List ℕ → Type 0) (stays : (v : List ℕ) → step v v) where
    -- no call at all
    pub runs_none : (d : D) → Runs moment may_leave step d d
    runs_none d = record {
      later = omega arith;
      past = λ t image le now. now;
      kept = λ t image le now. now;
      comes = λ t t' image low up high now. let e : t' ≡ t = omega arith in (image, subst (λ q. may_leave d q image) e now, stays image);
    }

    -- one call, where what it does to the images of the moment before it is such a step
    pub runs_of : (torn : List ℕ → List ℕ → Type 0) (old new : D) → Goes moment may_leave torn old new → ((v image : List ℕ) → may_leave old (moment old) v → torn v image → step v image) → Runs moment may_leave step old new
    runs_of torn old new goes widen = record {
      later = goes.later;
      past = goes.past;
      kept = goes.kept;
      comes = λ t t' image low up high now. ⊎_elim
          (λ (same : t' ≤ t). let e : t' ≡ t = omega arith in (image, subst (λ q. may_leave new q image) e now, stays image))
          (λ (after : t < t'). ⊎_elim
          (λ (begun : t ≤ moment old).
          let e : t ≡ moment old = omega arith in
          let from = goes.each t' image (omega (arith, low)) high now in
          let there : may_leave new (moment old) from.0 = goes.kept (moment old) from.0 (omega arith) from.1 in
          (from.0, subst (λ q. may_leave new q from.0) (sym e) there, widen from.0 image from.1 from.2))
          (λ (within : moment old < t). (image, goes.narrows t t' image within up high now, stays image))
          (le_or_lt t (moment old)))
          (le_or_lt t' t);
    }

    -- one run after another
    pub runs_both : ((u v w : List ℕ) → step u v → step v w → step u w) → (old mid new : D) → Runs moment may_leave step old mid → Runs moment may_leave step mid new → Runs moment may_leave step old new
    runs_both joins old mid new first second = record {
      later = omega (arith, first.later, second.later);
      past = λ t image le now. first.past t image le (second.past t image (omega (arith, first.later)) now);
      kept = λ t image le before. second.kept t image (omega (arith, first.later)) (first.kept t image le before);
      comes = λ t t' image low up high now. ⊎_elim
          (λ (early : t' ≤ moment mid).
          let from = first.comes t t' image low up early (second.past t' image early now) in
          (from.0, second.kept t from.0 (omega (arith, up, early)) from.1, from.2))
          (λ (late : moment mid < t'). ⊎_elim
          (λ (before : t ≤ moment mid).
          let later = second.comes (moment mid) t' image (omega arith) (omega (arith, late)) high now in
          let from = first.comes t (moment mid) later.0 low before (omega arith) (second.past (moment mid) later.0 (omega arith) later.1) in
          (from.0, second.kept t from.0 before from.1, joins from.0 later.0 image from.2 later.2))
          (λ (after : moment mid < t). second.comes t t' image (omega (arith, after)) up high now)
          (le_or_lt t (moment mid)))
          (le_or_lt t' (moment mid));
    }

  -- where no step lowers a count, no run does
  pub never_falls : (count : List ℕ → ℕ) (step : List ℕ → List ℕ → Type 0) (old new : D) → ((v image : List ℕ) → step v image → count v ≤ count image) → Runs moment may_leave step old new → NeverFalls moment may_leave count old new
  never_falls count step old new up_only runs = λ t t' n low up high all image now.
      let from = runs.comes t t' image low up high now in
      omega (arith, all from.0 from.1, up_only from.0 image from.2)

  -- what each image of the entry has, and each step keeps, each image of the run has
  pub always : (P : List ℕ → Type 0) (step : List ℕ → List ℕ → Type 0) (old new : D) → Runs moment may_leave step old new → ((v : List ℕ) → may_leave old (moment old) v → P v) → ((v image : List ℕ) → P v → step v image → P image)
      → (t : ℕ) (image : List ℕ) → moment old ≤ t → t ≤ moment new → may_leave new t image → P image
  always P step old new runs begun goes_on t image low high now =
      let from = runs.comes (moment old) t image (omega arith) low high now in
      goes_on from.0 image (begun from.0 (runs.past (moment old) from.0 (omega arith) from.1)) from.2

-- a device whose moments are those of a part of it
pub goes_within : {D E : Type 0} (part : E → D) (moment : D → ℕ) (may_leave : D → ℕ → List ℕ → Type 0) (step : List ℕ → List ℕ → Type 0) (old new : E) → Goes moment may_leave step (part old) (part new)
    → Goes (λ (e : E). moment (part e)) (λ (e : E). may_leave (part e)) step old new
goes_within part moment may_leave step old new g = record { later = g.later; past = g.past; kept = g.kept; each = g.each; narrows = g.narrows }
