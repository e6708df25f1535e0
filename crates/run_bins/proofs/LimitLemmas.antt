-- The first scan whose integrations have too many cells.
use Rattle.std.specs.Prelude.{find, option_map, cond}
use Rattle.std.proofs.Common.{◌≡◌, ◌∙◌, ℕ, ◌+◌, ◌<◌, ◌≤◌, Bool, true, false, List, [], ◌∷◌, length, get_or, take, Option, Some, None, refl, sym, ap, subst, arith}
use Rattle.std.specs.List.{All}
use Rattle.std.proofs.lemmas.List.Elements.{All-nil, All-cons, All-more, All-weaker}
use Rattle.std.proofs.lemmas.Bool.{ltb-false}
use Rattle.job_plan.specs.declared.plan.ScanPlan.{ScanPlan}
use Rattle.job_plan.specs.declared.plan.Plan.{Plan}
use Rattle.pulsar_bins.specs.Bins.{BinsFields}
use Rattle.bin_sums.specs.Binned.{bin_width}
use Rattle.run_bins.specs.Outcome.{is_wide}

-- the first of a list, and of the rest where the first thing is none
pub find-here : {A : Type 0} (p : A → Bool) (x : A) (xs : List A) → p x ≡ true → find p (x ∷ xs) ≡ Some x
find-here {A = A} p x xs h = ap (λ (b : Bool). cond b (Some x) (find p xs)) h

pub find-behind : {A : Type 0} (p : A → Bool) (x : A) (xs : List A) → p x ≡ false → find p (x ∷ xs) ≡ find p xs
find-behind {A = A} p x xs h = ap (λ (b : Bool). cond b (Some x) (find p xs)) h

module _ (plan : Plan) (bins : BinsFields) where
  narrow-first : (s : ScanPlan) (scans : List ScanPlan) (b : Bool) → is_wide plan bins s ≡ b → find (is_wide plan bins) (s ∷ scans) ≡ None
      → (bin_width plan bins s ≤ 4194304) × (find (is_wide plan bins) scans ≡ None)
  narrow-first s scans true wide none = absurd (let e : Some s ≡ None = sym (find-here (is_wide plan bins) s scans wide) ∙ none in cc)
  narrow-first s scans false narrow none = (ltb-false 4194304 (bin_width plan bins s) narrow, sym (find-behind (is_wide plan bins) s scans narrow) ∙ none)

  pub few-cells : (scans : List ScanPlan) → find (is_wide plan bins) scans ≡ None → All (λ scan. bin_width plan bins scan ≤ 4194304) scans
  few-cells [] none = All-nil (λ (scan : ScanPlan). bin_width plan bins scan ≤ 4194304)
  few-cells (s ∷ scans) none =
      let first = narrow-first s scans (is_wide plan bins s) refl none in
      All-cons (λ (scan : ScanPlan). bin_width plan bins scan ≤ 4194304) s scans first.0 (few-cells scans first.1)

  pub none-wide : None ≡ option_map (bin_width plan bins) (find (is_wide plan bins) plan.scans) → find (is_wide plan bins) plan.scans ≡ None
  none-wide found = at (find (is_wide plan bins) plan.scans) (sym found)
    where
      at : (o : Option ScanPlan) → option_map (bin_width plan bins) o ≡ None → o ≡ None
      at None h = refl
      at (Some scan) h = absurd cc

-- the most of some scans, and of one more
pub most-more : (plan : Plan) (bins : BinsFields) (scans : List ScanPlan) (i : ℕ) (scan : ScanPlan) (most most' : ℕ) → i < length scans → scan ≡ get_or scans i scan
    → All (λ s. bin_width plan bins s ≤ most) (take i scans) → most ≤ most' → bin_width plan bins scan ≤ most'
    → All (λ s. bin_width plan bins s ≤ most') (take (i + 1) scans)
most-more plan bins scans i scan most most' inside is so_far more this =
    All-more (λ (s : ScanPlan). bin_width plan bins s ≤ most') scans i scan inside
    (All-weaker (λ (s : ScanPlan). bin_width plan bins s ≤ most) (λ (s : ScanPlan). bin_width plan bins s ≤ most') (λ s h. omega (arith, h, more)) (take i scans) so_far)
    (subst (λ (s : ScanPlan). bin_width plan bins s ≤ most') is this)
