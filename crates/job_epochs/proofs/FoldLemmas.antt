-- The cells that the epochs of a list add up to: those of one integration count, and no others.
use Rattle.std.specs.Prelude.{flat_map, slice_get, if◌then◌else◌}
use Rattle.std.specs.List.{range_with_len, enumerate_from}
use Rattle.std.proofs.Common.{◌≡◌, ◌∙◌, refl, ap, ℕ, zero, suc, ◌+◌, ◌<◌, ◌≤◌, ⊎_elim, Bool, true, false, ◌==◌, ◌&&◌, List, [], ◌∷◌, ◌++◌, map, Some, arith}
use Rattle.std.proofs.lemmas.Bool.{eqb-true, eq-eqb, cond-false, cases_lt}
use Rattle.corr_model.specs.declared.cell.Cell.{Cell}
use Rattle.piece_plan.specs.declared.job.ScanSize.{ScanSize}
use Rattle.piece_plan.specs.declared.epoch.EpochPlan.{EpochPlan}
use Rattle.piece_plan.specs.Parts.{Range, parts}
use Rattle.piece_plan.specs.Epochs.{JobSizes, range_of, integration_at, integration_count, integration_epochs, scan_epochs, epochs_of}
use Rattle.job_epochs.specs.Added.{add_cells, is_of, added_from}

-- the cells so far, and those of each epoch of an integration behind them, by what an epoch itself adds
abbrev pub added_by : (EpochPlan → List Cell) → ℕ → ℕ → List Cell → List EpochPlan → List Cell
added_by f number m sum [] = sum
added_by f number m sum (e ∷ epochs) = added_by f number m (if is_of number m e then add_cells sum (f e) else sum) epochs

pub added_from-is : (cells : ℕ → List Cell) (f : EpochPlan → List Cell) (number m k : ℕ) (sum : List Cell) (epochs : List EpochPlan)
    → ((i : ℕ) (e : EpochPlan) → slice_get epochs i ≡ Some e → cells (k + i) ≡ f e)
    → added_from cells number m sum (enumerate_from k epochs) ≡ added_by f number m sum epochs
added_from-is cells f number m k sum [] each = refl
added_from-is cells f number m k sum (e ∷ epochs) each =
    let here : k ≡ k + 0 = omega arith in
    let first : cells k ≡ f e = ap cells here ∙ each 0 e refl in
    ap
    (λ (row : List Cell). added_from cells number m (if is_of number m e then add_cells sum row else sum) (enumerate_from (k + 1) epochs))
    first
    ∙ added_from-is cells f number m (k + 1) (if is_of number m e then add_cells sum (f e) else sum) epochs
    (λ i d there.
    let place : k + 1 + i ≡ k + suc i = omega arith in
    ap cells place ∙ each (suc i) d there)

pub is_of-true : (number m : ℕ) → ((number == number) && (m == m)) ≡ true
is_of-true number m =
    ap (λ (b : Bool). b && (m == m)) (eq-eqb number number refl) ∙ eq-eqb m m refl

pub is_of-false : (number m k j : ℕ) → (k ≡ number → j ≡ m → ⊥) → ((k == number) && (j == m)) ≡ false
is_of-false number m k j other = by (k == number) (j == m) refl refl
  where
    by : (a b : Bool) → (k == number) ≡ a → (j == m) ≡ b → ((k == number) && (j == m)) ≡ false
    by true true same here = absurd (other (eqb-true k number same) (eqb-true j m here))
    by true false same here = ap (λ (b : Bool). b && (j == m)) same ∙ here
    by false b differs here = ap (λ (b : Bool). b && (j == m)) differs

-- the epochs of so many integrations of a scan, from one on, and those of scans that are numbered from one on
abbrev integrations_epochs : JobSizes → ℕ → ScanSize → ℕ → ℕ → List EpochPlan
integrations_epochs job number size a n = flat_map (integration_epochs job number size) (range_with_len a n)

abbrev scans_epochs : JobSizes → ℕ → List ScanSize → List EpochPlan
scans_epochs job k sizes = flat_map (λ (s : ℕ × ScanSize). scan_epochs job s.0 s.1) (enumerate_from k sizes)

module _ (f : EpochPlan → List Cell) (number m : ℕ) where
  added_by-append : (sum : List Cell) (xs ys : List EpochPlan)
      → added_by f number m sum (xs ++ ys) ≡ added_by f number m (added_by f number m sum xs) ys
  added_by-append sum [] ys = refl
  added_by-append sum (x ∷ xs) ys = added_by-append (if is_of number m x then add_cells sum (f x) else sum) xs ys

  -- the epochs of another integration
  ranges-others : (job : JobSizes) (k j : ℕ) (size : ScanSize) (sum : List Cell) (ranges : List Range) → (k ≡ number → j ≡ m → ⊥)
      → added_by f number m sum (map (range_of job k size j) ranges) ≡ sum
  ranges-others job k j size sum [] other = refl
  ranges-others job k j size sum (r ∷ ranges) other =
      ap (λ (cells : List Cell). added_by f number m cells (map (range_of job k size j) ranges))
      (cond-false ((k == number) && (j == m)) _ sum (is_of-false number m k j other))
      ∙ ranges-others job k j size sum ranges other

  integration-others : (job : JobSizes) (k j : ℕ) (size : ScanSize) (sum : List Cell) → (k ≡ number → j ≡ m → ⊥)
      → added_by f number m sum (integration_epochs job k size j) ≡ sum
  unfolding integration_epochs
  integration-others job k j size sum other =
      ranges-others job k j size sum (parts (integration_at job size j).from (integration_at job size j).to job.epoch) other

  -- those of other integrations
  integrations-others : (job : JobSizes) (k a n : ℕ) (size : ScanSize) (sum : List Cell) → ((j : ℕ) → a ≤ j → k ≡ number → j ≡ m → ⊥)
      → added_by f number m sum (integrations_epochs job k size a n) ≡ sum
  integrations-others job k a zero size sum others = refl
  integrations-others job k a (suc n) size sum others =
      added_by-append sum (integration_epochs job k size a) (integrations_epochs job k size (a + 1) n)
      ∙ ap (λ (cells : List Cell). added_by f number m cells (integrations_epochs job k size (a + 1) n))
      (integration-others job k a size sum (others a (omega arith)))
      ∙ integrations-others job k (a + 1) n size sum (λ j later. others j (omega (arith, later)))

  scan-others : (job : JobSizes) (k : ℕ) (size : ScanSize) (sum : List Cell) → (k ≡ number → ⊥)
      → added_by f number m sum (scan_epochs job k size) ≡ sum
  unfolding scan_epochs
  scan-others job k size sum other =
      integrations-others job k size.first (integration_count job size) size sum (λ j later same here. other same)

  -- those of scans behind the scan
  scans-others : (job : JobSizes) (k : ℕ) (sizes : List ScanSize) (sum : List Cell) → number < k
      → added_by f number m sum (scans_epochs job k sizes) ≡ sum
  scans-others job k [] sum behind = refl
  scans-others job k (size ∷ sizes) sum behind =
      added_by-append sum (scan_epochs job k size) (scans_epochs job (k + 1) sizes)
      ∙ ap (λ (cells : List Cell). added_by f number m cells (scans_epochs job (k + 1) sizes))
      (scan-others job k size sum (λ same. omega (arith, same, behind)))
      ∙ scans-others job (k + 1) sizes sum (omega (arith, behind))

  -- the integration among those of its scan
  scan-one : (job : JobSizes) (a n : ℕ) (size : ScanSize) (sum : List Cell) → a ≤ m → m < a + n
      → added_by f number m sum (integrations_epochs job number size a n)
      ≡ added_by f number m sum (integration_epochs job number size m)
  scan-one job a zero size sum low high = absurd (omega (arith, low, high))
  scan-one job a (suc n) size sum low high =
      added_by-append sum (integration_epochs job number size a) (integrations_epochs job number size (a + 1) n)
      ∙ ⊎_elim
      (λ (before : a < m).
      ap (λ (cells : List Cell). added_by f number m cells (integrations_epochs job number size (a + 1) n))
      (integration-others job number a size sum (λ same here. omega (arith, here, before)))
      ∙ scan-one job (a + 1) n size sum (omega (arith, before)) (omega (arith, high)))
      (λ (last : m ≤ a).
      let here : a ≡ m = omega (arith, low, last) in
      integrations-others job number (a + 1) n size (added_by f number m sum (integration_epochs job number size a))
      (λ j later same at. omega (arith, later, at, last))
      ∙ ap (λ (j : ℕ). added_by f number m sum (integration_epochs job number size j)) here)
      (cases_lt a m)

  -- the scan among those of the job
  scans-one : (job : JobSizes) (k i : ℕ) (sizes : List ScanSize) (size : ScanSize) (sum : List Cell) → number ≡ k + i
      → slice_get sizes i ≡ Some size → size.first ≤ m → m < size.first + integration_count job size
      → added_by f number m sum (scans_epochs job k sizes)
      ≡ added_by f number m sum (integration_epochs job number size m)
  unfolding scan_epochs
  scans-one job k i [] size sum place there begun inside = absurd (cc)
  scans-one job k zero (s ∷ sizes) size sum place there begun inside =
      let same : s ≡ size = cc in
      let here : k ≡ number = omega (arith, place) in
      added_by-append sum (integrations_epochs job k s s.first (integration_count job s))
      (scans_epochs job (k + 1) sizes)
      ∙ scans-others job (k + 1) sizes
      (added_by f number m sum (integrations_epochs job k s s.first (integration_count job s))) (omega (arith, place))
      ∙ ap (λ (t : ScanSize). added_by f number m sum (integrations_epochs job k t t.first (integration_count job t))) same
      ∙ ap (λ (n : ℕ). added_by f number m sum (integrations_epochs job n size size.first (integration_count job size))) here
      ∙ scan-one job size.first (integration_count job size) size sum begun inside
  scans-one job k (suc i) (s ∷ sizes) size sum place there begun inside =
      added_by-append sum (integrations_epochs job k s s.first (integration_count job s))
      (scans_epochs job (k + 1) sizes)
      ∙ ap (λ (cells : List Cell). added_by f number m cells (scans_epochs job (k + 1) sizes))
      (integrations-others job k s.first (integration_count job s) s sum (λ j later same here. omega (arith, same, place)))
      ∙ scans-one job (k + 1) i sizes size sum (omega (arith, place)) there begun inside

  -- of all epochs of a job those of the integration count
  pub epochs-one : (job : JobSizes) (size : ScanSize) (sum : List Cell) → slice_get job.scans number ≡ Some size
      → size.first ≤ m → m < size.first + integration_count job size
      → added_by f number m sum (epochs_of job) ≡ added_by f number m sum (integration_epochs job number size m)
  unfolding epochs_of
  epochs-one job size sum there begun inside = scans-one job 0 number job.scans size sum (omega arith) there begun inside
