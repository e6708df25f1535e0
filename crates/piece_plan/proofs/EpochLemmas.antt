-- The epoch with a number, and what it is inside of.
use Rattle.std.specs.Prelude.{slice_get}
use Rattle.std.specs.Int.{div_ceil}
use Rattle.std.proofs.Common.{◌≡◌, ◌∙◌, sym, ap, refl, subst, ℕ, zero, suc, ◌+◌, ◌-◌, ◌*◌, ◌/◌, ◌%◌, ◌<◌, ◌≤◌, min, List, [], length, get_or, Some, arith}
use Rattle.std.proofs.lemmas.Option.{slice_get_within, get_or_from_slice_get, slice_get_read}
use Rattle.piece_plan.specs.declared.job.ScanSize.{ScanSize}
use Rattle.piece_plan.specs.declared.epoch.EpochPlan.{EpochPlan}
use Rattle.piece_plan.specs.Epochs.{JobSizes, job_sizes, IsJob, IsScan, IsEpoch, IsOfPlan, epochs_of}
use Rattle.piece_plan.specs.Counts.{epochs_before, AreEnds, count_in, epoch_at}
use Rattle.piece_plan.proofs.Quotients.{below_ceil}
use Rattle.piece_plan.proofs.RangeLemmas.{range-IsEpoch}
use Rattle.piece_plan.proofs.CountLemmas.{length-scan_epochs, slice_get-scan_epochs, epoch-IsPlaced}
use Rattle.piece_plan.proofs.AboveLemmas.{IsFirstAbove}
use Rattle.piece_plan.proofs.EndLemmas.{epochs_before-none, epochs_before-more, slice_get-epochs_of}

pub same_epoch : (scan m m' from from' to to' products baselines lags : ℕ) → m ≡ m' → from ≡ from' → to ≡ to'
    → ◌≡◌ {A = EpochPlan}
    (record { scan = scan; m = m; from = from; to = to; products = products; baselines = baselines; lags = lags })
    (record { scan = scan; m = m'; from = from'; to = to'; products = products; baselines = baselines; lags = lags })
same_epoch scan m m' from from' to to' products baselines lags p q r = cc

-- where epoch j of a scan begins
pub record IsWithin (first samples integration epoch j per : ℕ) : Type 0 where
  pub start : (first + j / per) * integration < samples
  pub from : (first + j / per) * integration + j % per * epoch < min samples ((first + j / per) * integration + integration)

pub epoch-IsWithin : (first samples integration epoch j per : ℕ) → 0 < integration → 0 < epoch
    → j < count_in (samples - first * integration) integration epoch → per ≡ div_ceil integration epoch
    → IsWithin first samples integration epoch j per
epoch-IsWithin first samples integration epoch j per some cut inside is =
    let placed = epoch-IsPlaced (samples - first * integration) integration epoch j some cut inside in
    let start = below_ceil (samples - first * integration) integration (j / div_ceil integration epoch) some placed.inside in
    let from = below_ceil
    (min (0 + (j / div_ceil integration epoch + 1) * integration) (samples - first * integration) - (0 + j / div_ceil integration epoch * integration))
    epoch (j % div_ceil integration epoch) cut placed.part in
    rw is (record { start = omega (arith, start); from = omega (arith, start, from) })

pub epoch-is : (first samples integration epoch j per number products baselines lags end to : ℕ) → per ≡ div_ceil integration epoch
    → end ≡ min samples ((first + j / per) * integration + integration)
    → to ≡ min end ((first + j / per) * integration + j % per * epoch + epoch)
    → ◌≡◌ {A = EpochPlan}
    (record {
      scan = number;
      m = first + j / per;
      from = (first + j / per) * integration + j % per * epoch;
      to = to;
      products = products;
      baselines = baselines;
      lags = lags;
    })
    (epoch_at (job_sizes [] integration epoch lags) number
    (record { first = first; samples = samples; products = products; baselines = baselines }) j)
epoch-is first samples integration epoch j per number products baselines lags end to is close last =
    let m : first + j / per ≡ first + j / div_ceil integration epoch = ap (λ (p : ℕ). first + j / p) is in
    let start : (first + j / per) * integration ≡ (first + j / div_ceil integration epoch) * integration = ap (λ (n : ℕ). n * integration) m in
    let past : j % per * epoch ≡ j % div_ceil integration epoch * epoch = ap (λ (p : ℕ). j % p * epoch) is in
    same_epoch _ _ _ _ _ _ _ _ _ _ m (omega (arith, start, past)) (omega (arith, start, past, close, last))

pub epoch_at-IsEpoch : (job : JobSizes) (number : ℕ) (size : ScanSize) (j : ℕ) → IsJob job → slice_get job.scans number ≡ Some size
    → j < count_in (size.samples - size.first * job.integration) job.integration job.epoch → IsEpoch job (epoch_at job number size j)
epoch_at-IsEpoch job number size j is at inside =
    let within = epoch-IsWithin size.first size.samples job.integration job.epoch j (div_ceil job.integration job.epoch)
    is.integration is.epoch inside refl in
    range-IsEpoch job number size _ _ _ at (omega arith) (omega arith) (omega (arith, within.from, is.epoch)) (omega arith) (omega (arith, is.short))

pub scan-IsScan : (job : JobSizes) (number : ℕ) (size : ScanSize) → IsJob job → slice_get job.scans number ≡ Some size → IsScan job.integration job.lags size
scan-IsScan job number size is at =
    let inside = slice_get_within job.scans number size at in
    subst (IsScan job.integration job.lags) (get_or_from_slice_get job.scans number size size at) (is.scans number size inside)

pub IsEpoch-IsOfPlan : (job : JobSizes) (e : EpochPlan) → IsJob job → IsEpoch job e → IsOfPlan e
IsEpoch-IsOfPlan job e is inside =
    let scan = scan-IsScan job e.scan inside.size is inside.scan in
    record {
      some = inside.some;
      to = omega (arith, inside.to, scan.samples);
      short = inside.short;
      products = omega (arith, inside.products, scan.products);
      baselines = omega (arith, inside.baselines, scan.baselines);
      lags = rw inside.lags is.lags;
      cells = rw (inside.products, inside.baselines, inside.lags) scan.cells;
    }

-- the scan that has epoch i, and which of its epochs that is
pub record IsFound (job : JobSizes) (i number before : ℕ) (size : ScanSize) : Type 0 where
  pub scan : slice_get job.scans number ≡ Some size
  pub low : before ≤ i
  pub inside : i - before < count_in (size.samples - size.first * job.integration) job.integration job.epoch
  pub at : slice_get (epochs_of job) i ≡ Some (epoch_at job number size (i - before))

before-is : (job : JobSizes) (ends : List ℕ) (scan before : ℕ) → AreEnds job ends → scan < length ends
    → (scan ≡ 0 → before ≡ 0) → (0 < scan → before ≡ get_or ends (scan - 1) 0) → before ≡ epochs_before job scan
before-is job ends zero before are below first later = first refl ∙ sym (epochs_before-none job)
before-is job ends (suc scan) before are below first later =
    let less : suc scan - 1 ≡ scan = omega arith in
    let one : scan + 1 ≡ suc scan = omega arith in
    later (omega arith) ∙ ap (λ n. get_or ends n 0) less ∙ are.each scan (omega arith) ∙ ap (epochs_before job) one

before-le : (ends : List ℕ) (i scan before : ℕ) → IsFirstAbove ends i scan
    → (scan ≡ 0 → before ≡ 0) → (0 < scan → before ≡ get_or ends (scan - 1) 0) → before ≤ i
before-le ends i zero before above first later = omega (arith, first refl)
before-le ends i (suc scan) before above first later =
    let less : suc scan - 1 ≡ scan = omega arith in
    let low = above.before scan (omega arith) in
    let same : before ≡ get_or ends scan 0 = later (omega arith) ∙ ap (λ n. get_or ends n 0) less in
    omega (arith, low, same)

pub epoch-IsFound : (job : JobSizes) (ends : List ℕ) (i scan before : ℕ) (size : ScanSize) → IsJob job → AreEnds job ends → IsFirstAbove ends i scan
    → (scan ≡ 0 → before ≡ 0) → (0 < scan → before ≡ get_or ends (scan - 1) 0) → slice_get job.scans scan ≡ Some size
    → IsFound job i scan before size
epoch-IsFound job ends i scan before size is are above first later at =
    let low = before-le ends i scan before above first later in
    let start = before-is job ends scan before are above.within first later in
    let end = are.each scan above.within in
    let more = epochs_before-more job scan size at in
    let count = length-scan_epochs job scan size is.integration is.epoch in
    let inside : i - before < count_in (size.samples - size.first * job.integration) job.integration job.epoch = omega (arith, low, start, end, more, count, above.above) in
    let place : epochs_before job scan + (i - before) ≡ i = omega (arith, low, start) in
    record {
      scan = at;
      low = low;
      inside = inside;
      at = ap (slice_get (epochs_of job)) (sym place)
          ∙ slice_get-epochs_of job scan (i - before) size (epoch_at job scan size (i - before)) at
          (slice_get-scan_epochs job scan size (i - before) is.integration is.epoch inside);
    }

-- the same from what the search in a copy of the ends says
pub found_by : (job : JobSizes) (ends one two : List ℕ) (i scan before : ℕ) (size : ScanSize) → IsJob job → AreEnds job ends → one ≡ ends → two ≡ ends
    → scan < length one → i < get_or one scan 0 → ((k : ℕ) → k < scan → get_or one k 0 ≤ i)
    → (scan ≡ 0 → before ≡ 0) → (0 < scan → before ≡ get_or two (scan - 1) 0) → size ≡ get_or job.scans scan size
    → IsFound job i scan before size
found_by job ends one two i scan before size is are first second within above low start later at =
    let count : scan < length ends = rw (← first) within in
    let high : i < get_or ends scan 0 = rw (← first) above in
    let lower : (k : ℕ) → k < scan → get_or ends k 0 ≤ i = λ k below. rw (← first) (low k below) in
    epoch-IsFound job ends i scan before size is are
    (record { within = count; above = high; before = lower })
    start (λ some. later some ∙ ap (λ xs. get_or xs (scan - 1) 0) second)
    (slice_get_read job.scans (length ends) scan size are.many count at)
