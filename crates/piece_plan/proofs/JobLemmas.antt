-- The ends of a job's scans while they are counted, and how many epochs there are in all.
use Rattle.std.specs.Prelude.{slice_get}
use Rattle.std.proofs.Common.{◌≡◌, ◌∙◌, sym, ap, refl, ℕ, zero, suc, ◌+◌, ◌-◌, ◌*◌, ◌^◌, ◌<◌, ◌≤◌, List, [], ◌∷◌, ◌++◌, ⊎_elim, length, get_or, Some, arith}
use Rattle.std.proofs.lemmas.Bool.{cases_lt}
use Rattle.std.proofs.lemmas.List.{length-append}
use Rattle.std.proofs.lemmas.Grind.{get_or_default_zero}
use Rattle.std.proofs.lemmas.Option.{slice_get-get_or}
use Rattle.piece_plan.specs.declared.job.ScanSize.{ScanSize}
use Rattle.piece_plan.specs.Epochs.{JobSizes, IsJob, epochs_of}
use Rattle.piece_plan.specs.Counts.{epochs_before, AreEnds, count_in}
use Rattle.piece_plan.proofs.CountLemmas.{length-scan_epochs, count_in-le}
use Rattle.piece_plan.proofs.EndLemmas.{epochs_before-none, epochs_before-more, epochs_before-all, AreEnds-more}
use Rattle.piece_plan.proofs.EpochLemmas.{scan-IsScan}

-- an epoch has a sample
epochs_before-scan : (job : JobSizes) (k : ℕ) (size : ScanSize) → IsJob job → slice_get job.scans k ≡ Some size
    → epochs_before job (k + 1) ≤ epochs_before job k + 2 ^ 40
epochs_before-scan job k size is at =
    let scan = scan-IsScan job k size is at in
    let more = epochs_before-more job k size at in
    let count = length-scan_epochs job k size is.integration is.epoch in
    let small = count_in-le (size.samples - size.first * job.integration) job.integration job.epoch _ _ is.integration is.epoch refl refl in
    omega (arith, more, count, small, scan.samples)

pub epochs_before-bound : (job : JobSizes) (k : ℕ) → IsJob job → k ≤ length job.scans → epochs_before job k ≤ k * 2 ^ 40
epochs_before-bound job zero is within = omega (arith, epochs_before-none job)
epochs_before-bound job (suc k) is within =
    let less = epochs_before-bound job k is (omega (arith, within)) in
    let at = slice_get-get_or job.scans k (record { first = 0; samples = 0; products = 0; baselines = 0 }) (omega (arith, within)) in
    let more = epochs_before-scan job k (get_or job.scans k (record { first = 0; samples = 0; products = 0; baselines = 0 })) is at in
    let next : k + 1 ≡ suc k = omega arith in
    let same = ap (epochs_before job) next in
    omega (arith, same, more, less)

-- the ends of the first i scans, and the number of their epochs
pub record AreCounted (job : JobSizes) (ends : List ℕ) (i end : ℕ) : Type 0 where
  pub long : length ends ≡ i
  pub each : (k : ℕ) → k < length ends → get_or ends k 0 ≡ epochs_before job (k + 1)
  pub end_is : end ≡ epochs_before job i

pub AreCounted-none : (job : JobSizes) (ends : List ℕ) → ends ≡ [] → AreCounted job ends 0 0
AreCounted-none job ends is =
    let long : length ends ≡ 0 = ap length is in
    record {
      long = long;
      each = λ k below. absurd (omega (arith, long, below));
      end_is = sym (epochs_before-none job);
    }

pub AreCounted-more : (job : JobSizes) (ends next : List ℕ) (i end n : ℕ) (size : ScanSize) → IsJob job → AreCounted job ends i end
    → slice_get job.scans i ≡ Some size → n ≡ count_in (size.samples - size.first * job.integration) job.integration job.epoch
    → next ≡ ends ++ (end + n) ∷ [] → AreCounted job next (i + 1) (end + n)
AreCounted-more job ends next i end n size is counted at count pushed =
    let sum : end + n ≡ epochs_before job (i + 1) =
    omega (arith, counted.end_is, count, epochs_before-more job i size at, length-scan_epochs job i size is.integration is.epoch) in
    rw pushed (record {
      long = omega (arith, counted.long, length-append ends ((end + n) ∷ []));
      each = AreEnds-more job ends i (end + n) counted.long counted.each sum;
      end_is = sum;
    })

pub AreCounted-AreEnds : (job : JobSizes) (ends : List ℕ) (i end : ℕ) → AreCounted job ends i end → i ≡ length job.scans → AreEnds job ends
AreCounted-AreEnds job ends i end counted all = record {
  many = counted.long ∙ all;
  each = counted.each;
}

pub no_epochs : (job : JobSizes) (ends : List ℕ) → AreEnds job ends → length ends ≡ 0 → 0 ≡ length (epochs_of job)
no_epochs job ends are none =
    let empty : length job.scans ≡ 0 = sym are.many ∙ none in
    sym (epochs_before-none job) ∙ ap (epochs_before job) (sym empty) ∙ epochs_before-all job

pub last_end : (job : JobSizes) (ends : List ℕ) → AreEnds job ends → 0 < length ends → get_or ends (length ends - 1) 0 ≡ length (epochs_of job)
last_end job ends are some =
    let last : length ends - 1 + 1 ≡ length job.scans = omega (arith, are.many, some) in
    are.each (length ends - 1) (omega (arith, some)) ∙ ap (epochs_before job) last ∙ epochs_before-all job

pub epochs-bound : (job : JobSizes) → IsJob job → length (epochs_of job) ≤ 2 ^ 63
epochs-bound job is = omega (arith, epochs_before-all job, epochs_before-bound job (length job.scans) is (omega arith), is.many)

pub some_ends : (job : JobSizes) (ends : List ℕ) (i : ℕ) → AreEnds job ends → i < length (epochs_of job) → 0 < length ends
some_ends job ends i are inside =
    ⊎_elim
    (λ some. some)
    (λ none. absurd (omega (arith, inside, no_epochs job ends are (omega (arith, none)))))
    (cases_lt 0 (length ends))

-- the last end as it is read
pub last_read : (job : JobSizes) (ends : List ℕ) (n x : ℕ) → AreEnds job ends → n ≡ length ends → (n ≡ 0 → ⊥) → x ≡ get_or ends (n - 1) x
    → x ≡ length (epochs_of job)
last_read job ends n x are long some read =
    let more : 0 < length ends = omega (arith, long, some) in
    let inside : n - 1 < length ends = omega (arith, long, more) in
    let last : n - 1 ≡ length ends - 1 = omega (arith, long) in
    read ∙ get_or_default_zero ends (n - 1) x inside ∙ ap (λ i. get_or ends i 0) last ∙ last_end job ends are more
