-- Walks as a whole: they go through the job, and there is one from each place.
use Rattle.std.specs.Prelude.{slice_get, IfSome}
use Rattle.std.specs.Int.{div_ceil}
use Rattle.std.proofs.Common.{◌≡◌, ◌∙◌, ap, refl, ℕ, zero, suc, ◌+◌, ◌-◌, ◌<◌, ◌≤◌, List, [], ◌∷◌, length, drop, Option, Some, None, arith}
use Rattle.piece_plan.specs.declared.job.ScanSize.{ScanSize}
use Rattle.piece_plan.specs.declared.epoch.EpochPlan.{EpochPlan}
use Rattle.piece_plan.specs.Epochs.{JobSizes, IsJob, IsEpoch, epochs_of}
use Rattle.piece_plan.specs.Order.{Place, place_of, job_start, place_after, AreInOrder, CoverJob}
use Rattle.plan_places.specs.Places.{IsPlace}
use Rattle.plan_places.specs.Walk.{IsWalk, AreLeft}
use Rattle.plan_places.specs.Search.{begin_at, EndsIntegration}
use Rattle.plan_places.proofs.AfterLemmas.{after-cases, after-IsPlace, first-IsPlace, some-IfSome}
use Rattle.plan_places.proofs.CutLemmas.{cut_of, cut-is, cut-IsEpoch, cut_of-IsEpoch}
use Rattle.plan_places.proofs.WalkLemmas.{walk-first}
use Rattle.plan_places.proofs.CountedLemmas.{left-is}

pub walk-AreInOrder : (job : JobSizes) (epoch : ℕ) (due : Option Place) (epochs : List EpochPlan) → IsJob job → 1 ≤ epoch → epoch ≤ 4194304
    → IfSome due (IsPlace job) → IsWalk job epoch due epochs → AreInOrder job due epochs None
walk-AreInOrder job epoch due [] is some short place walk = walk
walk-AreInOrder job epoch None (e ∷ epochs) is some short place walk = absurd (cc (walk.0))
walk-AreInOrder job epoch (Some p) (e ∷ epochs) is some short place walk =
    let first = walk-first job epoch p place.size e place.scan walk.0 in
    let begin : p ≡ place_of e = ap place_of first in
    let here = cut-IsEpoch job epoch p e place some short walk.0 in
    (ap Some begin, here, walk-AreInOrder job epoch (place_after job e) epochs is some short (after-IsPlace job e is here) walk.1)

pub first-IfSome : (job : JobSizes) → IsJob job → IfSome (job_start job) (IsPlace job)
first-IfSome job is = some-IfSome (job_start job) (IsPlace job) (λ p first. first-IsPlace job 0 p is first)

pub walk-CoverJob : (job : JobSizes) (epoch : ℕ) (epochs : List EpochPlan) → IsJob job → 1 ≤ epoch → epoch ≤ 4194304
    → IsWalk job epoch (job_start job) epochs → CoverJob job epochs
walk-CoverJob job epoch epochs is some short walk =
    walk-AreInOrder job epoch (job_start job) epochs is some short (first-IfSome job is) walk

-- the samples of scans
abbrev samples_of : List ScanSize → ℕ
samples_of [] = 0
samples_of (s ∷ scans) = s.samples + samples_of scans

ahead-at : (n : ℕ) (scans : List ScanSize) (size : ScanSize) → slice_get scans n ≡ Some size
    → samples_of (drop n scans) ≡ size.samples + samples_of (drop (n + 1) scans)
ahead-at n [] size at = absurd (cc)
ahead-at zero (s ∷ scans) size at =
    let same : s ≡ size = cc in
    ap (λ (x : ScanSize). x.samples + samples_of scans) same
ahead-at (suc n) (s ∷ scans) size at =
    let next : suc (n + 1) ≡ suc n + 1 = omega arith in
    ahead-at n scans size at ∙ ap (λ k. size.samples + samples_of (drop k (s ∷ scans))) next

ahead-one : (n : ℕ) (scans : List ScanSize) → samples_of (drop (suc n) scans) ≤ samples_of (drop n scans)
ahead-one zero [] = omega arith
ahead-one zero (s ∷ scans) = omega arith
ahead-one (suc n) [] = omega arith
ahead-one (suc n) (s ∷ scans) = ahead-one n scans

ahead-less : (n k : ℕ) (scans : List ScanSize) → samples_of (drop (n + k) scans) ≤ samples_of (drop n scans)
ahead-less n zero scans =
    let here : n + zero ≡ n = omega arith in
    let same : samples_of (drop (n + zero) scans) ≡ samples_of (drop n scans) = ap (λ i. samples_of (drop i scans)) here in
    omega (arith, same)
ahead-less n (suc k) scans =
    let next : n + suc k ≡ suc (n + k) = omega arith in
    let same : samples_of (drop (n + suc k) scans) ≡ samples_of (drop (suc (n + k)) scans) = ap (λ i. samples_of (drop i scans)) next in
    omega (arith, same, ahead-one (n + k) scans, ahead-less n k scans)

-- the samples from a place on
abbrev ahead : JobSizes → Option Place → ℕ
ahead job None = 0
ahead job (Some p) = samples_of (drop p.scan job.scans) - p.from

ahead-some : (job : JobSizes) (e : EpochPlan) → IsEpoch job e → 0 < samples_of (drop e.scan job.scans) - e.from
ahead-some job e is =
    let sum = ahead-at e.scan job.scans is.size is.scan in
    omega (arith, sum, is.some, is.to)

after-less : (job : JobSizes) (e : EpochPlan) (o : Option Place) → IsEpoch job e → place_after job e ≡ o
    → ahead job o < samples_of (drop e.scan job.scans) - e.from
after-less job e None is after = ahead-some job e is
after-less job e (Some q) is after =
    let sum = ahead-at e.scan job.scans is.size is.scan in
    after-cases job e q (λ p. samples_of (drop p.scan job.scans) - p.from < samples_of (drop e.scan job.scans) - e.from) is after
    (omega (arith, sum, is.some, is.to))
    (omega (arith, sum, is.some, is.to))
    (λ first.
    let same : samples_of (drop q.scan job.scans) ≡ samples_of (drop (e.scan + 1 + first.k) job.scans) = ap (λ n. samples_of (drop n job.scans)) first.scan in
    omega (arith, sum, is.some, is.to, same, ahead-less (e.scan + 1) first.k job.scans))

walk-by : (n : ℕ) (job : JobSizes) (epoch : ℕ) (due : Option Place) → IsJob job → 1 ≤ epoch → epoch ≤ 4194304 → IfSome due (IsPlace job)
    → ahead job due ≤ n → (epochs : List EpochPlan) × IsWalk job epoch due epochs
walk-by n job epoch None is some short place few = ([], refl)
walk-by zero job epoch (Some p) is some short place few =
    let here = ahead-some job (cut_of job epoch p place.size) (cut_of-IsEpoch job epoch p place some short) in
    absurd (omega (arith, here, few))
walk-by (suc n) job epoch (Some p) is some short place few =
    let e : EpochPlan = cut_of job epoch p place.size in
    let here = cut_of-IsEpoch job epoch p place some short in
    let less = after-less job (cut_of job epoch p place.size) (place_after job (cut_of job epoch p place.size)) here refl in
    let rest = walk-by n job epoch (place_after job (cut_of job epoch p place.size)) is some short (after-IsPlace job (cut_of job epoch p place.size) is here) (omega (arith, less, few)) in
    (cut_of job epoch p place.size ∷ rest.0, (cut-is job epoch p place.size place.scan, rest.1))

pub walk-from : (job : JobSizes) (epoch : ℕ) (due : Option Place) → IsJob job → 1 ≤ epoch → epoch ≤ 4194304 → IfSome due (IsPlace job)
    → (epochs : List EpochPlan) × IsWalk job epoch due epochs
walk-from job epoch due is some short place = walk-by (ahead job due) job epoch due is some short place (omega arith)

pub left-some : (job : JobSizes) (epoch k part later : ℕ) (p : Place) (last : EpochPlan) → IsJob job → 1 ≤ epoch → epoch ≤ 4194304 → IsPlace job p
    → EndsIntegration job p last → place_after job last ≡ begin_at (epochs_of job) (k + 1) → part ≡ div_ceil (last.to - p.from) epoch
    → ((epochs : List EpochPlan) → IsWalk job epoch (begin_at (epochs_of job) (k + 1)) epochs → later ≡ length epochs)
    → AreLeft job epoch (Some p) (part + later)
left-some job epoch k part later p last is some short place ends next part_is later_is =
    let walk = walk-from job epoch (Some p) is some short place in
    record {
      epochs = walk.0;
      walk = walk.1;
      many = left-is job epoch k part later p last walk.0 some place ends next part_is later_is walk.1;
    }
