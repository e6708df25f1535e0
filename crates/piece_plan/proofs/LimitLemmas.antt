-- A job that is limited to some of its integrations: its scans, which epochs it has, and how many.
use Rattle.std.specs.Prelude.{slice_get, flat_map, sum_by}
use Rattle.std.specs.Option.{option_map_or}
use Rattle.std.specs.Int.{div_ceil}
use Rattle.std.specs.List.{enumerate_from}
use Rattle.std.proofs.Common.{◌≡◌, ◌∙◌, sym, ap, refl, ℕ, zero, suc, ◌+◌, ◌-◌, ◌*◌, ◌/◌, ◌%◌, ◌^◌, ◌<◌, ◌≤◌, min, List, [], ◌∷◌, ◌++◌, ⊎_elim, length, take, get_or, Some, ltb, arith}
use Rattle.std.proofs.Math.Nat.{mul-le-mul_left}
use Rattle.std.proofs.lemmas.Bool.{cases_lt, cond-true, cond-false, lt-ltb, le-ltb}
use Rattle.std.proofs.lemmas.Grind.{div_ceil_times}
use Rattle.std.proofs.lemmas.List.{length-append, take_all, take_more}
use Rattle.std.proofs.lemmas.List.Sums.{sum_by-cons, sum_by_more, sum_by-take-le}
use Rattle.std.proofs.lemmas.Option.{slice_get-get_or, slice_get_within, get_or_from_slice_get}
use Rattle.piece_plan.specs.declared.job.ScanSize.{ScanSize}
use Rattle.piece_plan.specs.declared.epoch.EpochPlan.{EpochPlan}
use Rattle.piece_plan.specs.Epochs.{JobSizes, job_sizes, IsJob, IsScan, IsEpoch, integration_at, integration_count, scan_epochs, epochs_of}
use Rattle.piece_plan.specs.Counts.{count_in}
use Rattle.piece_plan.specs.Order.{Place, place_of}
use Rattle.piece_plan.specs.Limited.{integration_number, limited_scan, limited_scans, limited}
use Rattle.piece_plan.proofs.Quotients.{below_ceil, ceil_above, ceil_covers, ceil_le, ceil_mono}
use Rattle.piece_plan.proofs.CountLemmas.{length-scan_epochs}
use Rattle.piece_plan.proofs.EpochLemmas.{scan-IsScan}

-- a scan that has its integrations from this one on, up to so many samples
pub record Keeps (size s : ScanSize) (from many : ℕ) : Type 0 where
  pub first : s.first ≡ from
  pub samples : s.samples ≡ many
  pub products : s.products ≡ size.products
  pub baselines : s.baselines ≡ size.baselines

same-Keeps : (size s : ScanSize) (first samples : ℕ) → s ≡ record size { first = first; samples = samples } → Keeps size s first samples
same-Keeps size s first samples same = record {
  first = ap (λ (z : ScanSize). z.first) same;
  samples = ap (λ (z : ScanSize). z.samples) same;
  products = ap (λ (z : ScanSize). z.products) same;
  baselines = ap (λ (z : ScanSize). z.baselines) same;
}

-- one that keeps some of its integrations
abbrev pub KeepsSome : JobSizes → ScanSize → ScanSize → ℕ → ℕ → Type 0
KeepsSome job size s from to = Keeps size s (size.first + from) (min size.samples ((size.first + to) * job.integration))

-- and one that keeps none
abbrev pub KeepsNone : ScanSize → ScanSize → Type 0
KeepsNone size s = Keeps size s 0 0

pub limited_scan-KeepsSome : (job : JobSizes) (size s : ScanSize) (from to : ℕ) → s ≡ limited_scan job size from to
    → from < min to (integration_count job size) → KeepsSome job size s from to
limited_scan-KeepsSome job size s from to is some =
    same-Keeps size s (size.first + from) (min size.samples ((size.first + to) * job.integration))
    (is ∙ cond-true (ltb from (min to (integration_count job size))) _ _ (lt-ltb _ _ some))

pub limited_scan-KeepsNone : (job : JobSizes) (size s : ScanSize) (from to : ℕ) → s ≡ limited_scan job size from to
    → min to (integration_count job size) ≤ from → KeepsNone size s
limited_scan-KeepsNone job size s from to is none =
    same-Keeps size s 0 0 (is ∙ cond-false (ltb from (min to (integration_count job size))) _ _ (le-ltb _ _ none))

-- it is a scan, and has no more samples from its first integration on
pub record IsSmaller (job : JobSizes) (size s : ScanSize) : Type 0 where
  pub first : s.first * job.integration ≤ s.samples
  pub samples : s.samples ≤ size.samples
  pub left : s.samples - s.first * job.integration ≤ size.samples - size.first * job.integration
  pub products : s.products ≡ size.products
  pub baselines : s.baselines ≡ size.baselines

pub limited_scan-IsSmaller : (job : JobSizes) (size s : ScanSize) (from to : ℕ) → 0 < job.integration → s ≡ limited_scan job size from to
    → IsSmaller job size s
limited_scan-IsSmaller job size s from to one is =
    ⊎_elim
    (λ some.
    let keeps = limited_scan-KeepsSome job size s from to is some in
    let begun = below_ceil (size.samples - size.first * job.integration) job.integration from one (omega (arith, some)) in
    let order : job.integration * from ≤ job.integration * to = mul-le-mul_left job.integration (omega (arith, some)) in
    let start : s.first * job.integration ≡ (size.first + from) * job.integration = ap (λ (n : ℕ). n * job.integration) keeps.first in
    record {
      first = omega (arith, keeps.samples, start, begun, order);
      samples = omega (arith, keeps.samples);
      left = omega (arith, keeps.samples, start, begun);
      products = keeps.products;
      baselines = keeps.baselines;
    })
    (λ none.
    let keeps = limited_scan-KeepsNone job size s from to is none in
    let start : s.first * job.integration ≡ 0 * job.integration = ap (λ (n : ℕ). n * job.integration) keeps.first in
    record {
      first = omega (arith, keeps.samples, start);
      samples = omega (arith, keeps.samples);
      left = omega (arith, keeps.samples);
      products = keeps.products;
      baselines = keeps.baselines;
    })
    (cases_lt from (min to (integration_count job size)))

IsSmaller-IsScan : (job : JobSizes) (size s : ScanSize) → IsSmaller job size s → IsScan job.integration job.lags size
    → IsScan job.integration job.lags s
IsSmaller-IsScan job size s smaller scan = record {
  first = smaller.first;
  samples = omega (arith, smaller.samples, scan.samples);
  products = omega (arith, smaller.products, scan.products);
  baselines = omega (arith, smaller.baselines, scan.baselines);
  cells = rw (smaller.products, smaller.baselines) scan.cells;
}

-- more than its own integrations no scan keeps
pub limited_scan-within : (job : JobSizes) (size : ScanSize) (from to : ℕ) → 0 < job.integration
    → limited_scan job size from (min to (integration_count job size)) ≡ limited_scan job size from to
limited_scan-within job size from to one =
    let same : min (min to (integration_count job size)) (integration_count job size) ≡ min to (integration_count job size) = omega arith in
    let covers = ceil_covers (size.samples - size.first * job.integration) job.integration one in
    let end : min size.samples ((size.first + min to (integration_count job size)) * job.integration)
    ≡ min size.samples ((size.first + to) * job.integration) =
    ⊎_elim
    (λ few.
    let less : min to (integration_count job size) ≡ to = omega (arith, few) in
    ap (λ (n : ℕ). min size.samples ((size.first + n) * job.integration)) less)
    (λ all.
    let count : min to (integration_count job size) ≡ integration_count job size = omega (arith, all) in
    let order : job.integration * integration_count job size ≤ job.integration * to = mul-le-mul_left job.integration all in
    ap (λ (n : ℕ). min size.samples ((size.first + n) * job.integration)) count ∙ omega (arith, covers, order))
    (cases_lt to (integration_count job size)) in
    cc

-- integrations that a scan has end less than one integration behind its samples
pub kept-end : (samples first integration to : ℕ) → 0 < integration → first * integration ≤ samples
    → to ≤ div_ceil (samples - first * integration) integration → (first + to) * integration ≤ samples + integration
kept-end samples first integration to one begins within =
    let close = (div_ceil_times (samples - first * integration) integration one).1 in
    let order : integration * to ≤ integration * div_ceil (samples - first * integration) integration = mul-le-mul_left integration within in
    omega (arith, close, order, begins)

-- and there are no more of them than samples
pub kept-few : (samples first integration to : ℕ) → 0 < integration → first * integration ≤ samples
    → to ≤ div_ceil (samples - first * integration) integration → first + to ≤ samples + integration
kept-few samples first integration to one begins within =
    let end = kept-end samples first integration to one begins within in
    let order : (first + to) * 1 ≤ (first + to) * integration = mul-le-mul_left (first + to) one in
    omega (arith, end, order)

-- where a scan has the integrations that are kept
pub limited_scan-inside : (job : JobSizes) (size : ScanSize) (from to end : ℕ) → from < to → to ≤ integration_count job size
    → end ≡ min size.samples ((size.first + to) * job.integration)
    → record size { first = size.first + from; samples = end } ≡ limited_scan job size from to
limited_scan-inside job size from to end some within is =
    ap (λ n. record size { first = size.first + from; samples = n }) is
    ∙ sym (cond-true (ltb from (min to (integration_count job size))) _ _ (lt-ltb _ _ (omega (arith, some, within))))

-- the scans in order
pub length-limited_scans : (job : JobSizes) (scans : List ScanSize) (from to : ℕ) → length (limited_scans job scans from to) ≡ length scans
length-limited_scans job [] from to = refl
length-limited_scans job (size ∷ scans) from to =
    ap suc (length-limited_scans job scans (from - integration_count job size) (to - integration_count job size))

pub slice_get-limited_scans : (job : JobSizes) (scans : List ScanSize) (from to k : ℕ) (size : ScanSize) → slice_get scans k ≡ Some size
    → slice_get (limited_scans job scans from to) k
    ≡ Some (limited_scan job size (from - sum_by (integration_count job) (take k scans)) (to - sum_by (integration_count job) (take k scans)))
slice_get-limited_scans job [] from to k size at = absurd (cc)
slice_get-limited_scans job (x ∷ scans) from to zero size at =
    let same : x ≡ size = cc in
    let a : from ≡ from - 0 = omega arith in
    let b : to ≡ to - 0 = omega arith in
    cc
slice_get-limited_scans job (x ∷ scans) from to (suc k) size at =
    let rest = slice_get-limited_scans job scans (from - integration_count job x) (to - integration_count job x) k size at in
    let sum = sum_by-cons (integration_count job) x (take k scans) in
    let a : from - integration_count job x - sum_by (integration_count job) (take k scans)
    ≡ from - sum_by (integration_count job) (x ∷ take k scans) =
    omega (arith, sum) in
    let b : to - integration_count job x - sum_by (integration_count job) (take k scans)
    ≡ to - sum_by (integration_count job) (x ∷ take k scans) =
    omega (arith, sum) in
    rest ∙ ap (λ n. Some (limited_scan job size n (to - integration_count job x - sum_by (integration_count job) (take k scans)))) a
    ∙ ap (λ n. Some (limited_scan job size (from - sum_by (integration_count job) (x ∷ take k scans)) n)) b

-- the scan that a scan of the limited job was
pub record WasScan (job : JobSizes) (from to k : ℕ) (s : ScanSize) : Type 0 where
  pub size : ScanSize
  pub at : slice_get job.scans k ≡ Some size
  pub is : s ≡ limited_scan job size (from - sum_by (integration_count job) (take k job.scans)) (to - sum_by (integration_count job) (take k job.scans))

pub limited_scans-WasScan : (job : JobSizes) (from to k : ℕ) (s : ScanSize) → slice_get (limited_scans job job.scans from to) k ≡ Some s
    → WasScan job from to k s
limited_scans-WasScan job from to k s at =
    let inside = slice_get_within (limited_scans job job.scans from to) k s at in
    let there = slice_get-get_or job.scans k s (omega (arith, inside, length-limited_scans job job.scans from to)) in
    let here = slice_get-limited_scans job job.scans from to k (get_or job.scans k s) there in
    record { size = get_or job.scans k s; at = there; is = cc }

pub limited-IsJob : (job : JobSizes) (from to : ℕ) → IsJob job → IsJob (limited job from to)
unfolding limited
limited-IsJob job from to is = record {
  many = omega (arith, is.many, length-limited_scans job job.scans from to);
  scans = λ k d inside.
      let was = limited_scans-WasScan job from to k (get_or (limited_scans job job.scans from to) k d)
      (slice_get-get_or (limited_scans job job.scans from to) k d inside) in
      IsSmaller-IsScan job was.size (get_or (limited_scans job job.scans from to) k d)
      (limited_scan-IsSmaller job was.size (get_or (limited_scans job job.scans from to) k d) _ _ is.integration was.is)
      (scan-IsScan job k was.size is was.at);
  integration = is.integration;
  longest = is.longest;
  epoch = is.epoch;
  short = is.short;
  lags = is.lags;
}

-- the number of an integration of a scan
pub integration_number-is : (job : JobSizes) (p : Place) (size : ScanSize) → slice_get job.scans p.scan ≡ Some size
    → integration_number job p ≡ sum_by (integration_count job) (take p.scan job.scans) + (p.m - size.first)
integration_number-is job p size at =
    ap (λ o. sum_by (integration_count job) (take p.scan job.scans) + option_map_or (λ (s : ScanSize). p.m - s.first) o 0) at

-- samples of integration m that a limited scan has, and the scan itself
pub record AreOfScan (job : JobSizes) (size : ScanSize) (from to m b : ℕ) : Type 0 where
  pub begins : size.first ≤ m
  pub low : from ≤ m - size.first
  pub high : m - size.first < to
  pub within : b ≤ min (0 + (m + 1) * job.integration) size.samples

pub AreOfScan-from_limited : (job : JobSizes) (size s : ScanSize) (from to m a b : ℕ) → 0 < job.integration → s ≡ limited_scan job size from to
    → s.first ≤ m → 0 + m * job.integration ≤ a → a < b → b ≤ min (0 + (m + 1) * job.integration) s.samples
    → AreOfScan job size from to m b
AreOfScan-from_limited job size s from to m a b one is begins start some inside =
    ⊎_elim
    (λ more.
    let keeps = limited_scan-KeepsSome job size s from to is more in
    let before : m < size.first + to =
    ⊎_elim
    (λ less. less)
    (λ past.
    let order : job.integration * (size.first + to) ≤ job.integration * m = mul-le-mul_left job.integration past in
    absurd (omega (arith, order, start, some, inside, keeps.samples)))
    (cases_lt m (size.first + to)) in
    record {
      begins = omega (arith, begins, keeps.first);
      low = omega (arith, begins, keeps.first);
      high = omega (arith, before, begins, keeps.first);
      within = omega (arith, inside, keeps.samples);
    })
    (λ none.
    let keeps = limited_scan-KeepsNone job size s from to is none in
    absurd (omega (arith, some, inside, keeps.samples)))
    (cases_lt from (min to (integration_count job size)))

-- samples of integration m that the limited scan has
pub record AreOfLimited (job : JobSizes) (size s : ScanSize) (m b : ℕ) : Type 0 where
  pub begins : s.first ≤ m
  pub within : b ≤ min (0 + (m + 1) * job.integration) s.samples
  pub products : s.products ≡ size.products
  pub baselines : s.baselines ≡ size.baselines

pub AreOfLimited-from_scan : (job : JobSizes) (size s : ScanSize) (from to m a b : ℕ) → 0 < job.integration → s ≡ limited_scan job size from to
    → 0 + m * job.integration ≤ a → a < b → AreOfScan job size from to m b → AreOfLimited job size s m b
AreOfLimited-from_scan job size s from to m a b one is start some are =
    let place : m ≡ size.first + (m - size.first) = omega (arith, are.begins) in
    let split : m * job.integration ≡ (size.first + (m - size.first)) * job.integration = ap (λ (n : ℕ). n * job.integration) place in
    let begun : (m - size.first) * job.integration < size.samples - size.first * job.integration =
    omega (arith, split, start, some, are.within) in
    let count = ceil_above (size.samples - size.first * job.integration) job.integration (m - size.first) one begun in
    let keeps = limited_scan-KeepsSome job size s from to is (omega (arith, are.low, are.high, count)) in
    let order : job.integration * (m + 1) ≤ job.integration * (size.first + to) =
    mul-le-mul_left job.integration (omega (arith, are.high, are.begins)) in
    record {
      begins = omega (arith, keeps.first, are.low, are.begins);
      within = omega (arith, keeps.samples, are.within, order);
      products = keeps.products;
      baselines = keeps.baselines;
    }

-- an epoch is one of another job too, in which its scan has other integrations
IsEpoch-by_size : (job other : JobSizes) (e : EpochPlan) (is : IsEpoch job e) (size : ScanSize) → other.lags ≡ job.lags
    → slice_get other.scans e.scan ≡ Some size → size.products ≡ is.size.products → size.baselines ≡ is.size.baselines
    → size.first ≤ e.m → (integration_at other size e.m).from ≤ e.from → e.to ≤ (integration_at other size e.m).to → IsEpoch other e
IsEpoch-by_size job other e is size lags at products baselines begins low high = record {
  size = size;
  scan = at;
  products = is.products ∙ sym products;
  baselines = is.baselines ∙ sym baselines;
  lags = is.lags ∙ sym lags;
  begins = begins;
  from = low;
  some = is.some;
  to = high;
  short = is.short;
}

pub IsEpoch-from_limited : (job : JobSizes) (from to : ℕ) (e : EpochPlan) → IsJob job → IsEpoch (limited job from to) e
    → IsEpoch job e × (from ≤ integration_number job (place_of e)) × (integration_number job (place_of e) < to)
unfolding limited
IsEpoch-from_limited job from to e is inside =
    let was = limited_scans-WasScan job from to e.scan inside.size inside.scan in
    let smaller = limited_scan-IsSmaller job was.size inside.size _ _ is.integration was.is in
    let are = AreOfScan-from_limited job was.size inside.size _ _ e.m e.from e.to is.integration was.is
    inside.begins inside.from inside.some inside.to in
    let number = integration_number-is job (place_of e) was.size was.at in
    let epoch : IsEpoch job e =
    IsEpoch-by_size (limited job from to) job e inside was.size refl was.at (sym smaller.products) (sym smaller.baselines) are.begins inside.from are.within in
    (epoch, omega (arith, number, are.low), omega (arith, number, are.high))

pub IsEpoch-limited : (job : JobSizes) (from to : ℕ) (e : EpochPlan) → IsJob job → IsEpoch job e
    → from ≤ integration_number job (place_of e) → integration_number job (place_of e) < to → IsEpoch (limited job from to) e
unfolding limited
IsEpoch-limited job from to e is inside low high =
    let number = integration_number-is job (place_of e) inside.size inside.scan in
    let are = AreOfLimited-from_scan job inside.size
    (limited_scan job inside.size (from - sum_by (integration_count job) (take e.scan job.scans)) (to - sum_by (integration_count job) (take e.scan job.scans)))
    (from - sum_by (integration_count job) (take e.scan job.scans)) (to - sum_by (integration_count job) (take e.scan job.scans))
    e.m e.from e.to is.integration refl inside.from inside.some
    (record {
      begins = inside.begins;
      low = omega (arith, number, low);
      high = omega (arith, number, high);
      within = inside.to;
    }) in
    IsEpoch-by_size job (limited job from to) e inside _ refl (slice_get-limited_scans job job.scans from to e.scan inside.size inside.scan)
    are.products are.baselines are.begins inside.from are.within

-- fewer samples have no more epochs
pub count_in-mono : (x y integration epoch : ℕ) → 0 < integration → 0 < epoch → x ≤ y → count_in x integration epoch ≤ count_in y integration epoch
count_in-mono x y integration epoch some cut order =
    let low : integration * (x / integration) + x % integration ≡ x = omega arith in
    let high : integration * (y / integration) + y % integration ≡ y = omega arith in
    let small : x % integration < integration = omega arith in
    let rest : y % integration < integration = omega arith in
    ⊎_elim
    (λ less.
    let step : div_ceil integration epoch * (x / integration + 1) ≤ div_ceil integration epoch * (y / integration) =
    mul-le-mul_left (div_ceil integration epoch) (omega (arith, less)) in
    let last = ceil_mono (x % integration) integration epoch cut (omega (arith, small)) in
    omega (arith, step, last))
    (λ ge.
    ⊎_elim
    (λ more.
    let step : integration * (y / integration + 1) ≤ integration * (x / integration) = mul-le-mul_left integration (omega (arith, more)) in
    absurd (omega (arith, step, low, high, order, rest)))
    (λ le.
    let same : x / integration ≡ y / integration = omega (arith, ge, le) in
    let wholes : x / integration * div_ceil integration epoch ≡ y / integration * div_ceil integration epoch =
    ap (λ (n : ℕ). n * div_ceil integration epoch) same in
    let parts : integration * (x / integration) ≡ integration * (y / integration) = ap (λ (n : ℕ). integration * n) same in
    let last = ceil_mono (x % integration) (y % integration) epoch cut (omega (arith, parts, low, high, order)) in
    omega (arith, wholes, last))
    (cases_lt (y / integration) (x / integration)))
    (cases_lt (x / integration) (y / integration))

-- the scans of the limited job, from one on, have no more epochs
scans-le : (job : JobSizes) (all : List ScanSize) (number : ℕ) (scans : List ScanSize) (from to : ℕ) → 0 < job.integration → 0 < job.epoch
    → length (flat_map (λ (s : ℕ × ScanSize). scan_epochs (record job { scans = all }) s.0 s.1) (enumerate_from number (limited_scans job scans from to)))
    ≤ length (flat_map (λ (s : ℕ × ScanSize). scan_epochs job s.0 s.1) (enumerate_from number scans))
scans-le job all number [] from to one cut = omega arith
scans-le job all number (size ∷ scans) from to one cut =
    let smaller = limited_scan-IsSmaller job size (limited_scan job size from to) from to one refl in
    let few = length-scan_epochs (record job { scans = all }) number (limited_scan job size from to) one cut in
    let many = length-scan_epochs job number size one cut in
    let order = count_in-mono ((limited_scan job size from to).samples - (limited_scan job size from to).first * job.integration)
    (size.samples - size.first * job.integration) job.integration job.epoch one cut smaller.left in
    let rest = scans-le job all (number + 1) scans (from - integration_count job size) (to - integration_count job size) one cut in
    omega (
      arith,
      few,
      many,
      order,
      rest,
      length-append (scan_epochs (record job { scans = all }) number (limited_scan job size from to))
          (flat_map (λ (s : ℕ × ScanSize). scan_epochs (record job { scans = all }) s.0 s.1)
          (enumerate_from (number + 1) (limited_scans job scans (from - integration_count job size) (to - integration_count job size)))),
      length-append (scan_epochs job number size)
          (flat_map (λ (s : ℕ × ScanSize). scan_epochs job s.0 s.1) (enumerate_from (number + 1) scans)),
    )

pub length-epochs_of-limited : (job : JobSizes) (from to : ℕ) → IsJob job → length (epochs_of (limited job from to)) ≤ length (epochs_of job)
unfolding epochs_of limited
length-epochs_of-limited job from to is = scans-le job (limited_scans job job.scans from to) 0 job.scans from to is.integration is.epoch

-- the integrations of the first scans, and of one scan more
pub integrations-more : (job : JobSizes) (scans : List ScanSize) (i count n : ℕ) (d : ScanSize) → scans ≡ job.scans → i < length scans
    → count ≡ sum_by (integration_count job) (take i job.scans) → n ≡ integration_count job (get_or scans i d)
    → count + n ≡ sum_by (integration_count job) (take (i + 1) job.scans)
integrations-more job scans i count n d same inside is one =
    let within : i < length job.scans = omega (arith, inside, ap length same) in
    let read : n ≡ integration_count job (get_or job.scans i d) = one ∙ ap (λ xs. integration_count job (get_or xs i d)) same in
    omega (arith, is, read, sum_by_more (integration_count job) job.scans i d within)

-- a scan has no more integrations than samples
integrations-few : (job : JobSizes) (k : ℕ) → IsJob job → k ≤ length job.scans → sum_by (integration_count job) (take k job.scans) ≤ k * 2 ^ 40
integrations-few job zero is within = omega arith
integrations-few job (suc k) is within =
    let less = integrations-few job k is (omega (arith, within)) in
    let inside : k < length job.scans = omega (arith, within) in
    let more = sum_by_more (integration_count job) job.scans k (record { first = 0; samples = 0; products = 0; baselines = 0 }) inside in
    let next : k + 1 ≡ suc k = omega arith in
    let same = ap (λ n. sum_by (integration_count job) (take n job.scans)) next in
    let scan = is.scans k (record { first = 0; samples = 0; products = 0; baselines = 0 }) inside in
    let few = ceil_le
    ((get_or job.scans k (record { first = 0; samples = 0; products = 0; baselines = 0 })).samples
    - (get_or job.scans k (record { first = 0; samples = 0; products = 0; baselines = 0 })).first * job.integration)
    job.integration is.integration in
    omega (arith, less, more, same, few, scan.samples)

pub integrations-bound : (job : JobSizes) (k : ℕ) → IsJob job → sum_by (integration_count job) (take k job.scans) ≤ 2 ^ 63
integrations-bound job k is =
    let all = ap (sum_by (integration_count job)) (take_all (length job.scans) job.scans (omega arith)) in
    let few = integrations-few job (length job.scans) is (omega arith) in
    let part = sum_by-take-le (integration_count job) job.scans k in
    omega (arith, all, few, part, is.many)

-- the first i scans of the limited job, and the numbers from and to which integrations are kept, counted from the next scan on
pub record AreLimited (job : JobSizes) (scans : List ScanSize) (from to first end i : ℕ) : Type 0 where
  pub scans_are : scans ≡ take i (limited_scans job job.scans from to)
  pub first_is : first ≡ from - sum_by (integration_count job) (take i job.scans)
  pub end_is : end ≡ to - sum_by (integration_count job) (take i job.scans)

pub AreLimited-none : (job : JobSizes) (scans : List ScanSize) (from to : ℕ) → scans ≡ [] → AreLimited job scans from to from to 0
AreLimited-none job scans from to none = record {
  scans_are = none;
  first_is = omega arith;
  end_is = omega arith;
}

pub AreLimited-more : (job : JobSizes) (scans next : List ScanSize) (from to first end i count : ℕ) (d s : ScanSize) → IsJob job
    → AreLimited job scans from to first end i → i < length job.scans → count ≡ integration_count job (get_or job.scans i d)
    → s ≡ limited_scan job (get_or job.scans i d) first (min end count) → next ≡ scans ++ s ∷ []
    → AreLimited job next from to (first - count) (end - count) (i + 1)
AreLimited-more job scans next from to first end i count d s is are inside counted limits pushed =
    let sum = sum_by_more (integration_count job) job.scans i d inside in
    let at = slice_get-limited_scans job job.scans from to i (get_or job.scans i d) (slice_get-get_or job.scans i d inside) in
    let within : s ≡ limited_scan job (get_or job.scans i d) first end =
    limits ∙ ap (λ n. limited_scan job (get_or job.scans i d) first (min end n)) counted
    ∙ limited_scan-within job (get_or job.scans i d) first end is.integration in
    let here : get_or (limited_scans job job.scans from to) i d ≡ s =
    get_or_from_slice_get (limited_scans job job.scans from to) i _ d at
    ∙ ap (λ n. limited_scan job (get_or job.scans i d) n (to - sum_by (integration_count job) (take i job.scans))) (sym are.first_is)
    ∙ ap (λ n. limited_scan job (get_or job.scans i d) first n) (sym are.end_is) ∙ sym within in
    let more = take_more (limited_scans job job.scans from to) i d (omega (arith, inside, length-limited_scans job job.scans from to)) in
    record {
      scans_are = pushed ∙ ap (λ xs. xs ++ s ∷ []) are.scans_are
          ∙ ap (λ x. take i (limited_scans job job.scans from to) ++ x ∷ []) (sym here) ∙ sym more;
      first_is = omega (arith, are.first_is, sum, counted);
      end_is = omega (arith, are.end_is, sum, counted);
    }

pub AreLimited-all : (job : JobSizes) (scans : List ScanSize) (from to first end i : ℕ) → AreLimited job scans from to first end i
    → length job.scans ≤ i → scans ≡ limited_scans job job.scans from to
AreLimited-all job scans from to first end i are all =
    are.scans_are
    ∙ take_all i (limited_scans job job.scans from to) (omega (arith, all, length-limited_scans job job.scans from to))

-- one scan more, where the job's scans are read from a copy
pub AreLimited-read : (job : JobSizes) (read scans next : List ScanSize) (from to first end i count within later past : ℕ) (d s : ScanSize)
    → IsJob job → AreLimited job scans from to first end i → read ≡ job.scans → i < length read
    → count ≡ integration_count job (get_or read i d) → within ≡ min end count → s ≡ limited_scan job (get_or read i d) first within
    → next ≡ scans ++ s ∷ [] → later ≡ first - count → past ≡ end - count
    → AreLimited job next from to later past (i + 1)
AreLimited-read job read scans next from to first end i count within later past d s is are same inside counted limit limits pushed low high =
    let size : get_or read i d ≡ get_or job.scans i d = ap (λ xs. get_or xs i d) same in
    rw (low, high)
    (AreLimited-more job scans next from to first end i count d s is are (omega (arith, inside, ap length same))
    (counted ∙ ap (integration_count job) size)
    (limits ∙ ap (λ z. limited_scan job z first within) size ∙ ap (λ n. limited_scan job (get_or job.scans i d) first n) limit)
    pushed)

-- the limited job as it is put together
pub limited-is : (job whole : JobSizes) (scans : List ScanSize) (from to : ℕ) → scans ≡ limited_scans job job.scans from to → job ≡ whole
    → job_sizes scans job.integration job.epoch job.lags ≡ limited whole from to
unfolding limited
limited-is job whole scans from to is same = ap (λ xs. job_sizes xs job.integration job.epoch job.lags) is ∙ ap (λ j. limited j from to) same
