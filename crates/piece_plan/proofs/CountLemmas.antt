-- How many epochs an integration and a scan have, and which is the j-th.
use Rattle.std.specs.Prelude.{slice_get, option_map, flat_map}
use Rattle.std.specs.Int.{div_ceil}
use Rattle.std.specs.List.{range_with_len}
use Rattle.std.proofs.Common.{◌≡◌, ◌∙◌, ap, refl, ℕ, ◌+◌, ◌-◌, ◌*◌, ◌/◌, ◌%◌, ◌<◌, ◌≤◌, min, ⊎_elim, length, Some, List, arith}
use Rattle.std.proofs.Math.Nat.{mul-le-mul_left}
use Rattle.std.proofs.lemmas.Bool.{cases_lt}
use Rattle.std.proofs.lemmas.List.{length-map}
use Rattle.std.proofs.lemmas.Option.{slice_get-map}
use Rattle.piece_plan.specs.declared.job.ScanSize.{ScanSize}
use Rattle.piece_plan.specs.declared.epoch.EpochPlan.{EpochPlan}
use Rattle.piece_plan.specs.Parts.{part_at, parts}
use Rattle.piece_plan.specs.Epochs.{JobSizes, range_of, integration_at, integration_count, integration_epochs, scan_epochs}
use Rattle.piece_plan.specs.Counts.{count_in, epoch_at}
use Rattle.piece_plan.proofs.Quotients.{below_ceil, ceil_above, ceil_le, ceil_mono, quotient_is}
use Rattle.piece_plan.proofs.ListPlaces.{slice_get-equal, length-equal, length-last}
use Rattle.piece_plan.proofs.PartLemmas.{length-parts, slice_get-parts}

pub length-integration_epochs : (job : JobSizes) (number : ℕ) (size : ScanSize) (m : ℕ)
    → length (integration_epochs job number size m) ≡ div_ceil ((integration_at job size m).to - (integration_at job size m).from) job.epoch
unfolding integration_epochs
length-integration_epochs job number size m =
    length-map (parts (integration_at job size m).from (integration_at job size m).to job.epoch) (range_of job number size m)
    ∙ length-parts (integration_at job size m).from (integration_at job size m).to job.epoch

pub slice_get-integration_epochs : (job : JobSizes) (number : ℕ) (size : ScanSize) (m k : ℕ)
    → k < div_ceil ((integration_at job size m).to - (integration_at job size m).from) job.epoch
    → slice_get (integration_epochs job number size m) k
    ≡ Some (range_of job number size m (part_at (integration_at job size m).from (integration_at job size m).to job.epoch k))
unfolding integration_epochs
slice_get-integration_epochs job number size m k h =
    slice_get-map (range_of job number size m) (parts (integration_at job size m).from (integration_at job size m).to job.epoch) k
    ∙ ap (option_map (range_of job number size m)) (slice_get-parts (integration_at job size m).from (integration_at job size m).to job.epoch k h)

-- the samples of an integration, counted from a scan's first, are those that it has in a scan that begins there
counted_from : (samples first integration j : ℕ)
    → min (0 + (first + j + 1) * integration) samples - (0 + (first + j) * integration)
    ≡ min (0 + (j + 1) * integration) (samples - first * integration) - (0 + j * integration)
counted_from samples first integration j = omega arith

-- an integration before the last one is whole
whole-length : (job : JobSizes) (number : ℕ) (size : ScanSize) (left j : ℕ) → left ≡ size.samples - size.first * job.integration
    → 0 < job.integration → j < left / job.integration
    → length (integration_epochs job number size (size.first + j)) ≡ div_ceil job.integration job.epoch
whole-length job number size left j is some below =
    let step : job.integration * (j + 1) ≤ job.integration * (left / job.integration) = mul-le-mul_left job.integration (omega arith) in
    let whole : job.integration * (left / job.integration) + left % job.integration ≡ left = omega arith in
    let long : min (0 + (size.first + j + 1) * job.integration) size.samples - (0 + (size.first + j) * job.integration) ≡ job.integration =
    omega (arith, step, whole, is) in
    length-integration_epochs job number size (size.first + j) ∙ ap (λ n. div_ceil n job.epoch) long

-- the last one has the rest
rest-length : (job : JobSizes) (number : ℕ) (size : ScanSize) (left : ℕ) → left ≡ size.samples - size.first * job.integration
    → 0 < job.integration
    → length (integration_epochs job number size (size.first + left / job.integration)) ≡ div_ceil (left % job.integration) job.epoch
rest-length job number size left is some =
    let small : left % job.integration < job.integration = omega arith in
    let whole : job.integration * (left / job.integration) + left % job.integration ≡ left = omega arith in
    let long : min (0 + (size.first + left / job.integration + 1) * job.integration) size.samples
    - (0 + (size.first + left / job.integration) * job.integration)
    ≡ left % job.integration =
    omega (arith, small, whole, is) in
    length-integration_epochs job number size (size.first + left / job.integration) ∙ ap (λ n. div_ceil n job.epoch) long

ceil_none : (y : ℕ) → 0 < y → div_ceil 0 y ≡ 0
ceil_none y some = omega (arith, ceil_le 0 y some)

-- the epochs of a scan with so many samples from its first integration on
length-left : (job : JobSizes) (number : ℕ) (size : ScanSize) (left : ℕ) → left ≡ size.samples - size.first * job.integration
    → 0 < job.integration → 0 < job.epoch
    → length (flat_map (integration_epochs job number size) (range_with_len size.first (div_ceil left job.integration)))
    ≡ count_in left job.integration job.epoch
length-left job number size left is some cut =
    let f : ℕ → List EpochPlan = integration_epochs job number size in
    ⊎_elim
    (λ rest.
    let count : div_ceil left job.integration ≡ left / job.integration + 1 = omega (arith, rest) in
    ap (λ n. length (flat_map f (range_with_len size.first n))) count
    ∙ length-last f (div_ceil job.integration job.epoch) (div_ceil (left % job.integration) job.epoch) size.first
    (left / job.integration)
    (λ j below. whole-length job number size left j is some below)
    (rest-length job number size left is some))
    (λ even.
    let none : left % job.integration ≡ 0 = omega (arith, even) in
    let count : div_ceil left job.integration ≡ left / job.integration = omega (arith, none) in
    let empty : div_ceil (left % job.integration) job.epoch ≡ 0 =
    ap (λ n. div_ceil n job.epoch) none ∙ ceil_none job.epoch cut in
    let sum : length (flat_map f (range_with_len size.first (left / job.integration)))
    ≡ left / job.integration * div_ceil job.integration job.epoch =
    length-equal f (div_ceil job.integration job.epoch) size.first (left / job.integration)
    (λ j below. whole-length job number size left j is some below) in
    ap (λ n. length (flat_map f (range_with_len size.first n))) count ∙ omega (arith, sum, empty))
    (cases_lt 0 (left % job.integration))

pub length-scan_epochs : (job : JobSizes) (number : ℕ) (size : ScanSize) → 0 < job.integration → 0 < job.epoch
    → length (scan_epochs job number size) ≡ count_in (size.samples - size.first * job.integration) job.integration job.epoch
unfolding scan_epochs
length-scan_epochs job number size some cut =
    length-left job number size (size.samples - size.first * job.integration) refl some cut

-- where the j-th epoch of a scan lies: in an integration of the scan, behind whole ones, and inside it
pub record IsPlaced (samples integration epoch j : ℕ) : Type 0 where
  pub whole : j / div_ceil integration epoch ≤ samples / integration
  pub inside : j / div_ceil integration epoch < div_ceil samples integration
  pub part : j % div_ceil integration epoch
      < div_ceil (min (0 + (j / div_ceil integration epoch + 1) * integration) samples - (0 + j / div_ceil integration epoch * integration)) epoch

-- among the whole integrations
placed-whole : (samples integration epoch j m : ℕ) → 0 < integration → 0 < epoch → j / div_ceil integration epoch ≡ m
    → m < samples / integration → j % div_ceil integration epoch < div_ceil integration epoch
    → IsPlaced samples integration epoch j
placed-whole samples integration epoch j m some cut is below small =
    let step : integration * (m + 1) ≤ integration * (samples / integration) = mul-le-mul_left integration (omega arith) in
    let whole : integration * (samples / integration) + samples % integration ≡ samples = omega arith in
    let long : min (0 + (m + 1) * integration) samples - (0 + m * integration) ≡ integration = omega (arith, step, whole) in
    record {
      whole = omega (arith, is, below);
      inside = omega (arith, is, below);
      part = rw (is, long) small;
    }

-- in the rest
placed-rest : (samples integration epoch j t : ℕ) → 0 < integration → 0 < epoch → t < div_ceil (samples % integration) epoch
    → j / div_ceil integration epoch ≡ samples / integration → j % div_ceil integration epoch ≡ t
    → IsPlaced samples integration epoch j
placed-rest samples integration epoch j t some cut inside is rest =
    let q : ℕ = samples / integration in
    let small : samples % integration < integration = omega arith in
    let whole : integration * (samples / integration) + samples % integration ≡ samples = omega arith in
    let begun : t * epoch < samples % integration = below_ceil (samples % integration) epoch t cut inside in
    let long : min (0 + (samples / integration + 1) * integration) samples - (0 + samples / integration * integration) ≡ samples % integration = omega (arith, small, whole) in
    record {
      whole = omega (arith, is);
      inside = omega (arith, is, begun);
      part = rw (is, rest, long) inside;
    }

pub epoch-IsPlaced : (samples integration epoch j : ℕ) → 0 < integration → 0 < epoch → j < count_in samples integration epoch
    → IsPlaced samples integration epoch j
epoch-IsPlaced samples integration epoch j some cut inside =
    let per : ℕ = div_ceil integration epoch in
    let one : 0 < div_ceil integration epoch = ceil_above integration epoch 0 cut (omega arith) in
    let small : j % div_ceil integration epoch < div_ceil integration epoch = omega (arith, one) in
    let parts : div_ceil integration epoch * (j / div_ceil integration epoch) + j % div_ceil integration epoch ≡ j = omega (arith, one) in
    let rest : samples % integration ≤ integration = omega arith in
    let fewer : div_ceil (samples % integration) epoch ≤ div_ceil integration epoch = ceil_mono (samples % integration) integration epoch cut rest in
    ⊎_elim
    (λ below. placed-whole samples integration epoch j (j / div_ceil integration epoch) some cut (refl) below small)
    (λ past.
    let step : div_ceil integration epoch * (samples / integration) ≤ div_ceil integration epoch * (j / div_ceil integration epoch) =
    mul-le-mul_left (div_ceil integration epoch) past in
    let t : ℕ = j - samples / integration * div_ceil integration epoch in
    let left : j - samples / integration * div_ceil integration epoch < div_ceil (samples % integration) epoch =
    omega (arith, inside, step, parts, past) in
    let place = quotient_is j (div_ceil integration epoch) (samples / integration) (j - samples / integration * div_ceil integration epoch)
    (omega (arith, step, parts)) (omega (arith, left, fewer)) in
    placed-rest samples integration epoch j (j - samples / integration * div_ceil integration epoch) some cut left place.0 place.1)
    (cases_lt (j / div_ceil integration epoch) (samples / integration))

pub slice_get-scan_epochs : (job : JobSizes) (number : ℕ) (size : ScanSize) (j : ℕ) → 0 < job.integration → 0 < job.epoch
    → j < count_in (size.samples - size.first * job.integration) job.integration job.epoch
    → slice_get (scan_epochs job number size) j ≡ Some (epoch_at job number size j)
unfolding scan_epochs
slice_get-scan_epochs job number size j some cut inside =
    let placed = epoch-IsPlaced (size.samples - size.first * job.integration) job.integration job.epoch j some cut inside in
    let one : 0 < div_ceil job.integration job.epoch = ceil_above job.integration job.epoch 0 cut (omega arith) in
    let place : j ≡ j / div_ceil job.integration job.epoch * div_ceil job.integration job.epoch + j % div_ceil job.integration job.epoch = omega (arith, one) in
    let long = counted_from size.samples size.first job.integration (j / div_ceil job.integration job.epoch) in
    ap (slice_get (flat_map (integration_epochs job number size) (range_with_len size.first (integration_count job size)))) place
    ∙ slice_get-equal (integration_epochs job number size) (div_ceil job.integration job.epoch) size.first (integration_count job size)
    (j / div_ceil job.integration job.epoch) (j % div_ceil job.integration job.epoch) (epoch_at job number size j)
    placed.inside
    (λ i below.
    whole-length job number size (size.samples - size.first * job.integration) i refl some (omega (arith, placed.whole, below)))
    (slice_get-integration_epochs job number size (size.first + j / div_ceil job.integration job.epoch)
    (j % div_ceil job.integration job.epoch)
    (rw long placed.part))

-- an epoch has a sample, so a scan has no more epochs than samples
pub count_in-le : (samples integration epoch per last : ℕ) → 0 < integration → 0 < epoch
    → per ≡ div_ceil integration epoch → last ≡ div_ceil (samples % integration) epoch
    → samples / integration * per + last ≤ samples
count_in-le samples integration epoch per last some cut is end =
    let one : per ≤ integration = omega (arith, is, ceil_le integration epoch cut) in
    let wholes : samples / integration * per ≤ samples / integration * integration = mul-le-mul_left (samples / integration) one in
    let rest : last ≤ samples % integration = omega (arith, end, ceil_le (samples % integration) epoch cut) in
    let whole : integration * (samples / integration) + samples % integration ≡ samples = omega arith in
    omega (arith, wholes, rest, whole)
