-- The parts of a plan, as the program makes them.
use Rattle.std.specs.Prelude.{◌≡◌, ℕ, ◌==◌, ◌<◌, ◌≤◌, ◌^◌, ◌&&◌, ◌||◌, nat_lt, Bool, true, List, [], ◌∷◌, length, map, filter, flat_map, if◌then◌else◌}
use Rattle.job_plan.specs.declared.plan.BaselinePlan.{BaselinePlan}
use Rattle.job_plan.specs.declared.plan.ScanPlan.{ScanPlan}
use Rattle.scan_list.specs.Sound.{IsScan}
use Rattle.job_text.specs.Job.{JobFields}
use Rattle.job_join.specs.declared.stands.Here.{Here}
use Rattle.job_join.specs.declared.places.Place.{Place}
use Rattle.job_join.specs.Places.{visit_in, visit_of}
use Rattle.job_join.specs.Joining.{held_samples}
use Rattle.job_join.specs.Spans.{first_sample, end_sample}

-- a station's number, and the samples of its part, that a plan can hold
pub record IsShort (rate : ℕ) (h : Here) : Type 0 where
  pub number : h.number < 2 ^ 32
  pub from : first_sample rate h.pass.now < 2 ^ 64
  pub to : end_sample rate h.pass.now < 2 ^ 64

abbrev pub pair_of : ℕ → ℕ → BaselinePlan
pair_of a b = record { a = a; b = b }

-- the second of two stations is behind the first, or is the first where a station stands with itself
abbrev pub is_pair : Bool → ℕ → ℕ → Bool
is_pair auto a b = nat_lt a b || (auto && (a == b))

abbrev pub pairs_with : Bool → ℕ → List Here → List BaselinePlan
pairs_with auto a hs = map (λ (h : Here). pair_of a h.number) (filter (λ (h : Here). is_pair auto a h.number) hs)

-- the baselines whose first station is one of some
abbrev pub pairs_in : Bool → List Here → List Here → List BaselinePlan
pairs_in auto all firsts = flat_map (λ (h : Here). pairs_with auto h.number all) firsts

-- a scan that has a baseline
abbrev pub has_baseline : ScanPlan → Bool
has_baseline scan = nat_lt 0 (length scan.baselines)

-- a scan where it has a baseline, nothing else
abbrev pub kept : ScanPlan → List ScanPlan
kept scan = if has_baseline scan then scan ∷ [] else []

-- a scan of a schedule, held with a job's stations in it, that a plan can hold
pub record IsReady (job : JobFields) (rate : ℕ) (p : Place) : Type 0 where
  pub visit : visit_of p ≡ visit_in job p.scan.now
  pub sound : IsScan p.scan.now
  pub stations : length job.stations ≤ 32
  pub samples : p.taken ≡ true → held_samples rate p ≤ 2 ^ 40
