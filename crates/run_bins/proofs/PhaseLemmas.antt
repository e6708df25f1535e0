-- Scans without a phase.
use Rattle.std.specs.Prelude.{not, nat_lt, cond}
use Rattle.std.proofs.Common.{◌≡◌, ℕ, ◌<◌, Bool, true, false, List, length, Some, None, refl, subst}
use Rattle.std.specs.List.{position, position_or_len}
use Rattle.std.proofs.lemmas.Bool.{ltb-true}
use Rattle.job_plan.specs.declared.plan.ScanPlan.{ScanPlan}
use Rattle.job_plan.specs.declared.plan.Plan.{Plan}
use Rattle.pulsar_bins.specs.Bins.{BinsFields}
use Rattle.pulsar_bins.specs.Scans.{has_phase, no_phase}

-- a place in a list
inside : {X : Type 0} (p : X → Bool) (xs : List X) (n : ℕ) → position p xs ≡ Some n → n < length xs
inside p xs n found = by (nat_lt (position_or_len p xs) (length xs)) refl found
  where
    by : (b : Bool) → nat_lt (position_or_len p xs) (length xs) ≡ b → cond b (Some (position_or_len p xs)) None ≡ Some n → n < length xs
    by true less is = let same : position_or_len p xs ≡ n = cc in subst (λ k. k < length xs) same (ltb-true (position_or_len p xs) (length xs) less)
    by false past is = absurd cc

-- a scan without a phase is one of the plan's
pub phase-inside : (bins : BinsFields) (plan : Plan) (n : ℕ) → no_phase bins plan ≡ Some n → n < length plan.scans
unfolding no_phase
phase-inside bins plan n found = inside (λ (scan : ScanPlan). not (has_phase plan bins scan)) plan.scans n found
