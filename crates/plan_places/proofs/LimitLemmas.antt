-- A job that is limited to some of its integrations: its places, and its epochs of any length.
use Rattle.std.specs.Prelude.{◌↔◌}
use Rattle.std.proofs.Common.{◌≡◌, ap, refl, subst, ℕ, ◌-◌, ◌≤◌, List, [], ◌∷◌, length, arith}
use Rattle.piece_plan.specs.declared.job.ScanSize.{ScanSize}
use Rattle.piece_plan.specs.declared.epoch.EpochPlan.{EpochPlan}
use Rattle.piece_plan.specs.Epochs.{JobSizes, IsEpoch, integration_count, epochs_of}
use Rattle.piece_plan.specs.Order.{Place, place_of}
use Rattle.piece_plan.specs.Limited.{limited_scan, limited_scans, limited}
use Rattle.plan_places.specs.Places.{IsPlace}
use Rattle.plan_places.specs.Walk.{epochs_by}
use Rattle.plan_places.proofs.AfterLemmas.{begin_of-IsPlace}
use Rattle.plan_places.proofs.CutLemmas.{cut_of, cut_of-IsEpoch}

-- where the epochs of a part are those of the job that begin at a place of two kinds, its places are those of the job of these kinds
pub places-by-epochs : (job part : JobSizes) (IsFrom IsBelow : Place → Type 0) (p : Place)
    → ((e : EpochPlan) → IsEpoch part e ↔ (IsEpoch job e × IsFrom (place_of e) × IsBelow (place_of e)))
    → IsPlace part p ↔ (IsPlace job p × IsFrom p × IsBelow p)
places-by-epochs job part IsFrom IsBelow p same = (
  (λ place.
      let one = (same (cut_of part 1 p place.size)).0 (cut_of-IsEpoch part 1 p place (omega arith) (omega arith)) in
      (begin_of-IsPlace job (cut_of part 1 p place.size) one.0, one.1, one.2)),
  (λ all.
      let one = cut_of-IsEpoch job 1 p all.0 (omega arith) (omega arith) in
      begin_of-IsPlace part (cut_of job 1 p all.0.size) ((same (cut_of job 1 p all.0.size)).1 (one, all.1, all.2))),
)

-- limiting a job does not look at the length of its epochs
limited_scans-by : (job : JobSizes) (n : ℕ) (scans : List ScanSize) (from to : ℕ)
    → limited_scans (record job { epoch = n }) scans from to ≡ limited_scans job scans from to
limited_scans-by job n [] from to = refl
limited_scans-by job n (size ∷ scans) from to =
    ap (λ (xs : List ScanSize). limited_scan job size from to ∷ xs)
    (limited_scans-by job n scans (from - integration_count job size) (to - integration_count job size))

limited-by : (job : JobSizes) (n from to : ℕ) → limited (record job { epoch = n }) from to ≡ record (limited job from to) { epoch = n }
unfolding limited
limited-by job n from to = ap (λ (xs : List ScanSize). record job { scans = xs; epoch = n }) (limited_scans-by job n job.scans from to)

pub shorter-by : (job : JobSizes) (from to epoch : ℕ)
    → length (epochs_of (limited (record job { epoch = epoch }) from to)) ≤ length (epochs_of (record job { epoch = epoch }))
    → length (epochs_by (limited job from to) epoch) ≤ length (epochs_by job epoch)
shorter-by job from to epoch few =
    subst (λ (part : JobSizes). length (epochs_of part) ≤ length (epochs_by job epoch)) (limited-by job epoch from to) few
