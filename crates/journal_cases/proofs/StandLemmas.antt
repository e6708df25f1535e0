-- Journals that stand on disks in memory.
use Rattle.std.specs.Prelude.{IfSome, option_map, slice_get}
use Rattle.std.proofs.Common.{◌≡◌, ℕ, List, Option, Some, None, Result, Ok, Err, IfOk, ap, subst}
use Rattle.mem_devices.specs.declared.mem_disk.MemDisk.{MemDisk}
use Rattle.mem_devices.specs.MemDiskWords.{state_of, moment_of, images_of}
use Rattle.piece_plan.specs.declared.epoch.EpochPlan.{EpochPlan}
use Rattle.piece_plan.specs.Epochs.{JobSizes}
use Rattle.piece_plan.specs.Order.{Place, place_of}
use Rattle.plan_places.specs.declared.place.Place.{Place as Spot}
use Rattle.plan_places.specs.Places.{place_at, IsPlace}
use Rattle.plan_places.specs.Walk.{cut_at, cut_in}
use Rattle.piece_plan.specs.declared.job.ScanSize.{ScanSize}
use Rattle.checkpoint_journal.specs.Standing.{JournalState, Stands, StandsAtRest}
use Rattle.checkpoint_journal.proofs.GateLemmas.{stands_moved}
use Rattle.journal_cases.specs.Standing.{StandsIn}

-- for this identity, and so for some
pub stands_for : {E : Type 0} (id : List ℕ) (job : JobSizes) (r : Result JournalState E) (disk : MemDisk)
    → IfOk r (λ j. Stands id job j (Some (state_of disk).seen) (images_of disk (moment_of disk))) → IfOk r (λ j. StandsIn job j disk)
stands_for id job (Ok j) disk stands = (id, stands)
stands_for id job (Err e) disk stands = tt

-- a step of a journal that stands
pub stands_on : (job : JobSizes) (i j : JournalState) (old new : MemDisk) → StandsIn job i old
    → ((id : List ℕ) → Stands id job i (Some (state_of old).seen) (images_of old (moment_of old)) → Stands id job j (Some (state_of new).seen) (images_of new (moment_of new)))
    → StandsIn job j new
stands_on job i j old new stands step = (stands.0, step stands.0 stands.1)

-- the place that is due is one of the job
pub place_due : (job : JobSizes) (j : JournalState) (disk : MemDisk) (p : Spot) → StandsIn job j disk → j.end.next ≡ Some p → IsPlace job (place_at p)
place_due job j disk p stands due = subst (λ (o : Option Spot). IfSome o (λ q. IsPlace job (place_at q))) due stands.1.places.1.0.next

-- an epoch that is cut from a place on begins there
pub cut_begins : (job : JobSizes) (samples : ℕ) (p : Place) (e : EpochPlan) → cut_at job samples p ≡ Some e → Some p ≡ Some (place_of e)
unfolding cut_at
cut_begins job samples p e is = begins (slice_get job.scans p.scan) is
  where
    begins : (o : Option ScanSize) → cut_in job p samples o ≡ Some e → Some p ≡ Some (place_of e)
    begins None is = absurd (cc)
    begins (Some size) is = ap (option_map place_of) is

-- going back to the first epoch changes nothing of it
pub stands_again : (job : JobSizes) (i j : JournalState) (disk : MemDisk)
    → ((id : List ℕ) (job : JobSizes) (seen : Option (List ℕ)) → StandsAtRest id job i seen → StandsAtRest id job j seen)
    → StandsIn job i disk → StandsIn job j disk
stands_again job i j disk keeps stands =
    let seen = Some (state_of disk).seen in
    (stands.0, stands_moved stands.0 job i j seen (images_of disk (moment_of disk)) (keeps stands.0 job seen) stands.1)
