-- What a file is found to be.
use Rattle.std.specs.Prelude.{◌≡◌, ℕ, ◌+◌, ◌*◌, ◌≤◌, ◌<◌, ◌^◌, Bool, true, false, if◌then◌else◌, List, length, drop, option_map, IfSome}
use Rattle.piece_plan.specs.declared.epoch.EpochPlan.{EpochPlan}
use Rattle.piece_plan.specs.Epochs.{JobSizes, cell_count}
use Rattle.piece_plan.specs.Order.{Place}
use Rattle.plan_places.specs.Places.{place_at, IsPlace}
use Rattle.journal_image.specs.declared.difference.Differs.{Differs}
use Rattle.journal_image.specs.declared.finding.Behind.{Behind}
use Rattle.journal_image.specs.Finding.{IsBehind}
use Rattle.journal_image.specs.Image.{is_blank, Due, records, Reading, Reads, gate_of}
use Rattle.journal_image.specs.Difference.{IsReadTo, IsDifference}
use Rattle.checkpoint_journal.specs.declared.finding.Found.{Found}
use Rattle.checkpoint_journal.specs.declared.finding.Finding.{Finding}
use Rattle.checkpoint_journal.specs.declared.finding.Finding.TheVariants.{Blank, Ours, Other}

-- what is due at a gate
abbrev pub due_of : Found → Due
due_of f = record { ranged = f.ranged; place = option_map place_at f.next }

-- an image says what stands before a gate, and what is due there
abbrev pub IsAt : List ℕ → JobSizes → List ℕ → Found → Type 0
IsAt id job image f = IsReadTo id job image f.old (due_of f) f.kept f.gate

-- the gate behind the last record of what an image says
pub record IsEnd (id : List ℕ) (job : JobSizes) (r : Reading) (f : Found) : Type 0 where
  pub old : f.old ≡ r.old
  pub kept : f.kept ≡ length (records r.things)
  pub gate : f.gate ≡ gate_of id job r
  pub due : due_of f ≡ r.due

-- an image of this job's form, and the gate behind its last record
pub record IsFound (id : List ℕ) (job : JobSizes) (image : List ℕ) (f : Found) : Type 0 where
  pub reading : Reading
  pub reads : Reads id job image reading
  pub end : IsEnd id job reading f

-- an image that is neither blank nor of this job's form, and where it differs
pub record IsOther (id : List ℕ) (job : JobSizes) (image : List ℕ) (d : Differs) : Type 0 where
  pub begun : is_blank image ≡ false
  pub unread : (r : Reading) → ¬ Reads id job image r
  pub place : IsDifference id job image d

-- what an image is
abbrev pub Finds : List ℕ → JobSizes → List ℕ → Finding → Type 0
Finds id job image Blank = is_blank image ≡ true
Finds id job image (Ours f) = IsFound id job image f
Finds id job image (Other d) = IsOther id job image d

-- this stands behind a gate at which a place is due
abbrev pub StandsBehind : JobSizes → Found → Place → Behind → List ℕ → Type 0
StandsBehind job f p b image = IsBehind job f.ranged p (drop (f.gate + 1) image) (f.gate + 1) b

-- a gate below 2^63 with fewer epochs before it, and behind it a place of the job or the job's end
pub record HasPlace (job : JobSizes) (f : Found) : Type 0 where
  pub short : f.gate < 2 ^ 63
  pub many : f.kept ≤ f.gate
  pub next : IfSome f.next (λ p. IsPlace job (place_at p))

-- so does the gate of a journal that is found, also where the disk does not tell its content
abbrev pub FindsPlace : JobSizes → Finding → Type 0
FindsPlace job Blank = Unit {0}
FindsPlace job (Ours f) = HasPlace job f
FindsPlace job (Other d) = Unit {0}

-- the last gate of a journal that is found stands behind the identity
abbrev pub FindsBehind : List ℕ → Finding → Type 0
FindsBehind id Blank = Unit {0}
FindsBehind id (Ours f) = 1 + length id ≤ f.gate
FindsBehind id (Other d) = Unit {0}

-- the bytes of a record of an epoch
abbrev pub record_size : Bool → EpochPlan → ℕ
record_size ranged e = if ranged then 28 + 24 * cell_count e else 24 * cell_count e
