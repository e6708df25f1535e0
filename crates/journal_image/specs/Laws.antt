-- Laws of images.
use Rattle.std.specs.Prelude.{◌≡◌, ◌≢◌, false, ℕ, ◌<◌, List, [], ◌∷◌, ◌++◌, length, take, map, slice_index}
use Rattle.piece_plan.specs.declared.epoch.EpochPlan.{EpochPlan}
use Rattle.piece_plan.specs.Epochs.{JobSizes, epochs_of}
use Rattle.piece_plan.specs.Order.{job_start, AreInOrder}
use Rattle.journal_image.specs.declared.difference.Differs.{Differs}
use Rattle.journal_image.specs.Image.{Thing, Kept, Turn, text, Fits, KeptEpoch, records, Reading, Reads, Keeps, nothing, more, gate_of, IsHonest}
use Rattle.journal_image.specs.Difference.{IsDifference}

-- an image says one thing at most
abbrev pub ReadsOnce : List ℕ → JobSizes → List ℕ → Type 0
ReadsOnce id job image = (r s : Reading) → Reads id job image r → Reads id job image s → r ≡ s

-- so it keeps the same epochs, however it is read
abbrev pub KeepsOne : List ℕ → JobSizes → List ℕ → Type 0
KeepsOne id job image = (kept other : List KeptEpoch) → Keeps id job image kept → Keeps id job image other → kept ≡ other

-- an open head gate, the identity and a closed gate say that there is no record
abbrev pub ReadsNothing : List ℕ → JobSizes → Type 0
ReadsNothing id job = Reads id job (1 ∷ (id ++ 0 ∷ [])) (nothing job)

abbrev pub kept_epochs : Reading → List EpochPlan
kept_epochs r = map (λ (k : KeptEpoch). k.epoch) (records r.things)

-- kept epochs are in order, from the first sample of the job to the place that is due
abbrev pub ReadsInOrder : List ℕ → JobSizes → List ℕ → Type 0
ReadsInOrder id job image =
    (r : Reading) → Reads id job image r → AreInOrder job (job_start job) (kept_epochs r) r.due.place

-- an old journal without a mark keeps the first epochs of the job, as the job's own line cuts them
abbrev pub ReadsOwn : List ℕ → JobSizes → List ℕ → Type 0
ReadsOwn id job image =
    (r : Reading) → Reads id job image r → r.due.ranged ≡ false → kept_epochs r ≡ take (length (kept_epochs r)) (epochs_of job)

-- a file with a fault says nothing
abbrev pub HasNoReading : List ℕ → JobSizes → List ℕ → Type 0
HasNoReading id job image = (d : Differs) → IsDifference id job image d → (r : Reading) → ¬ Reads id job image r

-- and has one first fault
abbrev pub DiffersOnce : List ℕ → JobSizes → List ℕ → Type 0
DiffersOnce id job image = (d e : Differs) → IsDifference id job image d → IsDifference id job image e → d ≡ e

-- An image that is the same up to the gate behind the last thing says the same, unless that gate is opened in it.
abbrev pub EndsAtGate : List ℕ → JobSizes → List ℕ → Type 0
EndsAtGate id job image = (r : Reading) (v : List ℕ) → Reads id job image r
    → gate_of id job r < length v → take (gate_of id job r) v ≡ take (gate_of id job r) image
    → (slice_index v (gate_of id job r) ≡ 1 → slice_index image (gate_of id job r) ≡ 1) → Reads id job v r

-- an image in which that gate is open, with a thing that fits and a closed gate behind it, says this thing besides
abbrev pub ReadsMore : List ℕ → JobSizes → List ℕ → Type 0
ReadsMore id job image = (r : Reading) (t : Thing) (gate : ℕ) (rest : List ℕ) → Reads id job image r → Fits job r.due t → gate ≢ 1
    → Reads id job (take (gate_of id job r) image ++ (1 ∷ (text r.due t ++ (gate ∷ rest)))) (more job r t)

-- one more record is one more kept epoch, and one more mark none
abbrev pub KeepsMore : JobSizes → Type 0
KeepsMore job = (r : Reading) (e : EpochPlan) (body mark : List ℕ)
    → (records (more job r (Kept e body)).things ≡ records r.things ++ record { epoch = e; body = body } ∷ [])
    × (records (more job r (Turn mark)).things ≡ records r.things)

-- an honest journal stays honest with one more honest record, and with a mark
abbrev pub StaysHonest : JobSizes → Type 0
StaysHonest job = (body_of : EpochPlan → List ℕ) (r : Reading) (e : EpochPlan) (mark : List ℕ) → IsHonest body_of r
    → IsHonest body_of (more job r (Kept e (body_of e))) × IsHonest body_of (more job r (Turn mark))
