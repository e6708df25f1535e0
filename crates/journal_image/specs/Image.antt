-- What the bytes of a journal's file say: a head gate and the identity of a job, then a row of gates with records behind
-- them. In an old journal records have no range, up to a mark behind which they have one.
use Rattle.std.specs.Prelude.{◌≡◌, ◌≢◌, ◌⊎◌, ℕ, ◌+◌, ◌*◌, ◌≤◌, nat_le, ◌==◌, ◌||◌, not, Bool, true, false, if◌then◌else◌, List, [], ◌∷◌, ◌++◌, length, replicate, slice_index, slice_set, Option, Some, None}
use Rattle.std.specs.List.{All}
use Rattle.byteorder.specs.Endian.{little_from}
use Rattle.piece_plan.specs.declared.epoch.EpochPlan.{EpochPlan}
use Rattle.piece_plan.specs.Epochs.{JobSizes, IsEpoch, cell_count}
use Rattle.piece_plan.specs.Order.{Place, place_of, job_start, place_after}
use Rattle.plan_places.specs.Walk.{cut_at}
use Rattle.journal_image.specs.Head.{head_text, epoch_range}
use Rattle.journal_image.specs.Rows.{Goes, row_text, IsRow}

-- no epoch was ever kept: there is no head, or its gate is closed
abbrev pub is_blank : List ℕ → Bool
is_blank image = nat_le (length image) 1 || not (slice_index image 0 == 1)

-- What is due behind a gate: whether a record carries its range, and the place where its epoch begins. No place is due
-- at the end of the job.
pub record Due : Type 0 where
  pub ranged : Bool
  pub place : Option Place

-- what may stand behind an open gate: an epoch with the bytes of its cells, or a mark with its bytes
pub data Thing : Type 0 where
  Kept : EpochPlan → List ℕ → Thing
  Turn : List ℕ → Thing

-- the range of an epoch, in 28 bytes
abbrev pub range_text : EpochPlan → List ℕ
range_text e = head_text (epoch_range e)

abbrev pub text : Due → Thing → List ℕ
text due (Kept e body) = if due.ranged then range_text e ++ body else body
text due (Turn bytes) = bytes

-- the count of the first cell of a body
abbrev pub first_count : List ℕ → ℕ
first_count bytes = little_from 16 8 bytes

-- a count that no cell has, which tells a mark from a record
abbrev pub mark_count : ℕ
mark_count = 18446744073709551615

-- the mark as it is written: the sums of its one cell are 0
abbrev pub mark_text : List ℕ
mark_text = replicate 16 0 ++ replicate 8 255

-- an epoch of the length that the job's own line gives, with a body that is no mark
pub record IsOwn (job : JobSizes) (e : EpochPlan) (body : List ℕ) : Type 0 where
  pub cut : cut_at job job.epoch (place_of e) ≡ Some e
  pub count : first_count body ≢ mark_count

-- A record fits where its epoch begins at the place that is due and its body has the bytes of all cells. With no range
-- beside it, the epoch is the one that the job's own line gives.
pub record FitsRecord (job : JobSizes) (due : Due) (e : EpochPlan) (body : List ℕ) : Type 0 where
  pub place : due.place ≡ Some (place_of e)
  pub epoch : IsEpoch job e
  pub size : length body ≡ 24 * cell_count e
  pub own : due.ranged ≡ false → IsOwn job e body

-- a mark fits where a record without a range is due
pub record FitsMark (due : Due) (bytes : List ℕ) : Type 0 where
  pub old : due.ranged ≡ false
  pub more : due.place ≢ None
  pub size : length bytes ≡ 24
  pub count : first_count bytes ≡ mark_count

abbrev pub Fits : JobSizes → Due → Thing → Type 0
Fits job due (Kept e body) = FitsRecord job due e body
Fits job due (Turn bytes) = FitsMark due bytes

-- after a record the place behind its epoch is due; after a mark the same place, and from there on records have a range
abbrev pub next : JobSizes → Due → Thing → Due
next job due (Kept e body) = record { ranged = due.ranged; place = place_after job e }
next job due (Turn bytes) = record { ranged = true; place = due.place }

-- nothing more is due: the records cover the job
abbrev pub Covers : Due → Type 0
Covers due = due.place ≡ None

-- things of a job one after another, their bytes, and bytes that begin with them
abbrev pub ThingsGo : JobSizes → Due → List Thing → Due → Type 0
ThingsGo job due things end = Goes (Fits job) text (next job) Covers due things end

abbrev pub things_text : JobSizes → Due → List Thing → List ℕ
things_text job due things = row_text (Fits job) text (next job) Covers due things

abbrev pub IsRowOf : JobSizes → Due → List Thing → Due → List ℕ → Type 0
IsRowOf job due things end bytes = IsRow (Fits job) text (next job) Covers due things end bytes

-- a kept epoch, and the bytes of its cells
pub record KeptEpoch : Type 0 where
  pub epoch : EpochPlan
  pub body : List ℕ

-- the kept epochs among the things of a row; a mark is none
abbrev pub records : List Thing → List KeptEpoch
records [] = []
records (Kept e body ∷ things) = record { epoch = e; body = body } ∷ records things
records (Turn bytes ∷ things) = records things

-- The identity of a job or of a part of one. The last of its eight first bytes, which are `VLBIJRN2` or `VLBISHD1`, tells the version:
-- of the first kind there are old journals.
pub record IsIdentity (id : List ℕ) : Type 0 where
  pub long : 8 ≤ length id
  pub version : (slice_index id 7 ≡ 50) ⊎ (slice_index id 7 ≡ 49)

-- a journal may be an old one where its identity has a `2` for the version
abbrev pub MayBeOld : List ℕ → Bool → Type 0
MayBeOld id old = old ≡ true → slice_index id 7 ≡ 50

-- the front of a file: the open head gate and the identity, which has a `1` for the version in an old journal
abbrev pub begin : List ℕ → Bool → List ℕ
begin id old = 1 ∷ (if old then slice_set id 7 49 else id)

-- what is due behind the front
abbrev pub start : JobSizes → Bool → Due
start job old = record { ranged = not old; place = job_start job }

-- What an image of a job's journal says: whether it is an old one, the things behind its open gates, and what is due
-- behind them.
pub record Reading : Type 0 where
  pub old : Bool
  pub things : List Thing
  pub due : Due

-- an image of this job's form, and what it says
pub record Reads (id : List ℕ) (job : JobSizes) (image : List ℕ) (r : Reading) : Type 0 where
  pub version : MayBeOld id r.old
  pub bytes : List ℕ
  pub is : image ≡ begin id r.old ++ bytes
  pub row : IsRowOf job (start job r.old) r.things r.due bytes

-- the epochs that an image keeps: none where it is blank, and else those of what it says
abbrev pub Keeps : List ℕ → JobSizes → List ℕ → List KeptEpoch → Type 0
Keeps id job image kept =
    ((is_blank image ≡ true) × (kept ≡ [])) ⊎ ((r : Reading) × Reads id job image r × (kept ≡ records r.things))

-- a journal with ranges and no record
abbrev pub nothing : JobSizes → Reading
nothing job = record { old = false; things = []; due = start job false }

-- the same with one thing more behind the others
abbrev pub more : JobSizes → Reading → Thing → Reading
more job r t = record { old = r.old; things = r.things ++ t ∷ []; due = next job r.due t }

-- the byte place of the gate behind the last thing
abbrev pub gate_of : List ℕ → JobSizes → Reading → ℕ
gate_of id job r = 1 + length id + length (things_text job (start job r.old) r.things)

-- each kept epoch has the body that this function gives of it
abbrev pub IsHonest : (EpochPlan → List ℕ) → Reading → Type 0
IsHonest body_of r = All (λ (k : KeptEpoch). k.body ≡ body_of k.epoch) (records r.things)
