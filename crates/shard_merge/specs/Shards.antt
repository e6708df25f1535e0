-- What the file of a part's journal says, and where it is no such file.
use Rattle.std.specs.Prelude.{◌≡◌, ◌⊎◌, ℕ, ◌<◌, ◌≤◌, true, List, [], slice_index, None, Some}
use Rattle.piece_plan.specs.Epochs.{JobSizes}
use Rattle.piece_plan.specs.Limited.{integrations, limited}
use Rattle.journal_image.specs.declared.difference.Differs.{Differs}
use Rattle.journal_image.specs.Image.{is_blank, KeptEpoch, records, Reading, Reads}
use Rattle.checkpoint_journal.specs.Identity.{shard_of}
use Rattle.checkpoint_journal.specs.Finding.{IsOther}
use Rattle.checkpoint_journal.specs.Part.{IsOfPart, IsNoPart}

-- the numbers in the front of a file are those of a part of the job: it has at least one integration, and none past the job's last
pub record IsPartOf (job : JobSizes) (image : List ℕ) (from to : ℕ) : Type 0 where
  pub front : IsOfPart image from to
  pub some : from < to
  pub within : to ≤ integrations job

-- an image that is of form for the part that its own front tells, and what it says
pub record IsShard (id : List ℕ) (job : JobSizes) (image : List ℕ) (r : Reading) : Type 0 where
  pub from : ℕ
  pub to : ℕ
  pub part : IsPartOf job image from to
  pub reads : Reads (shard_of id from to) (limited job from to) image r

-- the epochs that the file of a shard keeps: none where it is blank
abbrev pub ShardKeeps : List ℕ → JobSizes → List ℕ → List KeptEpoch → Type 0
ShardKeeps id job image kept = ((is_blank image ≡ true) × (kept ≡ [])) ⊎ ((r : Reading) × IsShard id job image r × (kept ≡ records r.things))

-- The numbers in the front are those of no part of the job. The fault is their first byte.
pub record IsOfNoPart (job : JobSizes) (image : List ℕ) (d : Differs) : Type 0 where
  pub from : ℕ
  pub to : ℕ
  pub front : IsOfPart image from to
  pub none : from < to → to ≤ integrations job → ⊥
  pub is : d ≡ record { at = 9; kept = Some (slice_index image 9); ours = None }

-- the numbers are those of a part, and the file differs from its journal
pub record IsOfOther (id : List ℕ) (job : JobSizes) (image : List ℕ) (d : Differs) : Type 0 where
  pub from : ℕ
  pub to : ℕ
  pub part : IsPartOf job image from to
  pub other : IsOther (shard_of id from to) (limited job from to) image d

-- an image that is neither blank nor of form for its own part, and where it differs
abbrev pub IsNoShard : List ℕ → JobSizes → List ℕ → Differs → Type 0
IsNoShard id job image d = IsNoPart image d ⊎ (IsOfNoPart job image d ⊎ IsOfOther id job image d)
