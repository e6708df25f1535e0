-- When a journal may be full.
use Rattle.std.specs.Prelude.{◌≡◌, ℕ, ◌≤◌, ◌^◌, true, List, length, Option}
use Rattle.dev_traits.specs.Told.{WhereTold}
use Rattle.piece_plan.specs.Epochs.{JobSizes}
use Rattle.piece_plan.specs.Order.{Place, job_start}
use Rattle.plan_places.specs.Walk.{AreLeft}
use Rattle.journal_image.specs.Image.{is_blank, Reading, Reads}
use Rattle.journal_rounds.specs.Counted.{IsFull}

-- the place of the job that is due behind what an image keeps
abbrev pub DueIn : List ℕ → JobSizes → List ℕ → Option Place → Type 0
DueIn id job image due = (is_blank image ≡ true → due ≡ job_start job) × ((r : Reading) → Reads id job image r → due ≡ r.due.place)

-- A journal that was read on entry had so many bytes that a run may come to its room's end: 2^62 or more, or there were more than
-- 2^32 epochs of this length to come.
abbrev pub IsLong : List ℕ → JobSizes → ℕ → List ℕ → Type 0
IsLong id job epoch image = (due : Option Place) (n : ℕ) → DueIn id job image due → AreLeft job epoch due n → n ≤ 2 ^ 32 → 2 ^ 62 ≤ length image

-- the journal is full, and was long on entry
pub record HasNoPlace (id : List ℕ) (job : JobSizes) (epoch : ℕ) (old new : Option (List ℕ)) : Type 0 where
  pub full : WhereTold new (IsFull id job)
  pub long : WhereTold old (IsLong id job epoch)
