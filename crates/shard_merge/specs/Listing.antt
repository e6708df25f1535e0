-- What the file of a shard is found to keep, before it has a name.
use Rattle.std.specs.Prelude.{◌≡◌, ℕ, List, length, Option, Some}
use Rattle.std.specs.List.{AllZip}
use Rattle.dev_traits.specs.Told.{WhereTold}
use Rattle.corr_model.specs.Files.{Files}
use Rattle.piece_plan.specs.Epochs.{JobSizes}
use Rattle.journal_image.specs.Image.{KeptEpoch}
use Rattle.checkpoint_journal.specs.declared.listed.KeptAt.{KeptAt}
use Rattle.checkpoint_journal.specs.Finding.{IsOther}
use Rattle.checkpoint_journal.specs.Listed.{IsKeptAt}
use Rattle.shard_merge.specs.declared.fault.ShardFault.{ShardFault}
use Rattle.shard_merge.specs.declared.fault.ShardFault.TheVariants.{Read, NotShard, Memory}
use Rattle.shard_merge.specs.Shards.{ShardKeeps, IsNoShard}

-- the epochs that an image keeps as that of a shard, in order, each with the place of its cells
pub record ListsShard (id : List ℕ) (job : JobSizes) (image : List ℕ) (listed : List KeptAt) : Type 0 where
  pub kept : List KeptEpoch
  pub keeps : ShardKeeps id job image kept
  pub places : AllZip (IsKeptAt image) kept listed

-- why an image, where it is told, is not listed as that of a shard
abbrev pub IsUnlisted : List ℕ → JobSizes → Option (List ℕ) → ShardFault → Type 0
IsUnlisted id job seen Read = Unit {0}
IsUnlisted id job seen (NotShard d) = WhereTold seen (λ image. IsNoShard id job image d)
IsUnlisted id job seen Memory = Unit {0}

-- why it is not listed as a journal with this identity and plan
abbrev pub IsUnlike : List ℕ → JobSizes → Option (List ℕ) → ShardFault → Type 0
IsUnlike id job seen Read = Unit {0}
IsUnlike id job seen (NotShard d) = WhereTold seen (λ image. IsOther id job image d)
IsUnlike id job seen Memory = Unit {0}

-- the file of a name has so many bytes, of which this holds
pub record IsFileWith (P : List ℕ → Type 0) (files : Files) (name : List ℕ) (size : ℕ) : Type 0 where
  pub image : List ℕ
  pub there : files name ≡ Some image
  pub size_is : length image ≡ size
  pub holds : P image
