-- Shards as they were read from files.
use Rattle.std.specs.Prelude.{◌≡◌, ◌^◌, ◌<◌, ℕ, List, length, Some, MatchResult, Result}
use Rattle.std.specs.List.{All, AllZip}
use Rattle.std.specs.Str.{IsUtf8}
use Rattle.dev_traits.specs.Fault.{HasRisen}
use Rattle.corr_model.specs.Files.{Files}
use Rattle.piece_plan.specs.Epochs.{JobSizes}
use Rattle.journal_image.specs.Image.{KeptEpoch}
use Rattle.checkpoint_journal.specs.Listed.{IsKeptAt, IsPlaced}
use Rattle.shard_merge.specs.declared.shard.Shard.{Shard}
use Rattle.shard_merge.specs.declared.fault.ShardFault.{ShardFault}
use Rattle.shard_merge.specs.declared.fault.ShardFault.TheVariants.{Read as ReadShard, NotShard, Memory as ShardMemory}
use Rattle.shard_merge.specs.declared.fault.MergeFault.{MergeFault}
use Rattle.shard_merge.specs.declared.fault.MergeFault.TheVariants.{Read}
use Rattle.shard_merge.specs.Shards.{ShardKeeps, IsNoShard}
use Rattle.corr_model.specs.Files.{bytes_under}

-- a shard whose name is a text, whose length is below 2^63 and whose epochs are the job's
pub record IsListed (job : JobSizes) (s : Shard) : Type 0 where
  pub text : IsUtf8 s.name
  pub short : s.size < 2 ^ 63
  pub placed : All (IsPlaced job) s.kept.items

-- The file of a shard on a shelf keeps these epochs of the job with this identity, and the shard has the places of their cells.
pub record IsReadFrom (files : Files) (id : List ℕ) (job : JobSizes) (s : Shard) (kept : List KeptEpoch) : Type 0 where
  pub image : List ℕ
  pub there : files s.name ≡ Some image
  pub size : length image ≡ s.size
  pub keeps : ShardKeeps id job image kept
  pub places : AllZip (IsKeptAt image) kept s.kept.items

-- so do those of some shards
abbrev pub AreReadFrom : Files → List ℕ → JobSizes → List Shard → List (List KeptEpoch) → Type 0
AreReadFrom files id job shards keeps = AllZip (IsReadFrom files id job) shards keeps

-- why a shard is not read: its file is none
abbrev pub IsRefusedShard : Files → List ℕ → JobSizes → List ℕ → ShardFault → Type 0
IsRefusedShard files id job name ReadShard = Unit {0}
IsRefusedShard files id job name (NotShard d) = IsNoShard id job (bytes_under files name) d
IsRefusedShard files id job name ShardMemory = Unit {0}

-- a read fault comes only where the shelf's count rose, and with any other answer it stays
abbrev pub CountsShard : {T : Type 0} → ℕ → ℕ → Result T ShardFault → Type 0
CountsShard before now result = MatchResult result (λ _. now ≡ before) (blames before now)
  where
    blames : ℕ → ℕ → ShardFault → Type 0
    blames before now ReadShard = HasRisen before now
    blames before now _ = now ≡ before

abbrev pub CountsMerge : {T : Type 0} → ℕ → ℕ → Result T MergeFault → Type 0
CountsMerge before now result = MatchResult result (λ _. now ≡ before) (blames before now)
  where
    blames : ℕ → ℕ → MergeFault → Type 0
    blames before now Read = HasRisen before now
    blames before now _ = now ≡ before
