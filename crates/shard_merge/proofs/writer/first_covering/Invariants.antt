use Rattle.std.proofs.Common.{◌≡◌, ℕ, List, drop}
use Rattle.corr_model.specs.Files.{Files}
use Rattle.journal_image.specs.Image.{KeptEpoch}
use Rattle.shard_merge.specs.Covers.{covering}
use Rattle.shard_merge.specs.Reading.{AreReadFrom}
use Rattle.shard_merge.proofs.writer.first_covering.Given as goal

abbrev pub invariant-loop-shard : goal.invariant-loop-shard
invariant-loop-shard l =
    (files : Files) (id : List ℕ) (keeps : List (List KeptEpoch)) → AreReadFrom files id l.plan l.shards keeps
    → covering l.plan l.number l.m (drop l.shard-index keeps) ≡ covering l.plan l.number l.m keeps
