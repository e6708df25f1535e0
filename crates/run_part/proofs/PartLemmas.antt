-- The identity of a part of a job.
use Rattle.std.specs.Prelude.{drop}
use Rattle.std.proofs.Common.{◌≡◌, ℕ, ◌+◌, ◌<◌, ◌^◌, List, [], length, refl, arith}
use Rattle.std.proofs.lemmas.List.{length-append, length-drop}
use Rattle.checkpoint_journal.specs.Identity.{shard_of}

-- it is longer than the job's by two numbers at most
pub length-shard_of : (id : List ℕ) (from to : ℕ) → length id < 2 ^ 61 → length (shard_of id from to) < 2 ^ 62
length-shard_of id from to short =
    let whole : length (shard_of id from to) ≡ length (shard_of [] from to) + length (drop 8 id) =
    length-append (shard_of [] from to) (drop 8 id) in
    let front : length (shard_of [] from to) ≡ 24 = refl in
    omega (arith, whole, front, length-drop 8 id, short)
