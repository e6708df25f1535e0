-- Which job, or which part of one, a journal belongs to.
use Rattle.std.specs.Prelude.{ℕ, List, ◌++◌, drop, length, flat_map, codes}
use Rattle.byteorder.specs.Endian.{little_bytes}

-- a mark, the lengths of the schedule's and the job's text, the number of the recordings and the length of each, and
-- the two texts
abbrev pub identity_of : List ℕ → List ℕ → List ℕ → List ℕ
identity_of schedule job sizes =
    codes "VLBIJRN2"
    ++ little_bytes 8 (length schedule)
    ++ little_bytes 8 (length job)
    ++ little_bytes 8 (length sizes)
    ++ flat_map (little_bytes 8) sizes
    ++ schedule
    ++ job

-- that of a part of a job: another mark, the numbers of its first integration and of the one behind its last, and what stands behind the mark
-- of the job's identity
abbrev pub shard_of : List ℕ → ℕ → ℕ → List ℕ
shard_of id from to = codes "VLBISHD1" ++ little_bytes 8 from ++ little_bytes 8 to ++ drop 8 id
