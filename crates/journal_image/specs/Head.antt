-- The head of a record: the range of its epoch, in 28 bytes.
use Rattle.std.specs.Prelude.{ℕ, List, ◌++◌}
use Rattle.byteorder.specs.Endian.{little_bytes, little_from}
use Rattle.piece_plan.specs.declared.epoch.EpochPlan.{EpochPlan}
use Rattle.piece_plan.specs.Order.{Place}
use Rattle.journal_image.specs.declared.head.EpochRange.{EpochRange}

-- a place in 20 bytes: the number of its scan in four, those of its integration and its sample in eight each
abbrev pub place_text : Place → List ℕ
place_text p = little_bytes 4 p.scan ++ little_bytes 8 p.m ++ little_bytes 8 p.from

-- the place where a range begins, and the sample where it ends in eight bytes
abbrev pub head_text : EpochRange → List ℕ
head_text r = place_text (record { scan = r.scan; m = r.m; from = r.from }) ++ little_bytes 8 r.to

-- the range that stands at the front of bytes
abbrev pub head_of : List ℕ → EpochRange
head_of bytes = record {
  scan = little_from 0 4 bytes;
  m = little_from 4 8 bytes;
  from = little_from 12 8 bytes;
  to = little_from 20 8 bytes;
}

abbrev pub epoch_range : EpochPlan → EpochRange
epoch_range e = record { scan = e.scan; m = e.m; from = e.from; to = e.to }
