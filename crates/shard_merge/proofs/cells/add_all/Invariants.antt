use Rattle.std.proofs.Common.{◌≡◌, take}
use Rattle.dev_traits.specs.Told.{WhereTold}
use Rattle.shard_merge.specs.Adding.{added_in}
use Rattle.shard_merge.proofs.cells.add_all.Given as goal

abbrev pub invariant-loop-one : goal.invariant-loop-one
invariant-loop-one g l = record {
  same : g.D.Disk.seen l.disk ≡ g.D.Disk.seen l.initial.disk;
  stays : g.D.Disk.stays l.initial.disk l.disk;
  faults : g.D.Disk.faults l.disk ≡ g.D.Disk.faults l.initial.disk;
  added : WhereTold (g.D.Disk.seen l.initial.disk) (λ image. l.sums ≡ added_in image l.initial.sums (take l.one-index l.kept));
}
