use Rattle.std.proofs.Common.{◌≡◌, ◌≤◌, ◌-◌, [], length, take}
use Rattle.dev_traits.specs.Told.{more}
use Rattle.dev_traits.proofs.sink.write_all.Given as goal

abbrev pub invariant-loop-at : goal.invariant-loop-at
invariant-loop-at g l = (l.at ≤ length l.bytes)
    × (g.S.Sink.told l.out ≡ more (g.S.Sink.told l.initial.out) (take l.at l.bytes))
    × (g.S.Sink.faults l.out ≡ g.S.Sink.faults l.initial.out)
    × (l.bytes ≡ [] → l.out ≡ l.initial.out)

abbrev pub decreases-loop-at : goal.decreases-loop-at
decreases-loop-at g l = length l.bytes - l.at
