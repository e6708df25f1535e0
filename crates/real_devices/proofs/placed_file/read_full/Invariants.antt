use Rattle.std.proofs.Common.{◌≡◌, ◌≤◌, ◌-◌, length}
use Rattle.dev_traits.specs.Told.{WhereTold}
use Rattle.real_devices.specs.Placed.{HasRead}
use Rattle.real_devices.proofs.placed_file.read_full.Given as goal

abbrev pub invariant-loop-done : goal.invariant-loop-done
invariant-loop-done g l =
    (l.done ≤ length l.buf)
    × (g.F.PlacedFile.told l.file ≡ g.F.PlacedFile.told l.initial.file)
    × (g.F.PlacedFile.never_fails l.file ≡ g.F.PlacedFile.never_fails l.initial.file)
    × WhereTold (g.F.PlacedFile.told l.initial.file) (λ bytes. HasRead bytes l.at l.initial.buf l.done l.buf)

abbrev pub decreases-loop-done : goal.decreases-loop-done
decreases-loop-done g l = length l.buf - l.done
