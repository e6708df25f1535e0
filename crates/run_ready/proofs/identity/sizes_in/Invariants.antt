use Rattle.std.proofs.Common.{◌≡◌, take}
use Rattle.run_ready.specs.Sizes.{sizes_in}
use Rattle.run_ready.proofs.identity.sizes_in.Given as goal

abbrev pub invariant-loop-station : goal.invariant-loop-station
invariant-loop-station l = l.sizes.items ≡ sizes_in (take l.station-index l.files)
