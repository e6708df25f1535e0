use Rattle.std.specs.Prelude.{flat_map}
use Rattle.std.proofs.Common.{◌≡◌, ◌*◌, take}
use Rattle.epoch_run.specs.Amounts.{amounts_in, bias_of}
use Rattle.epoch_run.proofs.amounts.write_amounts.Given as goal

abbrev pub invariant-loop-i : goal.invariant-loop-i
invariant-loop-i l = take (3 * l.i) l.amounts ≡ flat_map (amounts_in (bias_of l.samples)) (take l.i l.cells)
