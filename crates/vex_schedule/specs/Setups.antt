-- What the program's setups stand for.
use Rattle.std.specs.Prelude.{◌≡◌, List, map, codes, Result}
use Rattle.vex_reader.specs.declared.file.VexFile.{VexFile}
use Rattle.vex_schedule.specs.declared.fault.SchedFault.{SchedFault}
use Rattle.vex_schedule.specs.declared.part.Setup.{Setup}
use Rattle.read_steps.specs.Steps.{seen}
use Rattle.vex_schedule.specs.Schedule.{Part, defs_in, setup_in}

-- what a setup gives a station
abbrev pub part_of : Setup → Part
part_of setup = record { rate = setup.rate; chans = setup.chans }

-- these are what the defs of `$FREQ` give, in their order
abbrev pub AreSetups : VexFile → List (Result Setup SchedFault) → Type 0
AreSetups file setups = map (seen part_of) setups ≡ map (λ def. setup_in def.1) (defs_in file (codes "$FREQ"))
