-- The names of the kinds of fault.
use Rattle.std.specs.Prelude.{ℕ, List, codes}
use Rattle.vex_schedule.specs.declared.fault.SchedKind.{SchedKind}
use Rattle.vex_schedule.specs.declared.fault.SchedKind.TheVariants.{NoSched, MissingStatement, DoubleStatement, UnknownRef, BadValue, StationTwice, BadRange, Memory}

abbrev pub kind_name : SchedKind → List ℕ
kind_name NoSched = codes "NoSched"
kind_name MissingStatement = codes "MissingStatement"
kind_name DoubleStatement = codes "DoubleStatement"
kind_name UnknownRef = codes "UnknownRef"
kind_name BadValue = codes "BadValue"
kind_name StationTwice = codes "StationTwice"
kind_name BadRange = codes "BadRange"
kind_name Memory = codes "Memory"
