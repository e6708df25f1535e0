-- How faults are written.
use Rattle.std.specs.Prelude.{ℕ, List, codes}
use Rattle.run_words.specs.declared.fault.WordsFault.{WordsFault}
use Rattle.run_words.specs.declared.fault.WordsFault.TheVariants.{NoCommand, UnknownCommand, Option, Value, Memory}

abbrev pub fault_name : WordsFault → List ℕ
fault_name NoCommand = codes "NoCommand"
fault_name UnknownCommand = codes "UnknownCommand"
fault_name Option = codes "Option"
fault_name Value = codes "Value"
fault_name Memory = codes "Memory"
