-- What follows for every text.
use Rattle.std.specs.Prelude.{◌≡◌, ◌⊎◌, ℕ, List}
use Rattle.vex_reader.specs.declared.fault.VexFault.{VexFault}
use Rattle.vex_reader.specs.declared.file.VexFile.{VexFile}
use Rattle.vex_reader.specs.Grammar.{IsFileOf, IsVexFaultOf}

-- A text stands for at most one file.
abbrev pub HasOneFile : List ℕ → Type 0
HasOneFile text = (file other : VexFile) → IsFileOf text file → IsFileOf text other → file ≡ other

-- A text has at most one fault.
abbrev pub HasOneFault : List ℕ → Type 0
HasOneFault text = (fault other : VexFault) → IsVexFaultOf text fault → IsVexFaultOf text other → fault ≡ other

-- A text that stands for a file has no fault.
abbrev pub DoesNotBoth : List ℕ → Type 0
DoesNotBoth text = (file : VexFile) (fault : VexFault) → IsFileOf text file → ¬ IsVexFaultOf text fault

-- A text stands for a file or has a fault.
abbrev pub HasFileOrFault : List ℕ → Type 0
HasFileOrFault text = ((file : VexFile) × IsFileOf text file) ⊎ ((fault : VexFault) × IsVexFaultOf text fault)
