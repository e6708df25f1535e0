-- The names of the kinds of fault.
use Rattle.std.specs.Prelude.{ℕ, List, codes}
use Rattle.job_text.specs.declared.fault.JobKind.{JobKind}
use Rattle.job_text.specs.declared.fault.JobKind.TheVariants.{Line, Double, Missing, Unknown, Range, Memory}

abbrev pub kind_name : JobKind → List ℕ
kind_name Line = codes "Line"
kind_name Double = codes "Double"
kind_name Missing = codes "Missing"
kind_name Unknown = codes "Unknown"
kind_name Range = codes "Range"
kind_name Memory = codes "Memory"
