-- The names of the kinds of fault.
use Rattle.std.specs.Prelude.{ℕ, List, codes}
use Rattle.pulsar_bins.specs.declared.fault.BinsKind.{BinsKind}
use Rattle.pulsar_bins.specs.declared.fault.BinsKind.TheVariants.{Line, Double, Missing, Range, Memory}

abbrev pub kind_name : BinsKind → List ℕ
kind_name Line = codes "Line"
kind_name Double = codes "Double"
kind_name Missing = codes "Missing"
kind_name Range = codes "Range"
kind_name Memory = codes "Memory"
