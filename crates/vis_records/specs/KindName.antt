-- The names of the kinds of fault.
use Rattle.std.specs.Prelude.{ℕ, List, codes}
use Rattle.vis_records.specs.declared.fault.VisKind.{VisKind}
use Rattle.vis_records.specs.declared.fault.VisKind.TheVariants.{Magic, Short, Order, AfterEnd, Head, Memory}

abbrev pub kind_name : VisKind → List ℕ
kind_name Magic = codes "Magic"
kind_name Short = codes "Short"
kind_name Order = codes "Order"
kind_name AfterEnd = codes "AfterEnd"
kind_name Head = codes "Head"
kind_name Memory = codes "Memory"
