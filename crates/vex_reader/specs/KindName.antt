-- The names of the kinds of fault.
use Rattle.std.specs.Prelude.{ℕ, List, codes}
use Rattle.vex_lex.specs.KindName.{kind_name as lex_name}
use Rattle.vex_reader.specs.declared.fault.VexKind.{VexKind}
use Rattle.vex_reader.specs.declared.fault.VexKind.TheVariants.{Lex, Revision, Statement, OpenDef, DoubleDef, DoubleScan, Outside, Memory}

abbrev pub kind_name : VexKind → List ℕ
kind_name (Lex kind) = lex_name kind
kind_name Revision = codes "Revision"
kind_name Statement = codes "Statement"
kind_name OpenDef = codes "OpenDef"
kind_name DoubleDef = codes "DoubleDef"
kind_name DoubleScan = codes "DoubleScan"
kind_name Outside = codes "Outside"
kind_name Memory = codes "Memory"
