-- The names of the kinds of fault.
use Rattle.std.specs.Prelude.{ℕ, List, codes}
use Rattle.vex_lex.specs.declared.fault.LexKind.{LexKind}
use Rattle.vex_lex.specs.declared.fault.LexKind.TheVariants.{OpenQuote, OpenLiteral, BadByte, Memory}

abbrev pub kind_name : LexKind → List ℕ
kind_name OpenQuote = codes "OpenQuote"
kind_name OpenLiteral = codes "OpenLiteral"
kind_name BadByte = codes "BadByte"
kind_name Memory = codes "Memory"
