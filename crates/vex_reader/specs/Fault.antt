-- The faults that are of no statement.
use Rattle.std.specs.Prelude.{ℕ}
use Rattle.vex_lex.specs.declared.fault.LexKind.{LexKind}
use Rattle.vex_lex.specs.declared.fault.LexKind.TheVariants as lex
use Rattle.vex_reader.specs.declared.fault.VexKind.TheVariants.{Lex, Memory}
use Rattle.vex_reader.specs.declared.fault.VexFault.{VexFault}

-- Want of memory, which is at no place of the text.
abbrev pub out_of_memory : VexFault
out_of_memory = record { kind = Memory; at = 0 }

-- A fault of the tokens.
abbrev pub token_fault : LexKind → ℕ → VexFault
token_fault lex.Memory at = out_of_memory
token_fault kind at = record { kind = Lex kind; at = at }
