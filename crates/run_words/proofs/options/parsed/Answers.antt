use Rattle.std.proofs.Common.{map, string_bytes}
use Rattle.std.proofs.lemmas.Bool.{and_parts}
use Rattle.clap.specs.Words.{app_of}
use Rattle.run_words.proofs.Parsing.{rows_in-matches, rows_in-refused}
use Rattle.run_words.proofs.options.parsed.Goals as goal

pub returns-in-Ok : goal.returns-in-Ok
returns-in-Ok c =
    rows_in-matches (app_of c.args.command) (map string_bytes c.args.words.now) _ (c.in-Ok.ensures.kinds c.requires) (c.in-Ok.ensures.matches (and_parts _ _ c.requires).0).0

pub returns-in-Err : goal.returns-in-Err
returns-in-Err c = rows_in-refused (app_of c.args.command) (map string_bytes c.args.words.now) _ _ c.fault_of_kind.ensures (rw c.kind.ensures (c.in-Err.ensures.kinds c.requires))
