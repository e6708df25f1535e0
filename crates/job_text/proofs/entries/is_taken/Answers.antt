use Rattle.std.proofs.Common.{FitsSigned, w64, rules}
use Rattle.std.proofs.lemmas.Int.{to_z-of_z}
use Rattle.job_lines.proofs.SecondLemmas.{same_second}
use Rattle.job_text.proofs.EntryLemmas.{taken_by, none_by}
use Rattle.job_text.proofs.entries.is_taken.Goals as goal

pub returns-in-Some-entry_for : goal.returns-in-Some-entry_for
returns-in-Some-entry_for g c =
    let one : FitsSigned w64 c.second.result = search rules in
    let two : FitsSigned w64 c.in-Some.second = search rules in
    let latest = simp to_z-of_z at c.in-Some-entry_for.ensures.latest in
    taken_by g.E.HasSecond.second_of c.args.entries.now c.in-Some.second c.args.second c.in-Some.is c.second.result c.in-Some-entry_for.entry _ c.second.ensures
    (same_second c.second.result c.in-Some.second one two) latest

pub returns-in-None : goal.returns-in-None
returns-in-None g c =
    let two : FitsSigned w64 c.in-Some.second = search rules in
    let latest = simp to_z-of_z at c.in-None.ensures.latest in
    none_by g.E.HasSecond.second_of c.args.entries.now c.in-Some.second c.args.second c.in-Some.is latest
