use Rattle.std.proofs.Common.{FitsSigned, w64, rules, refl}
use Rattle.std.proofs.lemmas.Int.{to_z-of_z}
use Rattle.job_lines.proofs.SecondLemmas.{same_second}
use Rattle.pulsar_bins.proofs.EntryLemmas.{taken_by, none_by}
use Rattle.pulsar_bins.proofs.said.is_taken.Goals as goal

pub returns-in-Some-entry_for : goal.returns-in-Some-entry_for
returns-in-Some-entry_for c =
    let one : FitsSigned w64 c.in-Some-entry_for.entry.second = search rules in
    let two : FitsSigned w64 c.in-Some.second = search rules in
    let latest = simp to_z-of_z at c.in-Some-entry_for.ensures.latest in
    taken_by c.args.phases.now c.in-Some.second c.args.second c.in-Some.is c.in-Some-entry_for.entry.second c.in-Some-entry_for.entry _ refl
    (same_second c.in-Some-entry_for.entry.second c.in-Some.second one two) latest

pub returns-in-None : goal.returns-in-None
returns-in-None c =
    let two : FitsSigned w64 c.in-Some.second = search rules in
    let latest = simp to_z-of_z at c.in-None.ensures.latest in
    none_by c.args.phases.now c.in-Some.second c.args.second c.in-Some.is latest
