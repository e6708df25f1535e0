use Rattle.std.proofs.Common.{◌++◌, ◌∷◌, []}
use Rattle.job_lines.proofs.SecondLemmas.{chosen}
use Rattle.job_text.proofs.EntryLemmas.{free-differs}
use Rattle.job_text.proofs.entries.add_entry.Goals as goal

pub returns-clause-added : goal.returns-clause-added
returns-clause-added g c =
    let all = free-differs g.E.HasSecond.second_of c.args.entries.now (g.E.HasSecond.second_of c.args.entry) c.requires in
    chosen c.in_ok-_added._added c.add.new.self (c.args.entries.now ++ c.args.entry ∷ []) c.args.entries.now (c.in_ok-_added.ensures.answer.1 all) c.in_ok-_added.ensures.after
