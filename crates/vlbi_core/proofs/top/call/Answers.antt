use Rattle.std.proofs.Common.{Result, sym, subst}
use Rattle.dev_traits.specs.Told.{WhereTold}
use Rattle.run_words.specs.declared.fault.WordsFault.{WordsFault}
use Rattle.run_words.specs.declared.order.Order.{Order}
use Rattle.vlbi_core.specs.Steps.{OutcomeFrom, IsFullFor, CountsJournalOr}
use Rattle.vlbi_core.proofs.top.call.Goals as goal

pub returns-clause-journal : goal.returns-clause-journal
returns-clause-journal g c =
    subst (λ (wanted : Result Order WordsFault). CountsJournalOr (WhereTold (g.F.Shelf.told c.args.shelf.now) (λ files. IsFullFor (OutcomeFrom wanted files) files
    (g.D.Disk.seen c.args.journal.now) (g.D.Disk.seen c.command.new.journal))) (g.D.Disk.faults c.args.journal.now) (g.D.Disk.faults c.command.new.journal) c.command.result)
    (sym c.in_ok-order.ensures.order) c.command.ensures.journal
