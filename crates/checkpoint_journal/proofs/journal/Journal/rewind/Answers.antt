use Rattle.std.proofs.Common.{◌≡◌, Some, sym, subst}
use Rattle.checkpoint_journal.specs.Standing.{JournalState, journal_state, Stands}
use Rattle.checkpoint_journal.proofs.GateLemmas.{stands_rewound}
use Rattle.checkpoint_journal.proofs.journal.Journal.rewind.Goals as goal

pub returns-clause-stands : goal.returns-clause-stands
returns-clause-stands c = λ id job seen stands.
    let j = c.self.inside in
    let before = subst (λ (s : JournalState). Stands id job s seen (λ image. seen ≡ Some image)) (sym c.self.view_is) stands in
    stands_rewound id job (journal_state j.first j.end j.here j.failed) seen (λ image. seen ≡ Some image) c.self.invariant.1 before
