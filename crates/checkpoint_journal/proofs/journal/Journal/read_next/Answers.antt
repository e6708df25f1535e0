use Rattle.std.proofs.Common.{◌≡◌, ◌∙◌, ℕ, ◌<◌, List, Option, sym, ap, subst, arith}
use Rattle.dev_traits.specs.Told.{WhereTold}
use Rattle.dev_traits.proofs.ToldLemmas.{WhereTold-weaker}
use Rattle.checkpoint_journal.proofs.ToldLemmas.{told_both}
use Rattle.piece_plan.specs.Epochs.{JobSizes}
use Rattle.checkpoint_journal.specs.Kept.{KeepsMany, ReadsEpoch}
use Rattle.checkpoint_journal.specs.Next.{TellsRead}
use Rattle.checkpoint_journal.specs.Standing.{JournalState, journal_state, Knows, Stands}
use Rattle.checkpoint_journal.proofs.CursorLemmas.{keeps_read, keeps_covered, reads_epoch, stands_read}
use Rattle.checkpoint_journal.proofs.GateLemmas.{stands_looked}
use Rattle.checkpoint_journal.proofs.journal.Journal.read_next.Goals as goal

pub returns-then-self-clause-reads : goal.returns-then-self-clause-reads
returns-then-self-clause-reads g c = λ id stands.
    let job = c.args.plan.now in
    let j = c.args.self.now in
    let here : j.here.kept ≡ c.self.inside.here.kept = ap (λ (s : JournalState). s.here.kept) (sym c.self.view_is) in
    let end : j.end.kept ≡ c.self.inside.end.kept = ap (λ (s : JournalState). s.end.kept) (sym c.self.view_is) in
    let all : j.here.kept ≡ j.end.kept = omega arith in
    WhereTold-weaker (g.D.Disk.seen c.args.disk.now) (Knows id job j) (λ image. KeepsMany id job image j.here.kept) (λ image knows. keeps_read id job j image knows all) stands.image

pub returns-in_default-clause-reads : goal.returns-in_default-clause-reads
returns-in_default-clause-reads g c = λ id stands.
    let job = c.args.plan.now in
    let j = c.args.self.now in
    let none = ap (λ (s : JournalState). s.here.next) (sym c.self.view_is) ∙ c.in_default.is in
    WhereTold-weaker (g.D.Disk.seen c.args.disk.now) (Knows id job j) (λ image. KeepsMany id job image j.here.kept) (λ image knows. keeps_covered id job j image stands.plan knows none) stands.image

-- the journal as it was is what its view tells
stood : (id : List ℕ) (job : JobSizes) (j before : JournalState) (seen : Option (List ℕ)) (images : List ℕ → Type 0) → j ≡ before → Stands id job before seen images → Stands id job j seen images
stood id job j before seen images is stands = subst (λ (s : JournalState). Stands id job s seen images) (sym is) stands

pub returns-in-Ok-clause-reads : goal.returns-in-Ok-clause-reads
returns-in-Ok-clause-reads g c = λ id stands.
    let job = c.args.plan.now in
    let seen = g.D.Disk.seen c.args.disk.now in
    let j = journal_state c.self.inside.first c.self.inside.end c.self.inside.here c.self.inside.failed in
    let now = stood id job j _ seen _ c.self.view_is stands in
    let e = c.in-Ok.read.epoch in
    let gate = c.in-Ok.read.gate in
    let out = c.read_record.new.out in
    let more : j.here.kept < j.end.kept = omega (arith, now.within) in
    let kept : j.here.kept ≡ c.args.self.now.here.kept = ap (λ (s : JournalState). s.here.kept) c.self.view_is in
    subst (λ (n : ℕ). WhereTold seen (λ image. ReadsEpoch id job image n e out)) kept
    (told_both seen (Knows id job j) (λ image. TellsRead job image j.here j.end.gate e gate out) (λ image. ReadsEpoch id job image j.here.kept e out)
    (λ image knows tells. reads_epoch id job j image e gate out more knows tells) now.image c.in-Ok.ensures.told)

pub returns-in-Ok-clause-stands : goal.returns-in-Ok-clause-stands
returns-in-Ok-clause-stands g c = λ id stands.
    let job = c.args.plan.now in
    let j = journal_state c.self.inside.first c.self.inside.end c.self.inside.here c.self.inside.failed in
    let now = stood id job j _ _ _ c.self.view_is stands in
    let more : j.here.kept < j.end.kept = omega (arith, now.within) in
    stands_looked g.D.Disk.seen g.D.Disk.moment g.D.Disk.may_leave id job _ _ _ c.read_record.ensures.looks
    (stands_read id job j _ _ c.in-Ok.read.epoch c.in-Ok.read.gate c.read_record.new.out more c.in-Ok.ensures.past c.in-Ok.ensures.told now)

pub returns-in-Err-clause-stands : goal.returns-in-Err-clause-stands
returns-in-Err-clause-stands g c = λ id stands.
    stands_looked g.D.Disk.seen g.D.Disk.moment g.D.Disk.may_leave id c.args.plan.now _ _ _ c.read_record.ensures.looks (stood id c.args.plan.now _ _ _ _ c.self.view_is stands)
