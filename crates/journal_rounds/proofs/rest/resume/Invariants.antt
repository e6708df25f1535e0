use Rattle.std.proofs.Common.{◌≡◌, ◌+◌, option_map}
use Rattle.dev_traits.specs.Told.{WhereTold}
use Rattle.plan_places.specs.Places.{place_at}
use Rattle.plan_places.specs.Walk.{AreLeft}
use Rattle.checkpoint_journal.specs.Runs.{Changes, IsOurs}
use Rattle.checkpoint_journal.specs.Standing.{Stands}
use Rattle.journal_rounds.specs.Ahead.{IsAhead, steps_left}
use Rattle.journal_rounds.specs.Extended.{IsSummed, Extends}
use Rattle.journal_rounds.specs.Steps.{Begins}
use Rattle.journal_rounds.proofs.rest.resume.Given as goal

-- the journal stands, and every image since the call began goes on from one before it
abbrev pub invariant-epochs : goal.invariant-epochs
invariant-epochs g l =
    let id = l.id in
    let job = l.part in
    let told = g.F.Shelf.told in
    let seen = g.D.Disk.seen in
    let moment = g.D.Disk.moment in
    let may_leave = g.D.Disk.may_leave in
    record {
      same : told l.shelf ≡ told l.fn.shelf;
      stands : Stands id job l.journal (seen l.disk) (may_leave l.disk (moment l.disk));
      ahead : IsAhead (told l.fn.shelf) l.ready job l.epoch (option_map place_at l.journal.end.next) l.ahead;
      left : AreLeft job l.epoch (option_map place_at l.journal.end.next) l.due;
      begins : WhereTold (seen l.fn.disk) (Begins id job l.epoch (l.journal.end.kept + l.due));
      ours : WhereTold (seen l.fn.disk) (IsOurs id job);
      changes : Changes seen moment may_leave (Extends (IsSummed (told l.fn.shelf) l.ready.plan job l.epoch) id job) l.fn.disk l.disk;
      reads : g.F.Shelf.faults l.shelf ≡ g.F.Shelf.faults l.fn.shelf;
      counts : g.D.Disk.faults l.disk ≡ g.D.Disk.faults l.fn.disk;
    }

abbrev pub decreases-epochs : goal.decreases-epochs
decreases-epochs g l = steps_left l.due l.ahead
