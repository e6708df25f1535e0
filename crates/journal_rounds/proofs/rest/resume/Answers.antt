use Rattle.std.proofs.Common.{◌∙◌, ℕ, inr, option_map, refl, sym, subst, Option, arith}
use Rattle.std.proofs.lemmas.Result.{err_from_is_err_and}
use Rattle.dev_traits.specs.Told.{WhereTold}
use Rattle.corr_model.specs.Files.{Files}
use Rattle.piece_plan.specs.Order.{Place}
use Rattle.plan_places.specs.declared.place.Place.{Place as Spot}
use Rattle.plan_places.specs.Places.{place_at}
use Rattle.plan_places.specs.Walk.{AreLeft}
use Rattle.checkpoint_journal.proofs.ToldLemmas.{told_again}
use Rattle.station_stream.specs.Recorded.{AreRecorded}
use Rattle.journal_rounds.specs.Ahead.{IsAhead}
use Rattle.journal_rounds.specs.Extended.{IsSummed}
use Rattle.journal_rounds.specs.Steps.{Begins}
use Rattle.journal_rounds.proofs.AheadLemmas.{ahead-none, left-round, all-round, steps-fall}
use Rattle.journal_rounds.proofs.ExtendLemmas.{goes_kept, goes_on}
use Rattle.journal_rounds.proofs.RefusedLemmas.{refused_later, counts_weaker, counts_since}
use Rattle.journal_rounds.proofs.RoomLemmas.{begins_told, opened-no_place, round-no_place}
use Rattle.journal_rounds.proofs.WalkLemmas.{left-some, left-none, at-some, at-none}
use Rattle.journal_rounds.proofs.rest.resume.Goals as goal

pub round-requires-clause-walk : goal.round-requires-clause-walk
round-requires-clause-walk g c = λ κs lives.
    let ready = c.args.ready.now in
    record {
      of_job = c.requires.part;
      recorded = told_again _ _ (λ (files : Files). AreRecorded files ready.plan.stations ready.recordings.items) c.epochs.invariant.same c.requires.recorded;
      range = c.requires.epoch;
    }

pub round-requires-clause-more : goal.round-requires-clause-more
round-requires-clause-more g c = λ κs lives.
    at-some c.epochs.journal.end.next (left-some c.args.part.now c.args.epoch c.epochs.due _ c.epochs.invariant.left (omega arith))

pub round-requires-clause-ahead : goal.round-requires-clause-ahead
round-requires-clause-ahead g c = λ κs lives.
    let ready = c.args.ready.now in
    let before = c.epochs.invariant in
    subst (λ (told : Option Files). IsAhead told ready c.args.part.now c.args.epoch (option_map place_at c.epochs.journal.end.next) c.epochs.ahead) (sym before.same) before.ahead

pub epochs-init : goal.epochs-init
epochs-init g c =
    let job = c.args.part.now in
    let opened = c.in_ok-journal.ensures in
    let journal = c.in_ok-journal.journal in
    let left = subst (λ (at : Option Spot). AreLeft job c.args.epoch (option_map place_at at) c.left-due.result) c.next_place-first.ensures c.left-due.ensures in
    record {
      same = refl;
      stands = opened.stands;
      ahead = ahead-none (g.F.Shelf.told c.args.shelf.now) c.args.ready.now job c.args.epoch journal.end.next c.next_place-first.result c.next_place-first.ensures opened.place;
      left = left;
      begins = begins_told c.args.id.now job c.args.epoch c.left-due.result journal _ _ opened.changes.read opened.stands.image left;
      ours = opened.ours;
      changes = goes_kept g.D.Disk.seen g.D.Disk.moment g.D.Disk.may_leave (IsSummed (g.F.Shelf.told c.args.shelf.now) c.args.ready.now.plan job c.args.epoch) c.args.id.now job _ _ opened.changes;
      reads = refl;
      counts = opened.counts;
    }

pub epochs-preserved : goal.epochs-preserved
epochs-preserved g c =
    let ready = c.args.ready.now in
    let job = c.args.part.now in
    let before = c.epochs.invariant in
    let after = c.in_ok-next.ensures in
    let journal = c.round.new.journal in
    let count = c.left_behind-due.ensures in
    let less = left-round job c.args.epoch c.epochs.due c.left_behind-due.result _ c.epochs.ahead.summed before.left before.ahead.first count in
    let all = all-round c.epochs.ahead.summed c.epochs.journal.end.kept journal.end.kept c.epochs.due c.left_behind-due.result after.kept count in
    record {
      same = after.same ∙ before.same;
      stands = after.stands;
      ahead = subst (λ (told : Option Files). IsAhead told ready job c.args.epoch (option_map place_at journal.end.next) c.in_ok-next.next) before.same after.ahead;
      left = subst (λ (due : Option Place). AreLeft job c.args.epoch due c.left_behind-due.result) (sym after.place) less;
      begins = subst (λ (n : ℕ). WhereTold (g.D.Disk.seen c.args.disk.now) (Begins c.args.id.now job c.args.epoch n)) (sym all) before.begins;
      ours = before.ours;
      changes = goes_on g.D.Disk.seen g.D.Disk.moment g.D.Disk.may_leave ready.plan c.args.id.now job c.args.epoch _ _ _ _ _ before.stands.named before.stands.plan before.same before.changes after.changes;
      reads = after.reads ∙ before.reads;
      counts = after.journal ∙ before.counts;
    }

pub epochs-smaller : goal.epochs-smaller
epochs-smaller g c =
    steps-fall c.epochs.ahead.summed c.in_ok-next.next.summed c.epochs.ahead.held c.in_ok-next.next.held c.epochs.due c.left_behind-due.result (omega arith) c.left_behind-due.ensures c.in_ok-next.ensures.steps

pub returns-in_err-journal-clause-changes : goal.returns-in_err-journal-clause-changes
returns-in_err-journal-clause-changes g c =
    let ready = c.args.ready.now in
    let job = c.args.part.now in
    goes_kept g.D.Disk.seen g.D.Disk.moment g.D.Disk.may_leave (IsSummed (g.F.Shelf.told c.args.shelf.now) ready.plan job c.args.epoch) c.args.id.now job _ _ c.open.ensures.changes

pub returns-in_err-journal-clause-journal : goal.returns-in_err-journal-clause-journal
returns-in_err-journal-clause-journal g c =
    let p = err_from_is_err_and c.from_residual.result c.from_residual.ensures.1 in
    rw (p.1, p.2) (counts_weaker _ _ _ _ _ (opened-no_place c.args.id.now c.args.part.now c.args.epoch _ _) c.in_err-journal.ensures.counts)

pub returns-in_err-next-clause-changes : goal.returns-in_err-next-clause-changes
returns-in_err-next-clause-changes g c =
    let ready = c.args.ready.now in
    let job = c.args.part.now in
    let before = c.epochs.invariant in
    goes_on g.D.Disk.seen g.D.Disk.moment g.D.Disk.may_leave ready.plan c.args.id.now job c.args.epoch _ _ _ _ _ before.stands.named before.stands.plan before.same before.changes c.round.ensures.changes

pub returns-in_err-next-clause-refused : goal.returns-in_err-next-clause-refused
returns-in_err-next-clause-refused g c =
    let p = err_from_is_err_and c.from_residual-in_err-next.result c.from_residual-in_err-next.ensures.1 in
    rw (p.1, p.2) (refused_later c.args.id.now c.args.part.now _ _ _ c.in_err-next.ensures.stage c.epochs.invariant.ours)

pub returns-in_err-next-clause-spares : goal.returns-in_err-next-clause-spares
returns-in_err-next-clause-spares g c = inr c.epochs.invariant.ours

pub returns-in_err-next-clause-journal : goal.returns-in_err-next-clause-journal
returns-in_err-next-clause-journal g c =
    let ready = c.args.ready.now in
    let job = c.args.part.now in
    let before = c.epochs.invariant in
    let p = err_from_is_err_and c.from_residual-in_err-next.result c.from_residual-in_err-next.ensures.1 in
    let wide = round-no_place (IsSummed (g.F.Shelf.told c.args.shelf.now) ready.plan job c.args.epoch) c.args.id.now job c.args.epoch c.epochs.due c.epochs.journal
    (g.D.Disk.seen c.args.disk.now) (g.D.Disk.seen c.epochs.disk) (g.D.Disk.seen c.round.new.disk) before.stands.named before.stands.plan c.requires.short
    before.begins before.changes.read before.stands.image in
    rw (p.1, p.2) (counts_since _ _ _ _ _ _ before.counts wide c.in_err-next.ensures.journal)

pub returns-clause-spares : goal.returns-clause-spares
returns-clause-spares g c = inr c.epochs.invariant.ours

pub returns-clause-covers : goal.returns-clause-covers
returns-clause-covers g c =
    at-none c.epochs.journal.end.next (left-none c.args.part.now c.args.epoch c.epochs.due _ c.epochs.invariant.left (omega arith))
