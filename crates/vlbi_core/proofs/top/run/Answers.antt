use Rattle.std.proofs.Common.{refl, inl, inr, []}
use Rattle.dev_traits.specs.Fault.{HasRisen}
use Rattle.corr_model.specs.Files.{Files}
use Rattle.run_notes.specs.Refusals.{answer_of}
use Rattle.vis_writer.proofs.WritesLemmas.{where_then, where_always}
use Rattle.vlbi_core.specs.Calls.{texts_of, order_in}
use Rattle.vlbi_core.specs.Restart.{IsNoWriter}
use Rattle.vlbi_core.specs.Steps.{OutcomeFrom, IsShort}
use Rattle.vlbi_core.proofs.TopLemmas.{verdict-done, verdict-told, appended-done, appended-refused, read-risen, read-kept, read-no_fall, restarts-told, all-done, headline-done, headline-refused, refusal-not-zero, line-refused, words-line, unnumbered-line, sample-status, noted-nothing, noted-appends, due-nothing, early-nothing, memory-nothing, verdict-fact, other-fact, verdict-not}
use Rattle.vlbi_core.proofs.NoteLemmas.{nothing-other, other-says, refused-says}
use Rattle.vlbi_core.proofs.top.run.Goals as goal

pub returns-in-Ok-clause-verdict : goal.returns-in-Ok-clause-verdict
returns-in-Ok-clause-verdict g c =
    let wanted = order_in (texts_of c.args.words.now) in
    where_then (g.F.Shelf.told c.args.shelf.now) _ _
    (λ files does. verdict-done (OutcomeFrom wanted files) (c.one_task.ensures (texts_of c.args.words.now) files) files g.D.Disk.seen g.D.Disk.moment g.D.Disk.may_leave
    c.args.journal.now c.call.new.journal (g.S.Sink.told c.args.out.now) (g.S.Sink.told c.call.new.out) _ _ _ does.done)
    c.in-Ok.ensures.does

pub returns-in-Err-clause-verdict : goal.returns-in-Err-clause-verdict
returns-in-Err-clause-verdict g c =
    let wanted = order_in (texts_of c.args.words.now) in
    rw c.status.ensures (verdict-told (g.F.Shelf.told c.args.shelf.now) (λ (files : Files). OutcomeFrom wanted files) (c.one_task.ensures (texts_of c.args.words.now))
    (g.D.Disk.may_leave c.call.new.journal (g.D.Disk.moment c.call.new.journal)) (g.D.Disk.seen c.args.journal.now) (g.D.Disk.seen c.call.new.journal)
    (g.S.Sink.told c.args.out.now) (g.S.Sink.told c.call.new.out)
    (HasRisen (g.F.Shelf.faults c.args.shelf.now) (g.F.Shelf.faults c.call.new.shelf)) (HasRisen (g.D.Disk.faults c.args.journal.now) (g.D.Disk.faults c.call.new.journal))
    (HasRisen (g.S.Sink.faults c.args.out.now) (g.S.Sink.faults c.call.new.out)) _ _ _ _ _ c.in-Err.refusal
    (where_then (g.F.Shelf.told c.args.shelf.now) _ _ (λ files does. does.cause) c.in-Err.ensures.does)
    c.in-Err.ensures.reads c.in-Err.ensures.journal c.in-Err.ensures.writes)

pub returns-in-Ok-clause-appended : goal.returns-in-Ok-clause-appended
returns-in-Ok-clause-appended g c =
    where_then (g.F.Shelf.told c.args.shelf.now) _ _
    (λ files does. appended-done (OutcomeFrom (order_in (texts_of c.args.words.now)) files) files g.D.Disk.seen g.D.Disk.moment g.D.Disk.may_leave
    c.args.journal.now c.call.new.journal (g.S.Sink.told c.args.out.now) (g.S.Sink.told c.call.new.out) does.done)
    c.in-Ok.ensures.does

pub returns-in-Err-clause-appended : goal.returns-in-Err-clause-appended
returns-in-Err-clause-appended g c =
    rw c.status.ensures (where_then (g.F.Shelf.told c.args.shelf.now) _ _
    (λ files does. appended-refused (OutcomeFrom (order_in (texts_of c.args.words.now)) files) files (g.D.Disk.seen c.args.journal.now) (g.D.Disk.seen c.call.new.journal)
    (g.S.Sink.told c.args.out.now) (g.S.Sink.told c.call.new.out) c.in-Err.refusal does.part)
    c.in-Err.ensures.does)

pub returns-in-Ok-clause-restart : goal.returns-in-Ok-clause-restart
returns-in-Ok-clause-restart g c =
    let wanted = order_in (texts_of c.args.words.now) in
    restarts-told g.D.Disk.seen g.D.Disk.moment g.D.Disk.may_leave (g.F.Shelf.told c.args.shelf.now) (λ (files : Files). OutcomeFrom wanted files) (c.one_task.ensures (texts_of c.args.words.now))
    c.args.journal.now c.call.new.journal 0
    (where_then (g.F.Shelf.told c.args.shelf.now) _ _ (λ files does. does.goes) c.in-Ok.ensures.does) c.in-Ok.ensures.ranged
    (where_then (g.F.Shelf.told c.args.shelf.now) _ _
    (λ files does. all-done g.D.Disk.seen g.D.Disk.moment g.D.Disk.may_leave (OutcomeFrom wanted files) (c.one_task.ensures (texts_of c.args.words.now) files) files
    c.args.journal.now c.call.new.journal (g.S.Sink.told c.args.out.now) (g.S.Sink.told c.call.new.out) does.done)
    c.in-Ok.ensures.does)

pub returns-in-Err-clause-restart : goal.returns-in-Err-clause-restart
returns-in-Err-clause-restart g c =
    let wanted = order_in (texts_of c.args.words.now) in
    rw c.status.ensures (restarts-told g.D.Disk.seen g.D.Disk.moment g.D.Disk.may_leave (g.F.Shelf.told c.args.shelf.now) (λ (files : Files). OutcomeFrom wanted files) (c.one_task.ensures (texts_of c.args.words.now))
    c.args.journal.now c.call.new.journal (answer_of c.in-Err.refusal).status
    (where_then (g.F.Shelf.told c.args.shelf.now) _ _ (λ files does. does.goes) c.in-Err.ensures.does) c.in-Err.ensures.ranged
    (where_always (g.F.Shelf.told c.args.shelf.now) _ (λ files call there run zero image now. absurd (refusal-not-zero c.in-Err.refusal zero))))

pub returns-in-Ok-clause-headline : goal.returns-in-Ok-clause-headline
returns-in-Ok-clause-headline g c =
    let wanted = order_in (texts_of c.args.words.now) in
    let laws = g.met.D.Disk g.world.𝓛 g.world.𝓜 g.world.𝓡 ((λ s x. x), (λ x. x), (λ x. x), λ x. x) in
    where_then (g.F.Shelf.told c.args.shelf.now) _ _
    (λ files does. headline-done g.D.Disk.seen g.D.Disk.moment g.D.Disk.may_leave (OutcomeFrom wanted files) (c.one_task.ensures (texts_of c.args.words.now) files) files
    c.args.journal.now c.call.new.journal (g.S.Sink.told c.args.out.now) (g.S.Sink.told c.call.new.out) (laws.seen_is_image c.args.journal.now) does.done)
    c.in-Ok.ensures.does

pub returns-in-Err-clause-headline : goal.returns-in-Err-clause-headline
returns-in-Err-clause-headline g c =
    rw c.status.ensures (where_always (g.F.Shelf.told c.args.shelf.now) _
    (λ files. headline-refused g.D.Disk.seen g.D.Disk.moment g.D.Disk.may_leave _ (answer_of c.in-Err.refusal).status (g.D.Disk.seen c.args.journal.now)
    (OutcomeFrom (order_in (texts_of c.args.words.now)) files) _ (refusal-not-zero c.in-Err.refusal)))

pub returns-in-Ok-clause-unopened : goal.returns-in-Ok-clause-unopened
returns-in-Ok-clause-unopened g c = λ is. absurd (verdict-not 0 0 is refl (inr (inl refl)))

pub returns-in-Err-clause-unopened : goal.returns-in-Err-clause-unopened
returns-in-Err-clause-unopened g c = rw c.status.ensures (λ is. verdict-fact c.in-Err.refusal _ _ c.in-Err.ensures.leaves.verdict is)

pub returns-in-Err-clause-left : goal.returns-in-Err-clause-left
returns-in-Err-clause-left g c = rw c.status.ensures (λ is. other-fact c.in-Err.refusal _ _ c.in-Err.ensures.leaves.verdict is)

pub returns-in-Err-clause-nothing : goal.returns-in-Err-clause-nothing
returns-in-Err-clause-nothing g c = rw c.status.ensures (λ is. due-nothing c.in-Err.refusal _ c.in-Err.ensures.leaves.nothing is)

pub returns-in-Err-clause-whole : goal.returns-in-Err-clause-whole
returns-in-Err-clause-whole g c = rw c.status.ensures (λ run is. early-nothing c.in-Err.refusal _ (c.in-Err.ensures.leaves.whole run) is)

pub returns-in-Err-clause-unwritten : goal.returns-in-Err-clause-unwritten
returns-in-Err-clause-unwritten g c = rw c.status.ensures (λ merge is. memory-nothing c.in-Err.refusal _ (c.in-Err.ensures.unwritten merge) is)

pub returns-in-Err-clause-read : goal.returns-in-Err-clause-read
returns-in-Err-clause-read g c = rw c.status.ensures (λ is. read-risen c.in-Err.refusal _ _ _ c.in-Err.ensures.reads is)

pub returns-in-Err-clause-no_read : goal.returns-in-Err-clause-no_read
returns-in-Err-clause-no_read g c =
    rw c.status.ensures (λ not of. read-kept c.in-Err.refusal _ _ _ (IsNoWriter (order_in (texts_of c.args.words.now))) c.in-Err.ensures.reads c.in-Err.ensures.alone not of)

pub returns-in-Err-clause-no_fall : goal.returns-in-Err-clause-no_fall
returns-in-Err-clause-no_fall g c = rw c.status.ensures (λ not. read-no_fall c.in-Err.refusal _ _ c.in-Err.ensures.reads not)

pub returns-in-Ok-clause-goes : goal.returns-in-Ok-clause-goes
returns-in-Ok-clause-goes g c = where_then (g.F.Shelf.told c.args.shelf.now) _ _ (λ files does. does.goes) c.in-Ok.ensures.does

pub returns-in-Err-clause-goes : goal.returns-in-Err-clause-goes
returns-in-Err-clause-goes g c = where_then (g.F.Shelf.told c.args.shelf.now) _ _ (λ files does. does.goes) c.in-Err.ensures.does

pub returns-in-Err-clause-generated : goal.returns-in-Err-clause-generated
returns-in-Err-clause-generated g c = rw c.status.ensures (λ is. sample-status c.in-Err.refusal (c.in-Err.ensures.generated is))

pub returns-in-Ok-clause-note : goal.returns-in-Ok-clause-note
returns-in-Ok-clause-note g c = record {
  line = [];
  some = inl (refl, refl);
  words = λ is. absurd cc;
  unnumbered = λ _ is. absurd cc;
  verdict = where_always (g.F.Shelf.told c.args.shelf.now) _ (λ files. inl (inl (refl, refl)));
  says = where_always (g.F.Shelf.told c.args.shelf.now) _
      (λ files call there. other-says files (g.D.Disk.may_leave c.call.new.journal (g.D.Disk.moment c.call.new.journal)) (g.D.Disk.seen c.args.journal.now) (g.D.Disk.seen c.call.new.journal)
      (g.S.Sink.told c.args.out.now) (g.S.Sink.told c.call.new.out) call [] nothing-other);
  noted = noted-nothing (g.N.Sink.told c.args.notes.now) _;
}

pub returns-in-Err-clause-note : goal.returns-in-Err-clause-note
returns-in-Err-clause-note g c =
    let wanted = order_in (texts_of c.args.words.now) in
    let short : IsShort c.in-Err.refusal = c.is_short.ensures in
    rw c.status.ensures (record {
      line = (answer_of c.in-Err.refusal).note;
      some = inr (c.in-Err.refusal, (refl, refl));
      words = words-line wanted c.in-Err.refusal c.in-Err.ensures.words;
      unnumbered = λ of. unnumbered-line c.in-Err.refusal (c.in-Err.ensures.unnumbered of);
      verdict = where_then (g.F.Shelf.told c.args.shelf.now) _ _
          (λ files does. line-refused (OutcomeFrom wanted files) files (g.D.Disk.may_leave c.call.new.journal (g.D.Disk.moment c.call.new.journal)) (g.D.Disk.seen c.args.journal.now)
          (g.D.Disk.seen c.call.new.journal) (g.S.Sink.told c.args.out.now) (g.S.Sink.told c.call.new.out) c.in-Err.refusal does.cause)
          c.in-Err.ensures.does;
      says = where_then (g.F.Shelf.told c.args.shelf.now) _ _
          (λ files does. refused-says files (g.D.Disk.may_leave c.call.new.journal (g.D.Disk.moment c.call.new.journal)) (g.D.Disk.seen c.args.journal.now) (g.D.Disk.seen c.call.new.journal)
          (g.S.Sink.told c.args.out.now) (g.S.Sink.told c.call.new.out) (OutcomeFrom wanted files) (c.one_task.ensures (texts_of c.args.words.now) files) c.in-Err.refusal short does.cause)
          c.in-Err.ensures.does;
      noted = noted-appends (answer_of c.in-Err.refusal).note _ _ _ _ c.write_note.result c.write_note.ensures;
    })
