use Rattle.std.proofs.Common.{◌≡◌, refl}
use Rattle.std.specs.Prelude.{⊤}
use Rattle.std.proofs.lemmas.Result.{err_from_is_err_and}
use Rattle.dev_traits.specs.Fault.{HasRisen}
use Rattle.vis_records.specs.Dumped.{dump_text}
use Rattle.run_ready.proofs.TellLemmas.{stage-files}
use Rattle.run_dump.specs.Shown.{RecordsOf}
use Rattle.run_dump.proofs.ShownLemmas.{MatchWrite-files, Shows-refused, Shows-shown, nothing-shown, stage-shown, reads-shown, writes-shown}
use Rattle.run_dump.proofs.show.show_records.Goals as goal

pub returns-in_err-vis-clause-shows : goal.returns-in_err-vis-clause-shows
returns-in_err-vis-clause-shows g c =
    let p = err_from_is_err_and c.from_residual.result c.from_residual.ensures.1 in
    rw (p.1, p.2)
    (Shows-refused (g.F.Shelf.told c.args.shelf.now) (λ files. RecordsOf files c.args.file.now) dump_text (g.S.Sink.told c.args.out.now)
    c.in_err-vis.field-0.0 c.in_err-vis.ensures.stage c.in_err-vis.ensures.cause)

pub returns-in_err-vis-clause-nothing : goal.returns-in_err-vis-clause-nothing
returns-in_err-vis-clause-nothing g c =
    let p = err_from_is_err_and c.from_residual.result c.from_residual.ensures.1 in
    let told = g.S.Sink.told c.args.out.now in
    rw (p.1, p.2) (MatchWrite-files c.in_err-vis.field-0.0 ⊤ (told ≡ told) c.in_err-vis.ensures.stage refl)

pub returns-in_err-vis-clause-stage : goal.returns-in_err-vis-clause-stage
returns-in_err-vis-clause-stage g c =
    let p = err_from_is_err_and c.from_residual.result c.from_residual.ensures.1 in
    rw (p.1, p.2) (stage-files c.in_err-vis.field-0.0 c.in_err-vis.ensures.stage)

pub returns-in_err-vis-clause-reads : goal.returns-in_err-vis-clause-reads
returns-in_err-vis-clause-reads g c =
    let p = err_from_is_err_and c.from_residual.result c.from_residual.ensures.1 in
    rw (p.1, p.2) c.in_err-vis.ensures.counts

pub returns-in_err-vis-clause-writes : goal.returns-in_err-vis-clause-writes
returns-in_err-vis-clause-writes g c =
    let p = err_from_is_err_and c.from_residual.result c.from_residual.ensures.1 in
    let faults = g.S.Sink.faults c.args.out.now in
    rw (p.1, p.2)
    (MatchWrite-files c.in_err-vis.field-0.0 (HasRisen faults faults) (faults ≡ faults) c.in_err-vis.ensures.stage refl)

pub returns-clause-shows : goal.returns-clause-shows
returns-clause-shows g c =
    Shows-shown (g.F.Shelf.told c.args.shelf.now) (λ files. RecordsOf files c.args.file.now) dump_text c.in_ok-vis.vis
    (g.S.Sink.told c.args.out.now) (g.S.Sink.told c.show.new.out) (g.S.Sink.faults c.args.out.now) (g.S.Sink.faults c.show.new.out) c.show.result
    c.in_ok-vis.ensures.content c.show.ensures.appends c.show.ensures.fault

pub returns-clause-nothing : goal.returns-clause-nothing
returns-clause-nothing g c = nothing-shown c.show.result (g.S.Sink.told c.show.new.out ≡ g.S.Sink.told c.args.out.now) c.show.ensures.fault

pub returns-clause-stage : goal.returns-clause-stage
returns-clause-stage g c = stage-shown c.show.result c.show.ensures.fault

pub returns-clause-reads : goal.returns-clause-reads
returns-clause-reads g c = reads-shown (g.F.Shelf.faults c.args.shelf.now) (g.F.Shelf.faults c.load_records.new.shelf) c.show.result c.in_ok-vis.ensures.counts c.show.ensures.fault

pub returns-clause-writes : goal.returns-clause-writes
returns-clause-writes g c = writes-shown (g.S.Sink.faults c.args.out.now) (g.S.Sink.faults c.show.new.out) c.show.result c.show.ensures.appends.counts c.show.ensures.fault
