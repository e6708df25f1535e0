use Rattle.std.proofs.lemmas.Result.{err_from_is_err_and}
use Rattle.fringe_search.specs.Certificates.{lines_text}
use Rattle.run_dump.proofs.ShownLemmas.{Shows-refused, Shows-shown}
use Rattle.run_fringe.specs.Searched.{FringeOf}
use Rattle.run_fringe.proofs.SearchedLemmas.{told-fringe, done-fringe}
use Rattle.run_fringe.proofs.search.write_peaks.Goals as goal

pub returns-in_err-vis-clause-shows : goal.returns-in_err-vis-clause-shows
returns-in_err-vis-clause-shows g c =
    let p = err_from_is_err_and c.from_residual.result c.from_residual.ensures.1 in
    let told = g.F.Shelf.told c.args.shelf.now in
    rw (p.1, p.2)
    (Shows-refused told (λ files. FringeOf files c.args.file.now c.args.rates c.args.divide) lines_text (g.S.Sink.told c.args.out.now)
    c.in_err-vis.field-0.0 c.in_err-vis.ensures.stage
    (told-fringe told c.args.file.now c.args.rates c.args.divide c.in_err-vis.field-0.0 c.in_err-vis.ensures.stage c.in_err-vis.ensures.cause))

pub returns-clause-shows : goal.returns-clause-shows
returns-clause-shows g c =
    let told = g.F.Shelf.told c.args.shelf.now in
    let a = c.certify.ensures.appends in
    Shows-shown told (λ files. FringeOf files c.args.file.now c.args.rates c.args.divide) lines_text a.lines
    (g.S.Sink.told c.args.out.now) (g.S.Sink.told c.certify.new.out) (g.S.Sink.faults c.args.out.now) (g.S.Sink.faults c.certify.new.out) c.certify.result
    (done-fringe told c.args.file.now _ c.in_ok-vis.vis a.lines c.in_ok-vis.ensures.content c.in_ok-vis.ensures.small a.is)
    a.appends c.certify.ensures.fault
