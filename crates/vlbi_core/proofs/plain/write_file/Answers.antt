use Rattle.std.proofs.Common.{◌≡◌, Err, rules, sym}
use Rattle.vis_writer.proofs.FileLemmas.{file-head, file-records, file-all}
use Rattle.vlbi_core.specs.Shelf.{state}
use Rattle.vlbi_core.proofs.PlainLemmas.{stays-composes, shelf-full}
use Rattle.vlbi_core.proofs.plain.write_file.Goals as goal

pub returns-in_err-sunk : goal.returns-in_err-sunk
returns-in_err-sunk g c =
    let failed : c.from_residual.result ≡ Err c.in_err-sunk.field-0.0 = search rules in
    file-head _ _ _ _ stays-composes c.args.head.now (state (g.F.Shelf.told c.args.shelf.now) (g.F.Shelf.faults c.args.shelf.now)) (sym c.requires.head)
    (shelf-full c.args.ready.now.plan (g.F.Shelf.told c.args.shelf.now) (g.F.Shelf.faults c.args.shelf.now))
    c.write_head.result _ _ _ _ c.write_head.ensures c.in_err-sunk.ensures failed

pub returns-in_err-write_scans : goal.returns-in_err-write_scans
returns-in_err-write_scans g c =
    let failed : c.from_residual-in_err-write_scans.result ≡ Err c.in_err-write_scans.field-0.0 = search rules in
    file-records _ _ _ _ stays-composes c.args.head.now (state (g.F.Shelf.told c.args.shelf.now) (g.F.Shelf.faults c.args.shelf.now)) (sym c.requires.head)
    (shelf-full c.args.ready.now.plan (g.F.Shelf.told c.args.shelf.now) (g.F.Shelf.faults c.args.shelf.now))
    c.write_head.result _ _ _ _ _ _ _ c.write_head.ensures c.in_ok-sunk.ensures c.in_err-write_scans.ensures failed

pub returns : goal.returns
returns g c =
    file-all _ _ _ _ stays-composes c.args.head.now (state (g.F.Shelf.told c.args.shelf.now) (g.F.Shelf.faults c.args.shelf.now)) (sym c.requires.head)
    (shelf-full c.args.ready.now.plan (g.F.Shelf.told c.args.shelf.now) (g.F.Shelf.faults c.args.shelf.now))
    c.write_head.result c.write_end.result _ _ _ _ _ _ _ _ _ _ c.write_head.ensures c.in_ok-sunk.ensures c.in_ok-write_scans.ensures
    c.record_count.ensures c.write_end.ensures c.sunk-2.ensures
