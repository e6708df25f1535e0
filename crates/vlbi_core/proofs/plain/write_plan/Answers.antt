use Rattle.std.proofs.Common.{Result, sym, subst}
use Rattle.dev_traits.specs.Told.{WhereTold}
use Rattle.job_plan.specs.Output.{output}
use Rattle.run_notes.specs.declared.refusal.Refusal.{Refusal}
use Rattle.vis_writer.specs.Writes.{Appended}
use Rattle.vlbi_core.proofs.PlainLemmas.{file-written}
use Rattle.vlbi_core.proofs.plain.write_plan.Goals as goal

pub returns-clause-written : goal.returns-clause-written
returns-clause-written g c =
    subst (λ (r : Result (Unit {0}) Refusal). WhereTold (g.F.Shelf.told c.args.shelf.now)
    (λ files. Appended (g.S.Sink.told c.args.out.now) (output c.args.ready.now.plan files) (g.S.Sink.told c.write_file.new.out) r))
    (sym c.answer.ensures)
    (file-written c.args.ready.now.plan _ _ _ _ _ c.in_ok-head.ensures _ _ _ _ c.write_file.result c.write_file.ensures)
