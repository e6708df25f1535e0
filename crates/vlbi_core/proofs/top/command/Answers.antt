use Rattle.std.specs.Prelude.{option_copied, unwrap_or, None}
use Rattle.std.proofs.Common.{◌≡◌, inl, Ok, sym, subst, refl, true, false}
use Rattle.dev_traits.specs.Told.{WhereTold}
use Rattle.corr_model.specs.Files.{Files}
use Rattle.checkpoint_journal.proofs.RunLemmas.{looks_none}
use Rattle.job_plan.specs.declared.plan.Plan.{Plan}
use Rattle.job_plan.specs.Output.{output}
use Rattle.vis_records.specs.Dumped.{dump_text}
use Rattle.run_summary.specs.Summaries.{check_text}
use Rattle.run_dump.specs.Shown.{RecordsOf}
use Rattle.run_words.specs.declared.order.Order.{Order}
use Rattle.run_words.specs.Orders.{IsOrder}
use Rattle.run_words.specs.declared.order.Order.TheVariants.{Run, Plain, Check, Status, Bins, Shard, Merge as MergeOrder}
use Rattle.run_ready.specs.Outcome.{PlanOf}
use Rattle.sample_job.specs.Sample.{SampleOf}
use Rattle.vis_writer.proofs.WritesLemmas.{where_always}
use Rattle.fringe_search.specs.Certificates.{lines_text}
use Rattle.run_fringe.specs.Searched.{FringeOf, VerifyOf, right_text}
use Rattle.run_bins.specs.Texts.{BinPlan, bin_output}
use Rattle.run_bins.specs.Outcome.{BinsOf}
use Rattle.run_merge.specs.Outcome.{Merge, MergeOf, merged_text}
use Rattle.vlbi_core.specs.Calls.{is_writer}
use Rattle.vlbi_core.specs.Restart.{IsGenOf, IsMergeOf}
use Rattle.vlbi_core.specs.Sample.{sample_text}
use Rattle.vlbi_core.specs.Steps.{OutcomeFrom, IsFullFor, CountsJournalOr, GoesRanged, Does, Leaves}
use Rattle.vlbi_core.proofs.CommandLemmas.{reads-beside, not_both, files-unnumbered, verdict-due, does-text, does-shown, leaves-tells}
use Rattle.vlbi_core.proofs.TopLemmas.{journal-or, files-journal}
use Rattle.vlbi_core.proofs.SampleLemmas.{of-files, reads-same}
use Rattle.vlbi_core.proofs.top.command.Goals as goal

pub returns-in-Run-clause-does : goal.returns-in-Run-clause-does
returns-in-Run-clause-does g c =
    let same : c.args.order.now ≡ Run c.in-Run.job (option_copied c.as_ref.result) c.in-Run.epoch c.in-Run.workers c.in-Run.piece = cc in
    subst (λ (o : Order). WhereTold (g.F.Shelf.told c.args.shelf.now) (λ files. Does (Ok o) files g.D.Disk.seen g.D.Disk.moment g.D.Disk.may_leave c.args.journal.now c.correlate_job.new.journal
    (g.S.Sink.told c.args.out.now) (g.S.Sink.told c.correlate_job.new.out) c.correlate_job.result)) (sym same) c.correlate_job.ensures.does

pub returns-in-Shard-clause-does : goal.returns-in-Shard-clause-does
returns-in-Shard-clause-does g c =
    let same : c.args.order.now ≡ Shard c.in-Shard.job (option_copied c.as_ref-in-Shard.result) c.in-Shard.epoch c.in-Shard.workers c.in-Shard.piece c.in-Shard.from c.in-Shard.to = cc in
    subst (λ (o : Order). WhereTold (g.F.Shelf.told c.args.shelf.now) (λ files. Does (Ok o) files g.D.Disk.seen g.D.Disk.moment g.D.Disk.may_leave c.args.journal.now c.shard_job.new.journal
    (g.S.Sink.told c.args.out.now) (g.S.Sink.told c.shard_job.new.out) c.shard_job.result)) (sym same) c.shard_job.ensures.does

pub returns-in-Run-clause-leaves : goal.returns-in-Run-clause-leaves
returns-in-Run-clause-leaves g c =
    let same : c.args.order.now ≡ Run c.in-Run.job (option_copied c.as_ref.result) c.in-Run.epoch c.in-Run.workers c.in-Run.piece = cc in
    subst (λ (o : Order). Leaves (Ok o) g.D.Disk.seen g.D.Disk.moment g.D.Disk.may_leave c.args.journal.now c.correlate_job.new.journal
    (g.S.Sink.told c.args.out.now) (g.S.Sink.told c.correlate_job.new.out) c.correlate_job.result) (sym same) c.correlate_job.ensures.leaves

pub returns-in-Shard-clause-leaves : goal.returns-in-Shard-clause-leaves
returns-in-Shard-clause-leaves g c =
    let same : c.args.order.now ≡ Shard c.in-Shard.job (option_copied c.as_ref-in-Shard.result) c.in-Shard.epoch c.in-Shard.workers c.in-Shard.piece c.in-Shard.from c.in-Shard.to = cc in
    subst (λ (o : Order). Leaves (Ok o) g.D.Disk.seen g.D.Disk.moment g.D.Disk.may_leave c.args.journal.now c.shard_job.new.journal
    (g.S.Sink.told c.args.out.now) (g.S.Sink.told c.shard_job.new.out) c.shard_job.result) (sym same) c.shard_job.ensures.leaves

pub returns-in-Status-clause-does : goal.returns-in-Status-clause-does
returns-in-Status-clause-does g c =
    let same : c.args.order.now ≡ Status c.in-Status.job (option_copied c.as_ref-in-Status.result) c.in-Status.epoch = cc in
    subst (λ (o : Order). WhereTold (g.F.Shelf.told c.args.shelf.now) (λ files. Does (Ok o) files g.D.Disk.seen g.D.Disk.moment g.D.Disk.may_leave c.args.journal.now c.journal_status.new.journal
    (g.S.Sink.told c.args.out.now) (g.S.Sink.told c.journal_status.new.out) c.journal_status.result)) (sym same) c.journal_status.ensures.does

pub returns-in-Status-clause-leaves : goal.returns-in-Status-clause-leaves
returns-in-Status-clause-leaves g c =
    let same : c.args.order.now ≡ Status c.in-Status.job (option_copied c.as_ref-in-Status.result) c.in-Status.epoch = cc in
    subst (λ (o : Order). Leaves (Ok o) g.D.Disk.seen g.D.Disk.moment g.D.Disk.may_leave c.args.journal.now c.journal_status.new.journal
    (g.S.Sink.told c.args.out.now) (g.S.Sink.told c.journal_status.new.out) c.journal_status.result) (sym same) c.journal_status.ensures.leaves

pub returns-in-Check-clause-does : goal.returns-in-Check-clause-does
returns-in-Check-clause-does g c =
    let same : c.args.order.now ≡ Check c.in-Check.job (option_copied c.as_ref-in-Check.result) c.in-Check.epoch = cc in
    does-text g.D.Disk.seen g.D.Disk.moment g.D.Disk.may_leave (g.F.Shelf.told c.args.shelf.now) c.args.order.now _
    (λ (files : Files). PlanOf files c.in-Check.job (option_copied c.as_ref-in-Check.result) c.in-Check.epoch) (λ (files : Files) (plan : Plan). check_text plan (unwrap_or c.in-Check.epoch plan.epoch) files) same (λ files o p. p)
    c.args.journal.now (g.S.Sink.told c.args.out.now) (g.S.Sink.told c.check_job.new.out) c.check_job.result c.check_job.ensures.stage c.check_job.ensures.tells

pub returns-in-Plain-clause-does : goal.returns-in-Plain-clause-does
returns-in-Plain-clause-does g c =
    let same : c.args.order.now ≡ Plain c.in-Plain.job (option_copied c.as_ref-in-Plain.result) = cc in
    does-text g.D.Disk.seen g.D.Disk.moment g.D.Disk.may_leave (g.F.Shelf.told c.args.shelf.now) c.args.order.now _
    (λ (files : Files). PlanOf files c.in-Plain.job (option_copied c.as_ref-in-Plain.result) None) (λ (files : Files) (plan : Plan). output plan files) same (λ files o p. p)
    c.args.journal.now (g.S.Sink.told c.args.out.now) (g.S.Sink.told c.plain_job.new.out) c.plain_job.result c.plain_job.ensures.stage c.plain_job.ensures.tells

pub returns-in-Dump-clause-does : goal.returns-in-Dump-clause-does
returns-in-Dump-clause-does g c =
    does-shown g.D.Disk.seen g.D.Disk.moment g.D.Disk.may_leave (g.F.Shelf.told c.args.shelf.now) c.args.order.now _
    (λ (files : Files). RecordsOf files c.in-Dump.file) dump_text c.in-Dump.is (λ files o p. p)
    c.args.journal.now (g.S.Sink.told c.args.out.now) (g.S.Sink.told c.show_records.new.out) c.show_records.result c.show_records.ensures.stage c.show_records.ensures.shows

pub returns-in-Fringe-clause-does : goal.returns-in-Fringe-clause-does
returns-in-Fringe-clause-does g c =
    does-shown g.D.Disk.seen g.D.Disk.moment g.D.Disk.may_leave (g.F.Shelf.told c.args.shelf.now) c.args.order.now _
    (λ (files : Files). FringeOf files c.in-Fringe.file c.in-Fringe.rates c.in-Fringe.divide) lines_text c.in-Fringe.is (λ files o p. p)
    c.args.journal.now (g.S.Sink.told c.args.out.now) (g.S.Sink.told c.write_peaks.new.out) c.write_peaks.result c.write_peaks.ensures.stage c.write_peaks.ensures.shows

pub returns-in-Verify-clause-does : goal.returns-in-Verify-clause-does
returns-in-Verify-clause-does g c =
    does-shown g.D.Disk.seen g.D.Disk.moment g.D.Disk.may_leave (g.F.Shelf.told c.args.shelf.now) c.args.order.now _
    (λ (files : Files). VerifyOf files c.in-Verify.file c.in-Verify.certificate) right_text c.in-Verify.is (λ files o p. p)
    c.args.journal.now (g.S.Sink.told c.args.out.now) (g.S.Sink.told c.verify_peaks.new.out) c.verify_peaks.result c.verify_peaks.ensures.stage c.verify_peaks.ensures.shows

pub returns-in-Gen-clause-does : goal.returns-in-Gen-clause-does
returns-in-Gen-clause-does g c =
    does-text g.D.Disk.seen g.D.Disk.moment g.D.Disk.may_leave (g.F.Shelf.told c.args.shelf.now) c.args.order.now _
    (λ (files : Files). SampleOf c.in-Gen.seed c.in-Gen.seconds) (λ (files : Files). sample_text c.in-Gen.seed c.in-Gen.seconds) c.in-Gen.is (λ files o p. p)
    c.args.journal.now (g.S.Sink.told c.args.out.now) (g.S.Sink.told c.total_sample.new.out) c.total_sample.result (of-files c.total_sample.result c.total_sample.ensures.stage)
    (where_always (g.F.Shelf.told c.args.shelf.now) _ (λ files. c.total_sample.ensures.tells))

pub returns-in-Plain-clause-reads : goal.returns-in-Plain-clause-reads
returns-in-Plain-clause-reads g c = reads-beside _ _ c.plain_job.result c.plain_job.ensures.reads

pub returns-in-Check-clause-reads : goal.returns-in-Check-clause-reads
returns-in-Check-clause-reads g c = reads-beside _ _ c.check_job.result c.check_job.ensures.reads

pub returns-in-Status-clause-reads : goal.returns-in-Status-clause-reads
returns-in-Status-clause-reads g c = reads-beside _ _ c.journal_status.result c.journal_status.ensures.reads

pub returns-in-Dump-clause-reads : goal.returns-in-Dump-clause-reads
returns-in-Dump-clause-reads g c = reads-beside _ _ c.show_records.result c.show_records.ensures.reads

pub returns-in-Gen-clause-reads : goal.returns-in-Gen-clause-reads
returns-in-Gen-clause-reads g c = reads-beside _ _ c.total_sample.result (reads-same _ c.total_sample.result c.total_sample.ensures.stage)

pub returns-in-Run-clause-alone : goal.returns-in-Run-clause-alone
returns-in-Run-clause-alone g c = λ alone. absurd (not_both true refl (subst (λ (o : Order). is_writer o ≡ false) c.in-Run.is alone))

pub returns-in-Shard-clause-alone : goal.returns-in-Shard-clause-alone
returns-in-Shard-clause-alone g c = λ alone. absurd (not_both true refl (subst (λ (o : Order). is_writer o ≡ false) c.in-Shard.is alone))

pub returns-in-Gen-clause-alone : goal.returns-in-Gen-clause-alone
returns-in-Gen-clause-alone g c = λ alone. reads-same _ c.total_sample.result c.total_sample.ensures.stage

pub returns-in-Run-clause-unnumbered : goal.returns-in-Run-clause-unnumbered
returns-in-Run-clause-unnumbered g c = λ alone. absurd (not_both true refl (subst (λ (o : Order). is_writer o ≡ false) c.in-Run.is alone))

pub returns-in-Shard-clause-unnumbered : goal.returns-in-Shard-clause-unnumbered
returns-in-Shard-clause-unnumbered g c = λ alone. absurd (not_both true refl (subst (λ (o : Order). is_writer o ≡ false) c.in-Shard.is alone))

pub returns-in-Plain-clause-unnumbered : goal.returns-in-Plain-clause-unnumbered
returns-in-Plain-clause-unnumbered g c = λ alone. files-unnumbered c.plain_job.result c.plain_job.ensures.stage

pub returns-in-Check-clause-unnumbered : goal.returns-in-Check-clause-unnumbered
returns-in-Check-clause-unnumbered g c = λ alone. files-unnumbered c.check_job.result c.check_job.ensures.stage

pub returns-in-Dump-clause-unnumbered : goal.returns-in-Dump-clause-unnumbered
returns-in-Dump-clause-unnumbered g c = λ alone. files-unnumbered c.show_records.result c.show_records.ensures.stage

pub returns-in-Gen-clause-unnumbered : goal.returns-in-Gen-clause-unnumbered
returns-in-Gen-clause-unnumbered g c = λ alone. files-unnumbered c.total_sample.result (of-files c.total_sample.result c.total_sample.ensures.stage)

pub returns-in-Run-clause-generated : goal.returns-in-Run-clause-generated
returns-in-Run-clause-generated g c = λ is. absurd (subst (λ (o : Order). IsGenOf (Ok o)) c.in-Run.is is)

pub returns-in-Shard-clause-generated : goal.returns-in-Shard-clause-generated
returns-in-Shard-clause-generated g c = λ is. absurd (subst (λ (o : Order). IsGenOf (Ok o)) c.in-Shard.is is)

pub returns-in-Plain-clause-generated : goal.returns-in-Plain-clause-generated
returns-in-Plain-clause-generated g c = λ is. absurd (subst (λ (o : Order). IsGenOf (Ok o)) c.in-Plain.is is)

pub returns-in-Check-clause-generated : goal.returns-in-Check-clause-generated
returns-in-Check-clause-generated g c = λ is. absurd (subst (λ (o : Order). IsGenOf (Ok o)) c.in-Check.is is)

pub returns-in-Status-clause-generated : goal.returns-in-Status-clause-generated
returns-in-Status-clause-generated g c = λ is. absurd (subst (λ (o : Order). IsGenOf (Ok o)) c.in-Status.is is)

pub returns-in-Dump-clause-generated : goal.returns-in-Dump-clause-generated
returns-in-Dump-clause-generated g c = λ is. absurd (subst (λ (o : Order). IsGenOf (Ok o)) c.in-Dump.is is)

pub returns-in-Fringe-clause-reads : goal.returns-in-Fringe-clause-reads
returns-in-Fringe-clause-reads g c = reads-beside _ _ c.write_peaks.result c.write_peaks.ensures.reads

pub returns-in-Fringe-clause-unnumbered : goal.returns-in-Fringe-clause-unnumbered
returns-in-Fringe-clause-unnumbered g c = λ alone. files-unnumbered c.write_peaks.result c.write_peaks.ensures.stage

pub returns-in-Fringe-clause-generated : goal.returns-in-Fringe-clause-generated
returns-in-Fringe-clause-generated g c = λ is. absurd (subst (λ (o : Order). IsGenOf (Ok o)) c.in-Fringe.is is)

pub returns-in-Verify-clause-reads : goal.returns-in-Verify-clause-reads
returns-in-Verify-clause-reads g c = reads-beside _ _ c.verify_peaks.result c.verify_peaks.ensures.reads

pub returns-in-Verify-clause-unnumbered : goal.returns-in-Verify-clause-unnumbered
returns-in-Verify-clause-unnumbered g c = λ alone. files-unnumbered c.verify_peaks.result c.verify_peaks.ensures.stage

pub returns-in-Verify-clause-generated : goal.returns-in-Verify-clause-generated
returns-in-Verify-clause-generated g c = λ is. absurd (subst (λ (o : Order). IsGenOf (Ok o)) c.in-Verify.is is)

pub returns-in-Bins-clause-does : goal.returns-in-Bins-clause-does
returns-in-Bins-clause-does g c =
    let same : c.args.order.now ≡ Bins c.in-Bins.job (option_copied c.as_ref-in-Bins.result) c.in-Bins.phase c.in-Bins.workers c.in-Bins.piece = cc in
    does-text g.D.Disk.seen g.D.Disk.moment g.D.Disk.may_leave (g.F.Shelf.told c.args.shelf.now) c.args.order.now _
    (λ (files : Files). BinsOf files c.in-Bins.job (option_copied c.as_ref-in-Bins.result) c.in-Bins.phase) (λ (files : Files) (x : BinPlan). bin_output x files) same (λ files o p. p)
    c.args.journal.now (g.S.Sink.told c.args.out.now) (g.S.Sink.told c.write_bins.new.out) c.write_bins.result c.write_bins.ensures.stage c.write_bins.ensures.tells

pub returns-in-Bins-clause-leaves : goal.returns-in-Bins-clause-leaves
returns-in-Bins-clause-leaves g c =
    leaves-tells g.D.Disk.seen g.D.Disk.moment g.D.Disk.may_leave c.args.order.now c.args.journal.now (g.S.Sink.told c.args.out.now) (g.S.Sink.told c.write_bins.new.out) c.write_bins.result
    (subst (λ (o : Order). is_writer o ≡ false) (sym c.in-Bins.is) refl)
    (verdict-due (g.S.Sink.told c.args.out.now) (g.S.Sink.told c.write_bins.new.out) c.write_bins.result c.write_bins.ensures.stage c.write_bins.ensures.nothing)

pub returns-in-Bins-clause-reads : goal.returns-in-Bins-clause-reads
returns-in-Bins-clause-reads g c = reads-beside _ _ c.write_bins.result c.write_bins.ensures.reads

pub returns-in-Bins-clause-unnumbered : goal.returns-in-Bins-clause-unnumbered
returns-in-Bins-clause-unnumbered g c = λ alone. files-unnumbered c.write_bins.result c.write_bins.ensures.stage

pub returns-in-Bins-clause-generated : goal.returns-in-Bins-clause-generated
returns-in-Bins-clause-generated g c = λ is. absurd (subst (λ (o : Order). IsGenOf (Ok o)) c.in-Bins.is is)

pub returns-in-Run-clause-ranged : goal.returns-in-Run-clause-ranged
returns-in-Run-clause-ranged g c =
    let same : c.args.order.now ≡ Run c.in-Run.job (option_copied c.as_ref.result) c.in-Run.epoch c.in-Run.workers c.in-Run.piece = cc in
    subst (λ (o : Order). WhereTold (g.F.Shelf.told c.args.shelf.now) (λ files. GoesRanged (OutcomeFrom (Ok o) files) g.D.Disk.seen g.D.Disk.moment g.D.Disk.may_leave
    c.args.journal.now c.correlate_job.new.journal)) (sym same) c.correlate_job.ensures.ranged

pub returns-in-Shard-clause-ranged : goal.returns-in-Shard-clause-ranged
returns-in-Shard-clause-ranged g c =
    let same : c.args.order.now ≡ Shard c.in-Shard.job (option_copied c.as_ref-in-Shard.result) c.in-Shard.epoch c.in-Shard.workers c.in-Shard.piece c.in-Shard.from c.in-Shard.to = cc in
    subst (λ (o : Order). WhereTold (g.F.Shelf.told c.args.shelf.now) (λ files. GoesRanged (OutcomeFrom (Ok o) files) g.D.Disk.seen g.D.Disk.moment g.D.Disk.may_leave
    c.args.journal.now c.shard_job.new.journal)) (sym same) c.shard_job.ensures.ranged

pub returns-in-Run-clause-journal : goal.returns-in-Run-clause-journal
returns-in-Run-clause-journal g c =
    let same : c.args.order.now ≡ Run c.in-Run.job (option_copied c.as_ref.result) c.in-Run.epoch c.in-Run.workers c.in-Run.piece = cc in
    subst (λ (o : Order). CountsJournalOr (WhereTold (g.F.Shelf.told c.args.shelf.now) (λ files. IsFullFor (OutcomeFrom (Ok o) files) files (g.D.Disk.seen c.args.journal.now)
    (g.D.Disk.seen c.correlate_job.new.journal))) (g.D.Disk.faults c.args.journal.now) (g.D.Disk.faults c.correlate_job.new.journal) c.correlate_job.result) (sym same) c.correlate_job.ensures.journal

pub returns-in-Shard-clause-journal : goal.returns-in-Shard-clause-journal
returns-in-Shard-clause-journal g c =
    let same : c.args.order.now ≡ Shard c.in-Shard.job (option_copied c.as_ref-in-Shard.result) c.in-Shard.epoch c.in-Shard.workers c.in-Shard.piece c.in-Shard.from c.in-Shard.to = cc in
    subst (λ (o : Order). CountsJournalOr (WhereTold (g.F.Shelf.told c.args.shelf.now) (λ files. IsFullFor (OutcomeFrom (Ok o) files) files (g.D.Disk.seen c.args.journal.now)
    (g.D.Disk.seen c.shard_job.new.journal))) (g.D.Disk.faults c.args.journal.now) (g.D.Disk.faults c.shard_job.new.journal) c.shard_job.result) (sym same) c.shard_job.ensures.journal

pub returns-in-Run-clause-journal_alone : goal.returns-in-Run-clause-journal_alone
returns-in-Run-clause-journal_alone g c = λ alone. absurd (not_both true refl (subst (λ (o : Order). is_writer o ≡ false) c.in-Run.is alone))

pub returns-in-Shard-clause-journal_alone : goal.returns-in-Shard-clause-journal_alone
returns-in-Shard-clause-journal_alone g c = λ alone. absurd (not_both true refl (subst (λ (o : Order). is_writer o ≡ false) c.in-Shard.is alone))

pub returns-in-Status-clause-ranged : goal.returns-in-Status-clause-ranged
returns-in-Status-clause-ranged g c = where_always (g.F.Shelf.told c.args.shelf.now) _ (λ files. inl (c.journal_status.ensures.leaves.untouched refl))

pub returns-in-Status-clause-journal : goal.returns-in-Status-clause-journal
returns-in-Status-clause-journal g c = journal-or _ _ _ c.journal_status.result c.journal_status.ensures.journal

pub returns-in-Plain-clause-ranged : goal.returns-in-Plain-clause-ranged
returns-in-Plain-clause-ranged g c = where_always (g.F.Shelf.told c.args.shelf.now) _ (λ files. inl (looks_none g.D.Disk.seen g.D.Disk.moment g.D.Disk.may_leave c.args.journal.now))

pub returns-in-Plain-clause-journal : goal.returns-in-Plain-clause-journal
returns-in-Plain-clause-journal g c = journal-or _ _ _ c.plain_job.result (files-journal _ c.plain_job.result c.plain_job.ensures.stage)

pub returns-in-Plain-clause-journal_alone : goal.returns-in-Plain-clause-journal_alone
returns-in-Plain-clause-journal_alone g c = λ alone. files-journal _ c.plain_job.result c.plain_job.ensures.stage

pub returns-in-Check-clause-ranged : goal.returns-in-Check-clause-ranged
returns-in-Check-clause-ranged g c = where_always (g.F.Shelf.told c.args.shelf.now) _ (λ files. inl (looks_none g.D.Disk.seen g.D.Disk.moment g.D.Disk.may_leave c.args.journal.now))

pub returns-in-Check-clause-journal : goal.returns-in-Check-clause-journal
returns-in-Check-clause-journal g c = journal-or _ _ _ c.check_job.result (files-journal _ c.check_job.result c.check_job.ensures.stage)

pub returns-in-Check-clause-journal_alone : goal.returns-in-Check-clause-journal_alone
returns-in-Check-clause-journal_alone g c = λ alone. files-journal _ c.check_job.result c.check_job.ensures.stage

pub returns-in-Dump-clause-ranged : goal.returns-in-Dump-clause-ranged
returns-in-Dump-clause-ranged g c = where_always (g.F.Shelf.told c.args.shelf.now) _ (λ files. inl (looks_none g.D.Disk.seen g.D.Disk.moment g.D.Disk.may_leave c.args.journal.now))

pub returns-in-Dump-clause-journal : goal.returns-in-Dump-clause-journal
returns-in-Dump-clause-journal g c = journal-or _ _ _ c.show_records.result (files-journal _ c.show_records.result c.show_records.ensures.stage)

pub returns-in-Dump-clause-journal_alone : goal.returns-in-Dump-clause-journal_alone
returns-in-Dump-clause-journal_alone g c = λ alone. files-journal _ c.show_records.result c.show_records.ensures.stage

pub returns-in-Gen-clause-ranged : goal.returns-in-Gen-clause-ranged
returns-in-Gen-clause-ranged g c = where_always (g.F.Shelf.told c.args.shelf.now) _ (λ files. inl (looks_none g.D.Disk.seen g.D.Disk.moment g.D.Disk.may_leave c.args.journal.now))

pub returns-in-Gen-clause-journal : goal.returns-in-Gen-clause-journal
returns-in-Gen-clause-journal g c = journal-or _ _ _ c.total_sample.result (files-journal _ c.total_sample.result (of-files c.total_sample.result c.total_sample.ensures.stage))

pub returns-in-Gen-clause-journal_alone : goal.returns-in-Gen-clause-journal_alone
returns-in-Gen-clause-journal_alone g c = λ alone. files-journal _ c.total_sample.result (of-files c.total_sample.result c.total_sample.ensures.stage)

pub returns-in-Fringe-clause-ranged : goal.returns-in-Fringe-clause-ranged
returns-in-Fringe-clause-ranged g c = where_always (g.F.Shelf.told c.args.shelf.now) _ (λ files. inl (looks_none g.D.Disk.seen g.D.Disk.moment g.D.Disk.may_leave c.args.journal.now))

pub returns-in-Fringe-clause-journal : goal.returns-in-Fringe-clause-journal
returns-in-Fringe-clause-journal g c = journal-or _ _ _ c.write_peaks.result (files-journal _ c.write_peaks.result c.write_peaks.ensures.stage)

pub returns-in-Fringe-clause-journal_alone : goal.returns-in-Fringe-clause-journal_alone
returns-in-Fringe-clause-journal_alone g c = λ alone. files-journal _ c.write_peaks.result c.write_peaks.ensures.stage

pub returns-in-Verify-clause-ranged : goal.returns-in-Verify-clause-ranged
returns-in-Verify-clause-ranged g c = where_always (g.F.Shelf.told c.args.shelf.now) _ (λ files. inl (looks_none g.D.Disk.seen g.D.Disk.moment g.D.Disk.may_leave c.args.journal.now))

pub returns-in-Verify-clause-journal : goal.returns-in-Verify-clause-journal
returns-in-Verify-clause-journal g c = journal-or _ _ _ c.verify_peaks.result (files-journal _ c.verify_peaks.result c.verify_peaks.ensures.stage)

pub returns-in-Verify-clause-journal_alone : goal.returns-in-Verify-clause-journal_alone
returns-in-Verify-clause-journal_alone g c = λ alone. files-journal _ c.verify_peaks.result c.verify_peaks.ensures.stage

pub returns-in-Bins-clause-ranged : goal.returns-in-Bins-clause-ranged
returns-in-Bins-clause-ranged g c = where_always (g.F.Shelf.told c.args.shelf.now) _ (λ files. inl (looks_none g.D.Disk.seen g.D.Disk.moment g.D.Disk.may_leave c.args.journal.now))

pub returns-in-Bins-clause-journal : goal.returns-in-Bins-clause-journal
returns-in-Bins-clause-journal g c = journal-or _ _ _ c.write_bins.result (files-journal _ c.write_bins.result c.write_bins.ensures.stage)

pub returns-in-Bins-clause-journal_alone : goal.returns-in-Bins-clause-journal_alone
returns-in-Bins-clause-journal_alone g c = λ alone. files-journal _ c.write_bins.result c.write_bins.ensures.stage

pub write_merge-requires-clause-file_texts : goal.write_merge-requires-clause-file_texts
write_merge-requires-clause-file_texts g c = (subst IsOrder c.in-Merge.is c.requires).1

pub returns-in-Merge-clause-does : goal.returns-in-Merge-clause-does
returns-in-Merge-clause-does g c =
    let same : c.args.order.now ≡ MergeOrder c.in-Merge.job (option_copied c.as_ref-in-Merge.result) c.in-Merge.files = cc in
    does-text g.D.Disk.seen g.D.Disk.moment g.D.Disk.may_leave (g.F.Shelf.told c.args.shelf.now) c.args.order.now _
    (λ (files : Files). MergeOf files c.in-Merge.job (option_copied c.as_ref-in-Merge.result) c.in-Merge.files) (λ (files : Files) (x : Merge). merged_text x) same (λ files o p. p)
    c.args.journal.now (g.S.Sink.told c.args.out.now) (g.S.Sink.told c.write_merge.new.out) c.write_merge.result c.write_merge.ensures.stage c.write_merge.ensures.tells

pub returns-in-Merge-clause-leaves : goal.returns-in-Merge-clause-leaves
returns-in-Merge-clause-leaves g c =
    leaves-tells g.D.Disk.seen g.D.Disk.moment g.D.Disk.may_leave c.args.order.now c.args.journal.now (g.S.Sink.told c.args.out.now) (g.S.Sink.told c.write_merge.new.out) c.write_merge.result
    (subst (λ (o : Order). is_writer o ≡ false) (sym c.in-Merge.is) refl)
    (verdict-due (g.S.Sink.told c.args.out.now) (g.S.Sink.told c.write_merge.new.out) c.write_merge.result c.write_merge.ensures.stage c.write_merge.ensures.nothing)

pub returns-in-Merge-clause-reads : goal.returns-in-Merge-clause-reads
returns-in-Merge-clause-reads g c = reads-beside _ _ c.write_merge.result c.write_merge.ensures.reads

pub returns-in-Merge-clause-unnumbered : goal.returns-in-Merge-clause-unnumbered
returns-in-Merge-clause-unnumbered g c = λ alone. files-unnumbered c.write_merge.result c.write_merge.ensures.stage

pub returns-in-Merge-clause-generated : goal.returns-in-Merge-clause-generated
returns-in-Merge-clause-generated g c = λ is. absurd (subst (λ (o : Order). IsGenOf (Ok o)) c.in-Merge.is is)

pub returns-in-Merge-clause-ranged : goal.returns-in-Merge-clause-ranged
returns-in-Merge-clause-ranged g c = where_always (g.F.Shelf.told c.args.shelf.now) _ (λ files. inl (looks_none g.D.Disk.seen g.D.Disk.moment g.D.Disk.may_leave c.args.journal.now))

pub returns-in-Merge-clause-journal : goal.returns-in-Merge-clause-journal
returns-in-Merge-clause-journal g c = journal-or _ _ _ c.write_merge.result (files-journal _ c.write_merge.result c.write_merge.ensures.stage)

pub returns-in-Merge-clause-journal_alone : goal.returns-in-Merge-clause-journal_alone
returns-in-Merge-clause-journal_alone g c = λ alone. files-journal _ c.write_merge.result c.write_merge.ensures.stage

pub returns-in-Run-clause-unwritten : goal.returns-in-Run-clause-unwritten
returns-in-Run-clause-unwritten g c = λ is. absurd (subst (λ (o : Order). IsMergeOf (Ok o)) c.in-Run.is is)

pub returns-in-Shard-clause-unwritten : goal.returns-in-Shard-clause-unwritten
returns-in-Shard-clause-unwritten g c = λ is. absurd (subst (λ (o : Order). IsMergeOf (Ok o)) c.in-Shard.is is)

pub returns-in-Plain-clause-unwritten : goal.returns-in-Plain-clause-unwritten
returns-in-Plain-clause-unwritten g c = λ is. absurd (subst (λ (o : Order). IsMergeOf (Ok o)) c.in-Plain.is is)

pub returns-in-Check-clause-unwritten : goal.returns-in-Check-clause-unwritten
returns-in-Check-clause-unwritten g c = λ is. absurd (subst (λ (o : Order). IsMergeOf (Ok o)) c.in-Check.is is)

pub returns-in-Status-clause-unwritten : goal.returns-in-Status-clause-unwritten
returns-in-Status-clause-unwritten g c = λ is. absurd (subst (λ (o : Order). IsMergeOf (Ok o)) c.in-Status.is is)

pub returns-in-Dump-clause-unwritten : goal.returns-in-Dump-clause-unwritten
returns-in-Dump-clause-unwritten g c = λ is. absurd (subst (λ (o : Order). IsMergeOf (Ok o)) c.in-Dump.is is)

pub returns-in-Gen-clause-unwritten : goal.returns-in-Gen-clause-unwritten
returns-in-Gen-clause-unwritten g c = λ is. absurd (subst (λ (o : Order). IsMergeOf (Ok o)) c.in-Gen.is is)

pub returns-in-Fringe-clause-unwritten : goal.returns-in-Fringe-clause-unwritten
returns-in-Fringe-clause-unwritten g c = λ is. absurd (subst (λ (o : Order). IsMergeOf (Ok o)) c.in-Fringe.is is)

pub returns-in-Verify-clause-unwritten : goal.returns-in-Verify-clause-unwritten
returns-in-Verify-clause-unwritten g c = λ is. absurd (subst (λ (o : Order). IsMergeOf (Ok o)) c.in-Verify.is is)

pub returns-in-Bins-clause-unwritten : goal.returns-in-Bins-clause-unwritten
returns-in-Bins-clause-unwritten g c = λ is. absurd (subst (λ (o : Order). IsMergeOf (Ok o)) c.in-Bins.is is)
