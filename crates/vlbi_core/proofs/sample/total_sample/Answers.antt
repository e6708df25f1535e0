use Rattle.std.proofs.Common.{◌≡◌, Result, rules, sym, subst, length}
use Rattle.run_notes.specs.declared.refusal.Refusal.{Refusal}
use Rattle.sink_text.specs.Appends.{Appends}
use Rattle.gen_summary.specs.Totals.{totals_text}
use Rattle.vis_records.specs.Content.{IsRecordFile}
use Rattle.sample_job.specs.Sample.{SampleOf, sample_shelf}
use Rattle.vlbi_core.specs.Sample.{content_for, sample_text}
use Rattle.run_notes.specs.Commands.{Tells}
use Rattle.vlbi_core.proofs.RecordFileLemmas.{output-IsRecordFile}
use Rattle.vlbi_core.proofs.SampleLemmas.{sample-totals}
use Rattle.vlbi_core.proofs.sample.total_sample.Goals as goal

pub read_back-requires : goal.read_back-requires
read_back-requires g c =
    let s = c.in_ok-records.ensures in (
      content_for s.plan (sample_shelf c.args.seed c.args.seconds),
      rw (c.deref.ensures.value, s.records) (output-IsRecordFile s.plan (sample_shelf c.args.seed c.args.seconds) s.ranges s.few),
    )

pub returns-clause-tells : goal.returns-clause-tells
returns-clause-tells g c =
    let s = c.in_ok-records.ensures in
    let many : c.len.result ≡ length c.in_ok-records.records.items = search rules in
    subst (λ (q : Result (Unit {0}) Refusal). Tells (SampleOf c.args.seed c.args.seconds) (sample_text c.args.seed c.args.seconds)
    (g.S.Sink.told c.args.out.now) (g.S.Sink.told c.write_totals.new.out) q) (sym c.answer.ensures)
    (sample-totals c.args.seed c.args.seconds c.in_ok-records.records.items c.in_ok-vis.vis (g.S.Sink.told c.args.out.now) (g.S.Sink.told c.write_totals.new.out)
    (g.S.Sink.faults c.args.out.now) (g.S.Sink.faults c.write_totals.new.out) c.write_totals.result c.one_content.ensures (search rules) s (subst (λ b. IsRecordFile b c.in_ok-vis.vis) c.deref.ensures.value c.in_ok-vis.ensures)
    (subst (λ n. Appends (g.S.Sink.told c.args.out.now) (g.S.Sink.told c.write_totals.new.out) (totals_text c.in_ok-vis.vis n)
    (g.S.Sink.faults c.args.out.now) (g.S.Sink.faults c.write_totals.new.out) c.write_totals.result) many c.write_totals.ensures))
