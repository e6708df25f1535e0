use Rattle.std.proofs.Common.{◌≡◌, ◌∙◌, Err, length, rules, arith, sym, ap}
use Rattle.std.specs.List.{flat_map, range_with_len, enumerate_from}
use Rattle.job_plan.specs.declared.plan.Plan.{Plan}
use Rattle.run_bins.specs.Jobs.{plan_of}
use Rattle.run_bins.specs.Texts.{scan_text}
use Rattle.run_bins.specs.Writes.{scan_text_at}
use Rattle.run_bins.proofs.WriteLemmas.{writes-none, writes-next, writes-cut, writes-all, writes-same, numbered}
use Rattle.run_bins.proofs.writer.write_scans.Goals as goal

pub loop-number-init : goal.loop-number-init
loop-number-init g c = record { written = writes-none tt _ _ _ _; ready = c.requires.ready }

pub returns-in_err-write_scan : goal.returns-in_err-write_scan
returns-in_err-write_scan g c =
    let x = plan_of c.args.job.now in
    let listed : length c.items-number-end.result.now ≡ length x.plan.scans = ap length c.items-number-end.ensures ∙ ap (λ (p : Plan). length p.scans) c.plan.ensures.same in
    let failed : c.from_residual.result ≡ Err c.in_err-write_scan.field-0.0 = search rules in
    writes-same (λ f. flat_map (λ i. scan_text_at x i f) (range_with_len 0 (length x.plan.scans))) (λ f. flat_map (scan_text x f) (enumerate_from 0 x.plan.scans))
    (λ f. sym (numbered (scan_text x f) x.plan.scans))
    (writes-cut (scan_text_at x) c.loop-number.number (length x.plan.scans) (omega (arith, listed, c.loop-number-test.true)) failed
    (writes-next (scan_text_at x) c.loop-number.number c.loop-number.invariant.written c.in_err-write_scan.ensures.written))

pub loop-number-preserved : goal.loop-number-preserved
loop-number-preserved g c = record {
  written = writes-next (scan_text_at (plan_of c.args.job.now)) c.loop-number.number c.loop-number.invariant.written c.in_ok-write_scan.ensures.written;
  ready = c.in_ok-write_scan.ensures.ready;
}

pub returns : goal.returns
returns g c =
    let x = plan_of c.args.job.now in
    let listed : length c.items-number-end.result.now ≡ length x.plan.scans = ap length c.items-number-end.ensures ∙ ap (λ (p : Plan). length p.scans) c.plan.ensures.same in
    writes-same (λ f. flat_map (λ i. scan_text_at x i f) (range_with_len 0 (length x.plan.scans))) (λ f. flat_map (scan_text x f) (enumerate_from 0 x.plan.scans))
    (λ f. sym (numbered (scan_text x f) x.plan.scans))
    (writes-all (scan_text_at x) c.loop-number.number (length x.plan.scans)
    (omega (arith, listed, c.loop-number-test.false, c.loop-number.auto.number-end)) c.loop-number.invariant.written)
