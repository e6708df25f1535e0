use Rattle.std.proofs.Common.{◌≡◌, ◌∙◌, ◌*◌, ◌%◌, ◌^◌, length, Err, rules, ap}
use Rattle.corr_model.specs.Records.{Head, places_of}
use Rattle.job_plan.specs.Output.{head_of}
use Rattle.run_bins.specs.Jobs.{plan_of}
use Rattle.run_bins.proofs.EndLemmas.{end-counted}
use Rattle.run_bins.proofs.FileLemmas.{head-at, head-failed, scans-failed, all-written}
use Rattle.run_bins.proofs.WriteLemmas.{writes-is}
use Rattle.run_bins.proofs.writer.write_text.Goals as goal

pub returns-in_err-sunk : goal.returns-in_err-sunk
returns-in_err-sunk g c =
    let failed : c.from_residual.result ≡ Err c.in_err-sunk.field-0.0 = search rules in
    head-failed (plan_of c.args.job.now) c.write_bin_head.result
    (head-at (plan_of c.args.job.now) c.bin_count-bins.result c.args.head.now c.bin_count-bins.ensures c.requires.head c.write_bin_head.ensures)
    c.in_err-sunk.ensures failed

pub returns-in_err-write_scans : goal.returns-in_err-write_scans
returns-in_err-write_scans g c =
    let failed : c.from_residual-in_err-write_scans.result ≡ Err c.in_err-write_scans.field-0.0 = search rules in
    scans-failed (plan_of c.args.job.now) c.write_bin_head.result
    (head-at (plan_of c.args.job.now) c.bin_count-bins.result c.args.head.now c.bin_count-bins.ensures c.requires.head c.write_bin_head.ensures)
    c.in_ok-sunk.ensures c.in_err-write_scans.ensures failed

pub returns : goal.returns
returns g c =
    writes-is c.sunk-2.ensures
    (all-written (plan_of c.args.job.now) c.write_bin_head.result
    (head-at (plan_of c.args.job.now) c.bin_count-bins.result c.args.head.now c.bin_count-bins.ensures c.requires.head c.write_bin_head.ensures)
    c.in_ok-sunk.ensures c.write_bin_end.result c.record_total.result c.in_ok-write_scans.ensures
    (end-counted c.record_total.result _
    (c.record_total.ensures
    ∙ ap (λ (h : Head). (length (places_of h) * c.bin_count-bins.result) % 2 ^ 64) c.requires.head
    ∙ ap (λ n. (length (places_of (head_of c.args.job.now.ready.plan)) * n) % 2 ^ 64) c.bin_count-bins.ensures))
    c.write_bin_end.ensures)
