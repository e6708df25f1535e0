use Rattle.std.proofs.Common.{◌≡◌, Err, rules, arith}
use Rattle.job_plan.specs.Output.{integrations_of}
use Rattle.run_bins.specs.Jobs.{plan_of}
use Rattle.run_bins.proofs.WriteLemmas.{writes-none, writes-next, writes-cut, writes-all, integration-at}
use Rattle.run_bins.proofs.writer.write_integrations.Goals as goal

pub loop-m-init : goal.loop-m-init
loop-m-init g c = record { written = writes-none tt _ _ _ _; ready = c.requires.ready }

pub returns-in_err-write_integration-clause-written : goal.returns-in_err-write_integration-clause-written
returns-in_err-write_integration-clause-written g c =
    let n = integrations_of c.args.job.now.ready.plan c.args.scan.now in
    let failed : c.from_residual.result ≡ Err c.in_err-write_integration.field-0.0 = search rules in
    let end : c.div_ceil-m-end.result ≡ integrations_of c.args.job.now.ready.plan c.args.scan.now = search rules in
    writes-cut (integration-at (plan_of c.args.job.now) c.args.number c.args.scan.now) c.loop-m.m n (omega (arith, end, c.loop-m-test.true)) failed
    (writes-next (integration-at (plan_of c.args.job.now) c.args.number c.args.scan.now) c.loop-m.m c.loop-m.invariant.written c.in_err-write_integration.ensures.written)

pub loop-m-preserved : goal.loop-m-preserved
loop-m-preserved g c = record {
  written = writes-next (integration-at (plan_of c.args.job.now) c.args.number c.args.scan.now) c.loop-m.m c.loop-m.invariant.written c.in_ok-write_integration.ensures.written;
  ready = c.in_ok-write_integration.ensures.ready;
}

pub returns-clause-written : goal.returns-clause-written
returns-clause-written g c =
    let n = integrations_of c.args.job.now.ready.plan c.args.scan.now in
    let end : c.div_ceil-m-end.result ≡ integrations_of c.args.job.now.ready.plan c.args.scan.now = search rules in
    writes-all (integration-at (plan_of c.args.job.now) c.args.number c.args.scan.now) c.loop-m.m n
    (omega (arith, end, c.loop-m-test.false, c.loop-m.auto.m-end)) c.loop-m.invariant.written
