use Rattle.std.proofs.Common.{◌≡◌, ℕ, ◌+◌, List, Ok, Err, rules, arith, subst}
use Rattle.job_plan.specs.Output.{integrations_of}
use Rattle.vis_writer.specs.Cells.{CellsOf}
use Rattle.vis_writer.specs.Texts.{integration_at}
use Rattle.std.specs.List.{flat_map, range_with_len}
use Rattle.job_epochs.specs.Sizes.{size_of}
use Rattle.journal_records.specs.Places.{place_of_integration}
use Rattle.journal_records.specs.Store.{store, Reaches, WritesCells}
use Rattle.journal_records.proofs.StoreLemmas.{reaches-none, reaches-both, cells-rests, cells-none, cells-next, cells-cut}
use Rattle.journal_records.proofs.writer.write_integrations.Goals as goal

pub returns-in_err-write_integration-clause-written : goal.returns-in_err-write_integration-clause-written
returns-in_err-write_integration-clause-written g c =
    let text : CellsOf → ℕ → List ℕ = λ of m. integration_at c.args.head.now c.args.number m (of c.args.number m) in
    let failed : c.from_residual.result ≡ Err c.in_err-write_integration.field-0.0 = search rules in
    let end : c.div_ceil-m-end.result ≡ integrations_of c.args.plan.now c.args.scan.now = search rules in
    cells-cut _ _ _ _ _ _ text c.loop-m.m (integrations_of c.args.plan.now c.args.scan.now) _ _ _ _ _ _ _ (omega (arith, end, c.loop-m-test.true)) failed
    (cells-next _ _ _ _ _ _ text c.loop-m.m _ _ _ _ _ _ _ _ _ _ _ c.loop-m.invariant.reaches c.loop-m.invariant.written c.in_err-write_integration.ensures.written)

pub loop-m-init : goal.loop-m-init
loop-m-init g c = record {
  stands = c.requires.stands;
  reaches = reaches-none _ _ _ _ _ (store c.args.journal.now c.args.disk.now);
  written = cells-none _ _ _ _ _ _ _ (store c.args.journal.now c.args.disk.now) _ _;
}

pub loop-m-preserved : goal.loop-m-preserved
loop-m-preserved g c =
    let text : CellsOf → ℕ → List ℕ = λ of m. integration_at c.args.head.now c.args.number m (of c.args.number m) in
    let place : ℕ → _ = λ (m : ℕ). place_of_integration c.args.epochs.now c.args.number (size_of c.args.plan.now c.args.scan.now) m in
    record {
      stands = c.in_ok-write_integration.ensures.stands;
      reaches = reaches-both _ _ _ _ (place 0) (place c.loop-m.m) (place (c.loop-m.m + 1)) (store c.args.journal.now c.args.disk.now) (store c.loop-m.journal c.loop-m.disk)
          (store c.write_integration.new.journal c.write_integration.new.disk)
          (cells-rests _ _ _ _ _ _ c.loop-m.invariant.written) c.loop-m.invariant.reaches c.in_ok-write_integration.ensures.reaches;
      written = cells-next _ _ _ _ _ _ text c.loop-m.m _ _ _ _ _ _ _ _ _ _ _ c.loop-m.invariant.reaches c.loop-m.invariant.written c.in_ok-write_integration.ensures.written;
    }

pub returns-clause-written : goal.returns-clause-written
returns-clause-written g c =
    let end : c.div_ceil-m-end.result ≡ integrations_of c.args.plan.now c.args.scan.now = search rules in
    let last : c.loop-m.m ≡ integrations_of c.args.plan.now c.args.scan.now = omega (arith, end, c.loop-m-test.false, c.loop-m.auto.m-end) in
    subst (λ n. WritesCells {T = Unit {0}} g.D.Disk.seen g.D.Disk.moment g.D.Disk.may_leave g.D.Disk.faults c.args.plan.now c.args.epochs.now
    (place_of_integration c.args.epochs.now c.args.number (size_of c.args.plan.now c.args.scan.now) 0)
    (λ of. flat_map (λ m. integration_at c.args.head.now c.args.number m (of c.args.number m)) (range_with_len 0 n))
    (store c.args.journal.now c.args.disk.now) (store c.loop-m.journal c.loop-m.disk)
    (g.S.Sink.told c.args.out.now) (g.S.Sink.told c.loop-m.out) (g.S.Sink.faults c.args.out.now) (g.S.Sink.faults c.loop-m.out) (Ok tt))
    last c.loop-m.invariant.written

pub returns-clause-reaches : goal.returns-clause-reaches
returns-clause-reaches g c =
    let end : c.div_ceil-m-end.result ≡ integrations_of c.args.plan.now c.args.scan.now = search rules in
    let last : c.loop-m.m ≡ integrations_of c.args.plan.now c.args.scan.now = omega (arith, end, c.loop-m-test.false, c.loop-m.auto.m-end) in
    subst (λ n. Reaches g.D.Disk.seen g.D.Disk.moment g.D.Disk.may_leave c.args.epochs.now
    (place_of_integration c.args.epochs.now c.args.number (size_of c.args.plan.now c.args.scan.now) 0)
    (place_of_integration c.args.epochs.now c.args.number (size_of c.args.plan.now c.args.scan.now) n)
    (store c.args.journal.now c.args.disk.now) (store c.loop-m.journal c.loop-m.disk))
    last c.loop-m.invariant.reaches
