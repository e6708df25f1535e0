use Rattle.std.proofs.Common.{◌≡◌, ◌∙◌, refl, ap, ℕ, ◌<◌, length, get_or, List, arith}
use Rattle.std.proofs.lemmas.List.{get_or_default}
use Rattle.std.proofs.lemmas.Result.{err_from_is_err_and}
use Rattle.piece_plan.specs.declared.job.ScanSize.{ScanSize}
use Rattle.piece_plan.specs.Epochs.{JobSizes, job_sizes, integration_count}
use Rattle.shard_merge.proofs.CompareWalks.{IsLeftInJob-begin, IsLeftInJob-more, IsLeftInJob-fault, IsLeftInJob-end}
use Rattle.shard_merge.proofs.comparison.compare_scans.Goals as goal

abbrev no_scan : ScanSize
no_scan = record { first = 0; samples = 0; products = 0; baselines = 0 }

-- the scan of a number, as one reads it of the list of all, and the number of its integrations
scan-read : (plan : JobSizes) (scans : List ScanSize) (number integration count : ℕ) (d : ScanSize) → scans ≡ plan.scans → number < length scans
    → integration ≡ plan.integration
    → ((all : List ScanSize) (epoch lags : ℕ) → count ≡ integration_count (job_sizes all integration epoch lags) (get_or scans number d))
    → (number < length plan.scans) × (get_or scans number d ≡ get_or plan.scans number (get_or scans number d)) × (count ≡ integration_count plan (get_or scans number d))
scan-read plan scans number integration count d same below samples is = (
  omega (arith, below, ap length same),
  get_or_default scans number d (get_or scans number d) below ∙ ap (λ (xs : List ScanSize). get_or xs number (get_or scans number d)) same,
  is plan.scans plan.epoch plan.lags ∙ ap (λ n. integration_count (job_sizes plan.scans n plan.epoch plan.lags) (get_or scans number d)) samples,
)

pub loop-number-init : goal.loop-number-init
loop-number-init g c = record {
  few = omega arith;
  same = refl;
  kept = refl;
  left = IsLeftInJob-begin (g.F.Shelf.told c.args.shelf.now) c.args.plan.now c.args.shards.now;
}

pub loop-number-preserved : goal.loop-number-preserved
loop-number-preserved g c =
    let before = c.loop-number.invariant in
    let scans = c.scans-size-items.result.now in
    let read = scan-read c.args.plan.now scans c.loop-number.number c.integration-integration.result c.integrations_in-count.result no_scan c.scans-size-items.ensures.sizes
    c.loop-number-test.true c.integration-integration.ensures.samples c.integrations_in-count.ensures.count in
    record {
      few = omega (arith, before.few, c.integrations_in-count.ensures.few);
      same = c.in_ok-compare_scan.ensures.same ∙ before.same;
      kept = c.in_ok-compare_scan.ensures.counts ∙ before.kept;
      left =
          IsLeftInJob-more (g.F.Shelf.told c.args.shelf.now) (g.F.Shelf.told c.loop-number.shelf) c.args.plan.now c.args.shards.now c.loop-number.i
          c.loop-number.number c.integrations_in-count.result (get_or scans c.loop-number.number no_scan) before.same read.0 read.1 read.2 before.left c.in_ok-compare_scan.ensures.verdict;
    }

pub returns-in_err-compare_scan-clause-verdict : goal.returns-in_err-compare_scan-clause-verdict
returns-in_err-compare_scan-clause-verdict g c =
    let before = c.loop-number.invariant in
    let scans = c.scans-size-items.result.now in
    let read = scan-read c.args.plan.now scans c.loop-number.number c.integration-integration.result c.integrations_in-count.result no_scan c.scans-size-items.ensures.sizes
    c.loop-number-test.true c.integration-integration.ensures.samples c.integrations_in-count.ensures.count in
    let p = err_from_is_err_and c.from_residual.result c.from_residual.ensures.1 in
    rw (p.1, p.2)
    (IsLeftInJob-fault (Unit {0}) (g.F.Shelf.told c.args.shelf.now) (g.F.Shelf.told c.loop-number.shelf) c.args.plan.now c.args.shards.now c.loop-number.i
    c.loop-number.number c.integrations_in-count.result (get_or scans c.loop-number.number no_scan) _ before.same read.0 read.1 read.2 before.left c.in_err-compare_scan.ensures.verdict)

pub returns-clause-verdict : goal.returns-clause-verdict
returns-clause-verdict g c =
    IsLeftInJob-end (g.F.Shelf.told c.args.shelf.now) c.args.plan.now c.args.shards.now c.loop-number.i c.loop-number.number
    (omega (arith, c.loop-number-test.false, ap length c.scans-size-items.ensures.sizes)) c.loop-number.invariant.left
