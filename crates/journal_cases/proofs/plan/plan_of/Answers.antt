use Rattle.std.proofs.lemmas.List.Elements.{All-push}
use Rattle.piece_plan.specs.Epochs.{IsScan}
use Rattle.journal_cases.specs.Few.{HasFewCells}
use Rattle.journal_cases.proofs.plan.plan_of.Goals as goal

pub loop-word-preserved : goal.loop-word-preserved
loop-word-preserved c = record {
  scans = rw c.in_ok-push.ensures.items (All-push (IsScan c.in_ok-integration.integration c.in_ok-lags.lags) c.loop-word.scans.items c.in_ok-scan.scan c.loop-word.invariant.scans (c.in_ok-scan.ensures.scan c.in_ok-integration.integration));
  few = rw c.in_ok-push.ensures.items (All-push (HasFewCells c.in_ok-lags.lags) c.loop-word.scans.items c.in_ok-scan.scan c.loop-word.invariant.few c.in_ok-scan.ensures.few);
}
