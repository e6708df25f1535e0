use Rattle.std.specs.List.{All}
use Rattle.std.proofs.Common.{◌*◌, ◌≤◌, take}
use Rattle.piece_plan.specs.declared.job.ScanSize.{ScanSize}
use Rattle.shard_merge.proofs.comparison.widest.Given as goal

abbrev pub invariant-loop-size : goal.invariant-loop-size
invariant-loop-size l = record {
  few : l.most ≤ 4194304;
  each : All (λ (size : ScanSize). size.products * size.baselines * l.plan.lags ≤ l.most) (take l.size-index l.plan.scans);
}
