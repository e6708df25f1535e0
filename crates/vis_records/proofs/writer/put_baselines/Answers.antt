use Rattle.corr_model.specs.Records.{baseline_text}
use Rattle.sink_text.proofs.WrittenText.{Puts-next}
use Rattle.vis_records.specs.Heads.{baseline_of}
use Rattle.vis_records.proofs.writer.put_baselines.Goals as goal

pub loop-baseline-preserved : goal.loop-baseline-preserved
loop-baseline-preserved g c =
    Puts-next (λ b. baseline_text (baseline_of b)) c.args.baselines.now c.loop-baseline.baseline-index _ c.loop-baseline-test.true c.loop-baseline.invariant c.put_baseline.ensures
