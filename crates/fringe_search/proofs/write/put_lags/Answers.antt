use Rattle.std.proofs.Common.{◌≡◌, ◌∙◌, ap, w32, to_z, of_z, arith}
use Rattle.std.proofs.lemmas.Int.{ints}
use Rattle.corr_model.specs.Lags.{lag_of}
use Rattle.sink_text.proofs.WrittenText.{Puts-then, Puts-nothing}
use Rattle.fringe_search.proofs.Putting.{lags_next}
use Rattle.fringe_search.proofs.write.put_lags.Goals as goal

pub loop-lag-init : goal.loop-lag-init
loop-lag-init g c = Puts-nothing c.args.lines.now (g.S.Sink.told c.args.out.now) (g.S.Sink.faults c.args.out.now)

pub loop-lag-preserved : goal.loop-lag-preserved
loop-lag-preserved g c =
    let same : to_z w32 (of_z w32 c.lag_at.result) ≡ c.lag_at.result = omega (arith, ints, c.lag_at.ensures, c.lags-lags.ensures.few) in
    Puts-then
    (lags_next c.args.series.now c.args.top c.loop-lag.lag _ c.mark_of.result (same ∙ c.lag_at.ensures ∙ ap (λ n. lag_of n c.loop-lag.lag) c.lags-lags.ensures.value) c.mark_of.ensures)
    c.loop-lag.invariant
    c.put_lag.ensures
