use Rattle.std.proofs.Common.{◌≡◌, ◌-◌, ◌<◌, false, sym, arith}
use Rattle.std.proofs.lemmas.Bool.{false≢true, false_from_ne_true}
use Rattle.corr_model.specs.Delay.{is_modelled}
use Rattle.delay_track.specs.StationModel.{delay_model_of}
use Rattle.delay_track.proofs.AllSamples.{all_from_each, fails_from_one}
use Rattle.delay_track.proofs.model.StationModel.has_model.Goals as goal

pub returns-in-None : goal.returns-in-None
returns-in-None c =
    let m = delay_model_of c.args.self.now in
    let inside : c.loop-end.end - 1 < c.args.self.now.samples = omega (arith, c.loop-end.invariant.0) in
    let fails : is_modelled m (c.loop-end.end - 1) ≡ false = false_from_ne_true (is_modelled m (c.loop-end.end - 1)) (λ modelled. false≢true (c.in-None.ensures.some.1 modelled)) in
    sym (fails_from_one (is_modelled m) c.args.self.now.samples (c.loop-end.end - 1) inside fails)

pub returns : goal.returns
returns c =
    let m = delay_model_of c.args.self.now in
    sym (all_from_each (is_modelled m) c.args.self.now.samples (λ i inside. c.loop-end.invariant.1 i (omega arith) inside))
