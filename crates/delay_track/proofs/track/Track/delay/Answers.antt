use Rattle.corr_model.specs.Delay.{is_modelled}
use Rattle.delay_track.specs.Track.{model_of}
use Rattle.delay_track.proofs.AllSamples.{each_from_all}
use Rattle.delay_track.proofs.track.Track.delay.Goals as goal

pub delay-requires-clause-modelled : goal.delay-requires-clause-modelled
delay-requires-clause-modelled c =
    rw c.model.ensures.same (each_from_all (is_modelled (model_of c.args.self.now)) c.args.self.now.samples c.args.n c.args.self.now.modelled c.requires)
