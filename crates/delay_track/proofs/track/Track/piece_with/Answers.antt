use Rattle.std.proofs.Common.{◌<◌, arith}
use Rattle.corr_model.specs.Delay.{is_modelled}
use Rattle.delay_track.specs.Track.{model_of}
use Rattle.delay_track.proofs.AllSamples.{each_from_all}
use Rattle.delay_track.proofs.track.Track.piece_with.Goals as goal

pub piece-requires-clause-modelled : goal.piece-requires-clause-modelled
piece-requires-clause-modelled c =
    let inside : c.args.n < c.args.self.now.samples = omega (arith, c.requires.order, c.requires.inside) in
    rw c.model.ensures.same (each_from_all (is_modelled (model_of c.args.self.now)) c.args.self.now.samples c.args.n c.args.self.now.modelled inside)
