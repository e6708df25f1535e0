use Rattle.std.proofs.Common.{ap}
use Rattle.corr_model.specs.Delay.{DelayModel}
use Rattle.delay_track.specs.StationModel.{delay_model_of}
use Rattle.delay_track.proofs.Clocks.{has_clock-none}
use Rattle.pulsar_bins.proofs.scans.phase_in.Goals as goal

pub track-requires-clause-clock : goal.track-requires-clause-clock
track-requires-clause-clock c =
    has_clock-none (delay_model_of c.model_in.result) c.model_in.result.samples (ap (λ (m : DelayModel). m.clocks) c.model_in.ensures.model)
