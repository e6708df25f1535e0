use Rattle.corr_model.specs.Delay.{DelayModel}
use Rattle.delay_track.specs.Model.{delay_model}
use Rattle.delay_track.specs.declared.track.Track.{Track}

-- the model that the fields of a track give
abbrev pub model_of : Track → DelayModel
model_of t = delay_model t.polys.now t.clocks.now t.second t.rate t.knot
