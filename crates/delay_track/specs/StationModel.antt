use Rattle.corr_model.specs.Delay.{DelayModel}
use Rattle.delay_track.specs.Model.{delay_model}
use Rattle.delay_track.specs.declared.model.StationModel.{StationModel}

-- the model that the fields of a `StationModel` give
abbrev pub delay_model_of : StationModel → DelayModel
delay_model_of s = delay_model s.polys.now s.clocks.now s.second s.rate s.knot
