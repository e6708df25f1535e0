use Rattle.corr_model.specs.Delay.{DelayModel}
use Rattle.delay_track.specs.Model.{delay_model}
use Rattle.job_join.specs.declared.reach.Reach.{Reach}

-- the model that the fields of a `Reach` give
abbrev pub reach_model : Reach → DelayModel
reach_model r = delay_model r.polys.now r.clocks.now r.second r.rate r.knot
