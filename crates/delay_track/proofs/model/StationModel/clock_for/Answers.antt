use Rattle.std.proofs.Common.{rules, ◌≡◌, w64, FitsSigned}
use Rattle.std.proofs.lemmas.Int.{to_z-of_z}
use Rattle.entry_list.specs.Latest.{in_force}
use Rattle.corr_model.specs.Delay.{clock_second}
use Rattle.delay_track.specs.StationModel.{delay_model_of}
use Rattle.delay_track.proofs.Clocks.{clock_of-entries}
use Rattle.delay_track.proofs.model.StationModel.clock_for.Goals as goal

pub returns : goal.returns
returns c =
    let fits : FitsSigned w64 c.args.e.now.second = search rules in
    let found : c.entry_for.result ≡ in_force clock_second c.args.self.now.clocks.now c.args.e.now.second = simp to_z-of_z at c.entry_for.ensures.same in
    rw (clock_of-entries (delay_model_of c.args.self.now) c.args.e.now) found
