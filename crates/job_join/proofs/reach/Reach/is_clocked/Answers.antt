use Rattle.std.proofs.Common.{rules, ◌≡◌, is_some, w64, FitsSigned, sym, ap, ◌∙◌}
use Rattle.std.proofs.lemmas.Int.{to_z-of_z}
use Rattle.corr_model.specs.Delay.{clock_second}
use Rattle.entry_list.specs.Latest.{in_force}
use Rattle.delay_track.proofs.Clocks.{is_clocked-none}
use Rattle.job_join.specs.Reach.{reach_model}
use Rattle.job_join.proofs.ReachLemmas.{IsSecondOf-poly_at, is_clocked-second}
use Rattle.job_join.proofs.reach.Reach.is_clocked.Goals as goal

pub returns-then-is_empty : goal.returns-then-is_empty
returns-then-is_empty c = c.if-is_empty.true ∙ sym (is_clocked-none (reach_model c.args.self.now) c.args.n (search rules))

pub returns-else-is_empty : goal.returns-else-is_empty
returns-else-is_empty c =
    let m = reach_model c.args.self.now in
    let of = IsSecondOf-poly_at m c.args.n c.args.second c.args.self.now.is_model c.requires in
    let fits : FitsSigned w64 c.args.second = of.fits in
    let found : c.entry_for.result ≡ in_force clock_second m.clocks c.args.second = simp to_z-of_z at c.entry_for.ensures.same in
    c.is_some.ensures ∙ ap is_some found ∙ sym (is_clocked-second m c.args.n c.args.second of (search rules))
