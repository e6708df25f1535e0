use Rattle.std.proofs.Common.{rules, ◌≡◌, [], Some, option_map, w64, FitsSigned, sym, ap, ◌∙◌, arith}
use Rattle.std.proofs.lemmas.Int.{ints, to_z-of_z}
use Rattle.corr_model.specs.Delay.{poly_second}
use Rattle.entry_list.specs.Latest.{in_force}
use Rattle.delay_track.proofs.Polynomials.{poly_at-none}
use Rattle.job_join.specs.Reach.{reach_model}
use Rattle.job_join.proofs.ReachLemmas.{poly_at-near}
use Rattle.job_join.proofs.reach.Reach.poly_second.Goals as goal

pub returns-then-is_empty : goal.returns-then-is_empty
returns-then-is_empty c =
    let m = reach_model c.args.self.now in
    let start = c.args.self.now.is_model.start in
    let fits : FitsSigned w64 c.args.self.now.second = omega (arith, ints) in
    let empty : m.polys ≡ [] = search rules in
    ap Some (to_z-of_z w64 c.args.self.now.second fits) ∙ sym (ap (option_map poly_second) (poly_at-none m c.args.n empty))

pub returns-in-None : goal.returns-in-None
returns-in-None c =
    let m = reach_model c.args.self.now in
    let fits : FitsSigned w64 c.second_near.result = search rules in
    let near : c.entry_for.result ≡ in_force poly_second m.polys c.second_near.result = simp to_z-of_z at c.entry_for.ensures.same in
    ap (option_map poly_second) (sym c.in-None.is ∙ poly_at-near m c.args.n c.second_near.result c.entry_for.result c.args.self.now.is_model (search rules) c.second_near.ensures near)

pub returns-in-Some : goal.returns-in-Some
returns-in-Some c =
    let m = reach_model c.args.self.now in
    let fits : FitsSigned w64 c.second_near.result = search rules in
    let near : c.entry_for.result ≡ in_force poly_second m.polys c.second_near.result = simp to_z-of_z at c.entry_for.ensures.same in
    let second : FitsSigned w64 c.in-Some.e.second = search rules in
    ap Some (to_z-of_z w64 c.in-Some.e.second second)
    ∙ ap (option_map poly_second) (sym c.in-Some.is ∙ poly_at-near m c.args.n c.second_near.result c.entry_for.result c.args.self.now.is_model (search rules) c.second_near.ensures near)
