use Rattle.std.proofs.Common.{◌≡◌, None, w64, FitsSigned, sym, ◌∙◌, rules}
use Rattle.std.proofs.lemmas.Int.{to_z-of_z}
use Rattle.corr_model.specs.Delay.{poly_at}
use Rattle.job_join.specs.Reach.{reach_model}
use Rattle.job_join.proofs.ReachLemmas.{IsSecondOf-poly_at, poly_without, is_met-before, is_met-before_all}
use Rattle.job_join.proofs.reach.Reach.stretch_start.Goals as goal

pub returns-in-None-clause-stretch : goal.returns-in-None-clause-stretch
returns-in-None-clause-stretch c =
    let m = reach_model c.args.self.now in
    let nowhere : poly_at m c.args.n ≡ None = poly_without (poly_at m c.args.n) (sym c.poly_second.ensures ∙ c.in-None.is) in
    λ need i _ order. is_met-before_all need m i c.args.n c.args.self.now.is_model order nowhere

pub returns-in-Some-clause-stretch : goal.returns-in-Some-clause-stretch
returns-in-Some-clause-stretch c =
    let m = reach_model c.args.self.now in
    let of = IsSecondOf-poly_at m c.args.n c.in-Some.second c.args.self.now.is_model (sym c.poly_second.ensures ∙ c.in-Some.is) in
    let fits : FitsSigned w64 c.in-Some.second = search rules in
    let begun = simp to_z-of_z at c.first_sample.ensures.begun in
    λ need i low order. is_met-before need m i c.args.n of.poly c.args.self.now.is_model order (rw of.begins (begun i low)) of.at
