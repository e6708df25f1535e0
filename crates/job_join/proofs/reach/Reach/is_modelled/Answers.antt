use Rattle.std.proofs.Common.{rules, ◌≡◌, w64, FitsSigned, sym, ◌∙◌, arith}
use Rattle.std.proofs.lemmas.Int.{ints, to_z-of_z}
use Rattle.std.proofs.lemmas.Bool.Decides.{nat_tests}
use Rattle.corr_model.specs.Delay.{samples_since}
use Rattle.delay_track.proofs.Polynomials.{is_modelled-none, is_modelled-entries}
use Rattle.job_join.specs.Reach.{reach_model}
use Rattle.job_join.proofs.ReachLemmas.{IsSecondOf-poly_at}
use Rattle.job_join.proofs.reach.Reach.is_modelled.Goals as goal

pub returns-then-is_empty : goal.returns-then-is_empty
returns-then-is_empty c = c.if-is_empty.true ∙ sym (is_modelled-none (reach_model c.args.self.now) c.args.n (search rules))

pub returns-else-is_empty : goal.returns-else-is_empty
returns-else-is_empty c =
    let of = IsSecondOf-poly_at (reach_model c.args.self.now) c.args.n c.args.second c.args.self.now.is_model c.requires.poly in
    let fits : FitsSigned w64 c.args.second = of.fits in
    let product = simp to_z-of_z at c.samples_since.ensures in
    let since : c.samples_since.result ≡ samples_since (reach_model c.args.self.now) of.poly c.args.n = omega (arith, ints, product, of.since) in
    rw (is_modelled-entries (reach_model c.args.self.now) c.args.n of.poly (search rules) of.at, since, c.from.ensures) (grind (arith, nat_tests))
