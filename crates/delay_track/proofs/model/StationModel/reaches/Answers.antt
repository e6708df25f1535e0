use Rattle.std.proofs.Common.{rules, ◌≡◌, [], sym, ◌∙◌, arith}
use Rattle.std.proofs.lemmas.Bool.Decides.{nat_tests}
use Rattle.delay_track.specs.StationModel.{delay_model_of}
use Rattle.delay_track.proofs.Polynomials.{is_modelled-none, is_modelled-entries}
use Rattle.delay_track.proofs.model.StationModel.reaches.Goals as goal

pub returns-then-is_empty : goal.returns-then-is_empty
returns-then-is_empty c =
    let m = delay_model_of c.args.self.now in
    let none : m.polys ≡ [] = search rules in
    c.if-is_empty.true ∙ sym (is_modelled-none m c.args.n none)

pub returns-else-is_empty : goal.returns-else-is_empty
returns-else-is_empty c =
    let m = delay_model_of c.args.self.now in
    let some : m.polys ≡ [] → ⊥ = search rules in
    rw (is_modelled-entries m c.args.n c.args.e.now some c.requires.poly, c.samples_since.ensures, c.from.ensures) (grind (arith, nat_tests))
