use Rattle.std.proofs.Common.{◌≡◌, ℕ, true, Option, None, sym, ◌∙◌}
use Rattle.std.proofs.lemmas.Option.{none-some}
use Rattle.delay_poly.specs.declared.entry.PolyEntry.{PolyEntry}
use Rattle.corr_model.specs.Delay.{DelayModel, poly_at, is_modelled}
use Rattle.delay_track.specs.StationModel.{delay_model_of}
use Rattle.delay_track.proofs.Polynomials.{modelled_poly}
use Rattle.delay_track.proofs.model.StationModel.piece.Goals as goal

-- a sample that has a model has a polynomial
not_none : (m : DelayModel) (n : ℕ) (found : Option PolyEntry) → is_modelled m n ≡ true → found ≡ poly_at m n → found ≡ None → ⊥
not_none m n found modelled is none =
    let there = modelled_poly m n modelled in
    none-some there.0 (sym none ∙ is ∙ there.1)

pub returns-in-None-clause-from : goal.returns-in-None-clause-from
returns-in-None-clause-from c =
    absurd (not_none (delay_model_of c.args.self.now) c.args.n c.poly_at.result c.requires.modelled c.poly_at.ensures c.in-None.is)

pub returns-in-None-clause-after : goal.returns-in-None-clause-after
returns-in-None-clause-after c =
    absurd (not_none (delay_model_of c.args.self.now) c.args.n c.poly_at.result c.requires.modelled c.poly_at.ensures c.in-None.is)
