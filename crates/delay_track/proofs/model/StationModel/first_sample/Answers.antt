use Rattle.std.proofs.Common.{◌≡◌, ℕ, ◌*◌, ◌≤◌, Some, ℤ, ◌≤ℤ◌, ◌-ℤ◌, unsigned_abs, w64, FitsSigned, ap, ◌∙◌, arith}
use Rattle.std.proofs.lemmas.Int.{ints, to_z-of_z}
use Rattle.std.proofs.lemmas.Nat.{le-div}
use Rattle.delay_poly.specs.declared.entry.PolyEntry.{PolyEntry}
use Rattle.corr_model.specs.Delay.{poly_at, second_at}
use Rattle.delay_track.specs.declared.model.StationModel.{StationModel}
use Rattle.delay_track.specs.StationModel.{delay_model_of}
use Rattle.delay_track.proofs.Polynomials.{IsBegun-poly_at}
use Rattle.delay_track.proofs.Samples.{unsigned_abs-product}
use Rattle.delay_track.proofs.model.StationModel.first_sample.Goals as goal

-- where a polynomial begins behind the scan's start, its first sample is the one of its second
first_at : (s : StationModel) (e : PolyEntry) (n first : ℕ) (second : ℤ) → poly_at (delay_model_of s) n ≡ Some e
    → first ≡ unsigned_abs (second -ℤ s.second) * s.rate → (FitsSigned w64 e.second → second ≡ e.second)
    → (FitsSigned w64 e.second → FitsSigned w64 s.second → s.second ≤ℤ e.second)
    → (first ≤ n) × ((i : ℕ) → first ≤ i → e.second ≤ℤ second_at (delay_model_of s) i)
first_at s e n first second at is same order =
    let begun = IsBegun-poly_at (delay_model_of s) s.samples n e s.is_model at in
    let begins : FitsSigned w64 e.second = omega (arith, ints, begun.second) in
    let starts : FitsSigned w64 s.second = omega (arith, ints, s.is_model.start) in
    let later = order begins starts in
    let from : first ≡ unsigned_abs (e.second -ℤ s.second) * s.rate = is ∙ ap (λ (z : ℤ). unsigned_abs (z -ℤ s.second) * s.rate) (same begins) in
    let within = unsigned_abs-product (e.second -ℤ s.second) n s.rate (omega (arith, ints, later)) (omega (arith, ints, begun.begun)) in (
      omega (arith, from, within),
      λ i reached.
          let quotient = le-div (unsigned_abs (e.second -ℤ s.second)) i s.rate s.is_model.some_rate (omega (arith, from, reached)) in
          omega (arith, ints, quotient, later),
    )

pub sample_at-requires-clause-second : goal.sample_at-requires-clause-second
sample_at-requires-clause-second c =
    let begun = IsBegun-poly_at (delay_model_of c.args.self.now) c.args.self.now.samples c.args.n c.args.e.now c.args.self.now.is_model c.requires.poly in
    let begins : FitsSigned w64 c.args.e.now.second = omega (arith, ints, begun.second) in
    rw (to_z-of_z w64 c.args.e.now.second begins) begun.second

pub returns-else-e-self-clause-within : goal.returns-else-e-self-clause-within
returns-else-e-self-clause-within c =
    (first_at c.args.self.now c.args.e.now c.args.n c.sample_at.result _ c.requires.poly c.sample_at.ensures (to_z-of_z w64 c.args.e.now.second) (λ begins starts. grind (arith, ints))).0

pub returns-else-e-self-clause-begun : goal.returns-else-e-self-clause-begun
returns-else-e-self-clause-begun c =
    (first_at c.args.self.now c.args.e.now c.args.n c.sample_at.result _ c.requires.poly c.sample_at.ensures (to_z-of_z w64 c.args.e.now.second) (λ begins starts. grind (arith, ints))).1
