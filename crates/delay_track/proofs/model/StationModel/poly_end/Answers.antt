use Rattle.std.proofs.Common.{rules, ◌≡◌, ℕ, ◌*◌, min, ℤ, ◌<ℤ◌, ◌≤ℤ◌, ◌-ℤ◌, unsigned_abs, w64, FitsSigned, sym, subst, ◌∙◌, arith}
use Rattle.std.specs.List.{All}
use Rattle.std.proofs.lemmas.Int.{ints, to_z-of_z}
use Rattle.std.proofs.lemmas.List.Elements.{All-contains}
use Rattle.num_time.specs.Times.{IsSecond}
use Rattle.entry_list.specs.Latest.{IsNextSecond}
use Rattle.corr_model.specs.Delay.{poly_second, second_at}
use Rattle.delay_track.specs.declared.model.StationModel.{StationModel}
use Rattle.delay_track.specs.StationModel.{delay_model_of}
use Rattle.delay_track.proofs.Polynomials.{modelled_poly}
use Rattle.delay_track.proofs.Pieces.{poly_at-last, poly_at-up_to, before_second}
use Rattle.delay_track.proofs.model.StationModel.poly_end.Goals as goal

-- the second at which the next polynomial begins
record IsNextOf (s : StationModel) (n : ℕ) (next : ℤ) : Type 0 where
  begins : IsSecond next
  fits : FitsSigned w64 next
  after : second_at (delay_model_of s) n <ℤ next
  first : All (λ x. second_at (delay_model_of s) n <ℤ poly_second x → next ≤ℤ poly_second x) s.polys.now

IsNextOf-found : (s : StationModel) (n : ℕ) (at next : ℤ) → at ≡ second_at (delay_model_of s) n → IsNextSecond poly_second s.polys.now at next → IsNextOf s n next
IsNextOf-found s n at next here found =
    let is : IsNextSecond poly_second s.polys.now (second_at (delay_model_of s) n) next = subst (λ (z : ℤ). IsNextSecond poly_second s.polys.now z next) here found in
    let begins : IsSecond next = rw is.begins at (All-contains (λ d. IsSecond d.second) s.polys.now is.entry s.is_model.polys is.among) in
    record { begins = begins; fits = omega (arith, ints, begins); after = is.after; first = is.first }

pub returns-in-None-clause-same : goal.returns-in-None-clause-same
returns-in-None-clause-same c =
    let m = delay_model_of c.args.self.now in
    let fits : FitsSigned w64 c.second_at.result = search rules in
    let begun : All (λ x. poly_second x ≤ℤ second_at m c.args.n) m.polys = rw c.second_at.ensures at (simp to_z-of_z at c.in-None.ensures) in
    let found = modelled_poly m c.args.n c.requires.modelled in
    λ i order inside. poly_at-last m c.args.n i found.0 c.args.self.now.is_model.some_rate order begun found.1 ∙ sym found.1

pub sample_at-requires-clause-second : goal.sample_at-requires-clause-second
sample_at-requires-clause-second c =
    let next = IsNextOf-found c.args.self.now c.args.n _ c.in-Some.next (to_z-of_z w64 c.second_at.result (search rules) ∙ c.second_at.ensures) c.in-Some.ensures in
    rw (to_z-of_z w64 c.in-Some.next next.fits) next.begins

pub sample_at-requires-clause-begun : goal.sample_at-requires-clause-begun
sample_at-requires-clause-begun c =
    let next = IsNextOf-found c.args.self.now c.args.n _ c.in-Some.next (to_z-of_z w64 c.second_at.result (search rules) ∙ c.second_at.ensures) c.in-Some.ensures in
    omega (arith, ints, next.after, next.fits)

pub returns-in-Some-clause-after : goal.returns-in-Some-clause-after
returns-in-Some-clause-after c =
    let next = IsNextOf-found c.args.self.now c.args.n _ c.in-Some.next (to_z-of_z w64 c.second_at.result (search rules) ∙ c.second_at.ensures) c.in-Some.ensures in
    let end : c.min.result ≡ min c.args.to (unsigned_abs (c.in-Some.next -ℤ c.args.self.now.second) * c.args.self.now.rate) =
    rw (c.sample_at.ensures, to_z-of_z w64 c.in-Some.next next.fits) at c.min.ensures in
    let product = before_second (delay_model_of c.args.self.now) c.args.n c.in-Some.next c.args.self.now.is_model.some_rate next.after in
    omega (arith, end, product, c.requires.order)

pub returns-in-Some-clause-same : goal.returns-in-Some-clause-same
returns-in-Some-clause-same c =
    let m = delay_model_of c.args.self.now in
    let next = IsNextOf-found c.args.self.now c.args.n _ c.in-Some.next (to_z-of_z w64 c.second_at.result (search rules) ∙ c.second_at.ensures) c.in-Some.ensures in
    let end : c.min.result ≡ min c.args.to (unsigned_abs (c.in-Some.next -ℤ c.args.self.now.second) * c.args.self.now.rate) =
    rw (c.sample_at.ensures, to_z-of_z w64 c.in-Some.next next.fits) at c.min.ensures in
    let found = modelled_poly m c.args.n c.requires.modelled in
    λ i order inside.
    poly_at-up_to m c.args.n i found.0 c.in-Some.next c.args.self.now.is_model.some_rate order (omega (arith, ints, next.after)) (omega (arith, end, inside)) next.first found.1 ∙ sym found.1
