use Rattle.std.proofs.Common.{◌++◌, ℤ, ap, sym, w32}
use Rattle.std.proofs.lemmas.Int.{to_z-of_z}
use Rattle.sink_text.proofs.WrittenText.{Puts-then}
use Rattle.fringe_search.specs.Certificates.{place_text, peak_text}
use Rattle.fringe_search.proofs.write.put_peak.Goals as goal

pub returns : goal.returns
returns g c =
    let p = c.args.peak.now in
    Puts-then
    (ap (λ (z : ℤ). place_text c.args.at ++ peak_text (record { lag = z; rate = p.rate; re = p.sum.re; im = p.sum.im })) (sym (to_z-of_z w32 c.args.lag c.ranges.lag)))
    c.put_place.ensures
    c.put_point.ensures
