use Rattle.std.proofs.Common.{◌≡◌, ℕ, ◌==◌, ◌<◌, length, Some, w64, refl, ap, sym, ◌∙◌, arith}
use Rattle.std.specs.List.{position}
use Rattle.std.proofs.lemmas.List.Quantifiers.{position-Some}
use Rattle.std.proofs.lemmas.Int.{to_z-of_z}
use Rattle.std.proofs.lemmas.Option.{slice_get_read}
use Rattle.station_stream.specs.Stream.{windowed}
use Rattle.plain_sums.proofs.ValuesLemmas.{values_in-place}
use Rattle.plain_sums.proofs.values.ScanValuesValues.z.Goals as goal

pub returns-in-Some-clause-value : goal.returns-in-Some-clause-value
returns-in-Some-clause-value c =
    let p = λ (number : ℕ). number == c.args.station in
    let there : position (λ (number : ℕ). number == c.args.station) c.args.self.now.stations.items ≡ Some c.in-Some.place = sym c.place.ensures ∙ c.in-Some.is in
    let within : c.in-Some.place < length c.args.self.now.streams.items =
    omega (arith, (position-Some p c.args.self.now.stations.items c.in-Some.place 0 there).0, c.args.self.now.each) in
    c.value.ensures.value
    ∙ ap (windowed c.index.result.now c.args.chan) (to_z-of_z w64 c.args.n c.ranges.n)
    ∙ sym (values_in-place c.args.self.now.stations.items c.args.self.now.streams.items c.args.station c.args.chan c.in-Some.place c.args.n c.index.result.now there
    (slice_get_read c.args.self.now.streams.items _ c.in-Some.place c.index.result.now refl within c.index.ensures))
