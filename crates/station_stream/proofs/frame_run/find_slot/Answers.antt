use Rattle.std.proofs.Common.{◌≡◌, ◌∙◌, ap, ℤ, w64, FitsSigned, rules}
use Rattle.std.proofs.lemmas.Int.{to_z-of_z}
use Rattle.frame_index.specs.Indexed.{place_in}
use Rattle.station_stream.specs.declared.place.FramePlace.{FramePlace}
use Rattle.station_stream.specs.FrameSlots.{place_from}
use Rattle.station_stream.proofs.frame_run.find_slot.Goals as goal

pub returns : goal.returns
returns c =
    let fits : FitsSigned w64 c.place_from-place.result.second = search rules in
    let place : c.place_from-place.result ≡ place_from c.args.part.now c.args.start c.args.i =
    c.place_from-place.ensures ∙ ap (λ (z : ℤ). place_from c.args.part.now z c.args.i) (to_z-of_z w64 c.args.start c.ranges.start) in
    c.find.ensures
    ∙ ap (λ (s : ℤ). place_in c.args.index.now c.args.thread s c.place_from-place.result.number) (to_z-of_z w64 c.place_from-place.result.second fits)
    ∙ ap (λ (at : FramePlace). place_in c.args.index.now c.args.thread at.second at.number) place
