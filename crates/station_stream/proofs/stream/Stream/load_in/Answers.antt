use Rattle.std.proofs.Common.{◌∙◌, subst, ℕ, w64, arith}
use Rattle.std.proofs.lemmas.Int.{ints, to_z-of_z}
use Rattle.std.proofs.lemmas.List.{length-map}
use Rattle.frame_index.proofs.ToldLemmas.{WhereTold-weaker}
use Rattle.station_stream.specs.Stream.{AreWhole}
use Rattle.station_stream.proofs.StreamLemmas.{part_value-lists}
use Rattle.station_stream.proofs.stream.Stream.load_in.Goals as goal

pub invariant_of-result : goal.invariant_of-result
invariant_of-result g c =
    let most = c.args.part.now.track.is_model.most in
    let chans = c.in_ok-chans.chans.items in (
      omega (arith, ints),
      (
        omega (arith, ints),
        (
          omega (arith, ints, most),
          (subst (λ (count : ℕ). AreWhole count chans) (omega (arith, ints)) c.in_ok-chans.ensures.whole, tt),
        ),
      ),
    )

pub returns-clause-window : goal.returns-clause-window
returns-clause-window g c =
    (to_z-of_z w64 c.args.from c.ranges.from, (to_z-of_z w64 c.args.to c.ranges.to, length-map _ _ ∙ c.in_ok-chans.ensures.each))

pub returns-clause-values : goal.returns-clause-values
returns-clause-values g c =
    WhereTold-weaker (g.F.Shelf.told c.args.shelf.now) _ _
    (λ told values. part_value-lists told c.args.part.now _ _ c.args.from c.args.to _ _ (omega (arith, ints)) (omega (arith, ints)) (omega (arith, ints))
    (length-map _ _ ∙ c.in_ok-chans.ensures.each) values)
    c.in_ok-chans.ensures.values
