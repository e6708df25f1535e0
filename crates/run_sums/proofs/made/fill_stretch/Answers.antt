use Rattle.std.proofs.Common.{◌≡◌, ◌∙◌, ◌+◌, ◌/◌, ◌%◌, ℕ, pos, None, Some, sym, ap, subst, length, arith}
use Rattle.std.specs.Prelude.{option_and_then, slice_get}
use Rattle.frame_index.proofs.ToldLemmas.{WhereTold-weaker}
use Rattle.job_plan.specs.declared.plan.StayPlan.{StayPlan}
use Rattle.job_plan.specs.Values.{stay_value}
use Rattle.station_stream.proofs.StayLemmas.{is_some-stay_of}
use Rattle.run_sums.specs.Frames.{AreMade}
use Rattle.run_sums.proofs.FrameLemmas.{IsRowOf-read, HoldFrames-made, part_value-made, samples-made}
use Rattle.run_sums.proofs.made.fill_stretch.Goals as goal

pub part-part-requires-clause-stands : goal.part-part-requires-clause-stands
part-part-requires-clause-stands g c =
    let m = c.args.making.now in
    let row = IsRowOf-read m c.args.row (length c.items-chans.result.now) c.items.result.now c.index-items-place.result c.requires.row
    (ap (λ l. length l) c.items-chans.ensures) c.items.ensures c.index-items-place.is in
    is_some-stay_of m.scan.now _ c.index-items-place.result row.at

pub part-part-requires-clause-held : goal.part-part-requires-clause-held
part-part-requires-clause-held g c =
    let m = c.args.making.now in
    let row = IsRowOf-read m c.args.row (length c.items-chans.result.now) c.items.result.now c.index-items-place.result c.requires.row
    (ap (λ l. length l) c.items-chans.ensures) c.items.ensures c.index-items-place.is in
    c.requires.making.frames.held _ c.index-items-place.result c.index-making-place.result row.at

pub fill-requires-clause-held : goal.fill-requires-clause-held
fill-requires-clause-held g c =
    let m = c.args.making.now in
    let row = IsRowOf-read m c.args.row (length c.items-chans.result.now) c.items.result.now c.index-items-place.result c.requires.row
    (ap (λ l. length l) c.items-chans.ensures) c.items.ensures c.index-items-place.is in
    HoldFrames-made None m _ c.index-items-place.result c.index-making-place.result c.part-part.result c.requires.making row.at c.part-part.ensures

pub fill-requires-clause-inside : goal.fill-requires-clause-inside
fill-requires-clause-inside g c =
    let m = c.args.making.now in
    let row = IsRowOf-read m c.args.row (length c.items-chans.result.now) c.items.result.now c.index-items-place.result c.requires.row
    (ap (λ l. length l) c.items-chans.ensures) c.items.ensures c.index-items-place.is in
    let to = (c.requires.making.frames.window (c.args.row / length c.items-chans.result.now) c.index-making-place.result (omega (arith, row.inside, c.requires.making.frames.count))).1 in
    let samples = samples-made None m _ c.index-items-place.result c.part-part.result c.requires.making row.at c.part-part.ensures in
    omega (arith, to, samples, c.requires.making.inside)

pub returns : goal.returns
returns g c =
    let m = c.args.making.now in
    let stay = c.index-items-place.result in
    let chans = ap (λ l. length l) c.items-chans.ensures in
    let row = IsRowOf-read m c.args.row (length c.items-chans.result.now) c.items.result.now c.index-items-place.result c.requires.row
    (ap (λ l. length l) c.items-chans.ensures) c.items.ensures c.index-items-place.is in
    let own : slice_get m.scan.now.stays (c.args.row / length m.plan.now.channels) ≡ Some stay =
    subst (λ (n : ℕ). slice_get m.scan.now.stays (c.args.row / n) ≡ Some stay) chans row.at in
    let start : ℕ = m.from + c.args.start in
    record {
      made = λ told making.
          WhereTold-weaker told _ (AreMade m c.args.row start c.fill.new.codes)
          (λ files values k h.
          values k h
          ∙ part_value-made told files m _ stay c.part-part.result making row.at c.part-part.ensures (c.args.row % length c.items-chans.result.now) (pos (start + k))
          ∙ ap (λ (n : ℕ). stay_value m.plan.now files m.scan.now stay (c.args.row % n) (pos (start + k))) chans
          ∙ sym (ap (option_and_then (λ (s : StayPlan). stay_value m.plan.now files m.scan.now s (c.args.row % length m.plan.now.channels) (pos (start + k)))) own))
          (c.fill.ensures told (HoldFrames-made told m _ stay c.index-making-place.result c.part-part.result making row.at c.part-part.ensures));
    }
