use Rattle.std.proofs.Common.{◌≡◌, ◌∙◌, ◌≤◌, ◌^◌, pos, ◌+ℤ◌, unsigned_abs, to_z, of_z, w64, refl, inl, inr, ap, arith}
use Rattle.std.proofs.lemmas.Int.{ints}
use Rattle.delay_track.specs.Runs.{RunsFields}
use Rattle.station_stream.proofs.SweepLemmas.{Goes, Goes-run, LieIn-run, Grown, grown, recorded_is, some-before}
use Rattle.station_stream.proofs.sweep.Sweep.of.Goals as goal
use Rattle.station_stream.proofs.sweep.Sweep.of.Goals.{in-Some+then-far, then-far-via-then-far, then-far-via-else-far+then-far-2, in_default}

pub loop-run-preserved : goal.loop-run-preserved
loop-run-preserved c =
    let steps = c.in-Some.ensures.steps in
    let run = steps.0 in
    let whole = c.whole-whole.result in
    let goes : Goes c.args.part.now.track c.loop-run.end c.in-Some.run'.to whole =
    Goes-run c.args.part.now.track c.loop-run.runs c.in-Some.run' c.loop-run.end whole c.loop-run.invariant.model c.loop-run.invariant.at run c.whole-whole.ensures.value in
    let from_is : c.in-Some.run'.from ≡ c.loop-run.end = run.begins ∙ c.loop-run.invariant.at in
    let most : c.args.part.now.track.samples ≤ 2 ^ 40 = c.args.part.now.track.is_model.most in
    let within : c.in-Some.run'.to ≤ c.args.to = omega (arith, run.stretch.within, c.loop-run.invariant.to) in
    let few : c.in-Some.run'.to ≤ 2 ^ 40 = omega (arith, within, c.requires.inside, most) in
    let few_from : c.in-Some.run'.from ≤ 2 ^ 40 = omega (arith, from_is, goes.some, few) in
    let near : unsigned_abs whole ≤ 2 ^ 28 = c.whole-whole.ensures.bound in
    let more : Grown (to_z w64 c.loop-run.first-bits) (to_z w64 c.loop-run.last-bits) (pos c.loop-run.end +ℤ whole) (pos c.in-Some.run'.to +ℤ whole) (to_z w64 (of_z w64 c.min-first.result)) (to_z w64 (of_z w64 c.max-last.result)) =
    grown (to_z w64 c.loop-run.first-bits) (to_z w64 c.loop-run.last-bits) _ _ c.min-first.result c.max-last.result (pos c.loop-run.end +ℤ whole) (pos c.in-Some.run'.to +ℤ whole)
    (recorded_is c.in-Some.run'.from c.loop-run.end whole few_from from_is near)
    (recorded_is c.in-Some.run'.to c.in-Some.run'.to whole few refl near)
    c.min-first.ensures.value c.max-last.ensures.value c.loop-run.invariant.order c.loop-run.invariant.near_first c.loop-run.invariant.near_last
    (omega (arith, ints, near, few, goes.some)) (omega (arith, ints, near, few)) in
    record {
      model = ap (λ (s : RunsFields). s.model) steps.1 ∙ c.loop-run.invariant.model;
      at = ap (λ (s : RunsFields). s.at) steps.1;
      to = ap (λ (s : RunsFields). s.to) steps.1 ∙ c.loop-run.invariant.to;
      begun = omega (arith, c.loop-run.invariant.begun, goes.some);
      within = within;
      order = more.order;
      near_first = more.near_first;
      near_last = more.near_last;
      first = λ none. absurd (omega (arith, none, c.loop-run.invariant.begun, goes.some));
      last = λ none. absurd (omega (arith, none, c.loop-run.invariant.begun, goes.some));
      lie = LieIn-run c.args.part.now.track c.args.from c.loop-run.end c.in-Some.run'.to whole (to_z w64 c.loop-run.first-bits) (to_z w64 c.loop-run.last-bits) (to_z w64 (of_z w64 c.min-first.result)) (to_z w64 (of_z w64 c.max-last.result))
          goes c.loop-run.invariant.lie more.low more.run_low more.high more.run_high;
    }

pub returns : goal.returns
returns c = record {
  begins = refl;
  within = c.loop-run.invariant.within;
  lie = c.loop-run.invariant.lie;
  some = elim c.match-next.branch [
    | in-Some+then-far w ↦
        let run = w.in-Some.ensures.steps.0 in
        let whole = w.whole-whole.result in
        let goes : Goes c.args.part.now.track c.loop-run.end w.in-Some.run'.to whole =
        Goes-run c.args.part.now.track c.loop-run.runs w.in-Some.run' c.loop-run.end whole c.loop-run.invariant.model c.loop-run.invariant.at run w.whole-whole.ensures.value in
        let from_is : w.in-Some.run'.from ≡ c.loop-run.end = run.begins ∙ c.loop-run.invariant.at in
        let most : c.args.part.now.track.samples ≤ 2 ^ 40 = c.args.part.now.track.is_model.most in
        let few : w.in-Some.run'.to ≤ 2 ^ 40 = omega (arith, run.stretch.within, c.loop-run.invariant.to, c.requires.inside, most) in
        let few_from : w.in-Some.run'.from ≤ 2 ^ 40 = omega (arith, from_is, goes.some, few) in
        let begins = recorded_is w.in-Some.run'.from c.loop-run.end whole few_from from_is w.whole-whole.ensures.bound in
        let ends = recorded_is w.in-Some.run'.to w.in-Some.run'.to whole few refl w.whole-whole.ensures.bound in
        some-before c.args.part.now.track c.args.from c.loop-run.end w.in-Some.run'.to whole (to_z w64 c.loop-run.first-bits) (to_z w64 c.loop-run.last-bits) c.loop-run.invariant.begun goes
        c.loop-run.invariant.first c.loop-run.invariant.last
        (elim w.then-far.branch [
          | then-far-via-then-far v ↦ inl (let is = w.far.ensures.0 v.if-far.true in omega (arith, ints, is, begins, c.samples_per_frame-frame.ensures.some))
          | then-far-via-else-far+then-far-2 v ↦ inr (let is = v.far-else-far.ensures.0 v.if-far-2.true in omega (arith, ints, is, ends, c.samples_per_frame-frame.ensures.some))
        ])
    | in_default w ↦ let left = w.in_default.ensures.steps.0 in omega (arith, left, c.loop-run.invariant.at, c.loop-run.invariant.to, c.requires.order)
  ];
}
