use Rattle.std.proofs.Common.{◌≡◌, ◌+◌, ◌-◌, ◌≤◌, ◌∙◌, ap, sym, length, rules, w64, FitsSigned, arith}
use Rattle.corr_model.specs.Delay.{whole_at}
use Rattle.delay_track.specs.Track.{model_of}
use Rattle.delay_track.specs.Runs.{RunsFields}
use Rattle.station_stream.proofs.PartLemmas.{length-part}
use Rattle.station_stream.proofs.RunLemmas.{RunLies-from, IsTaken-run}
use Rattle.station_stream.proofs.levels.fill_levels.Goals as goal

pub fill_run-requires : goal.fill_run-requires
fill_run-requires c =
    let run = c.in-Some.run' in
    let runs = c.loop-run.runs in
    let fits : FitsSigned w64 run.whole = search rules in
    let lies = RunLies-from c.args.part.now.shape c.args.frames.now c.args.first c.args.last runs.model (model_of c.args.part.now.track) c.args.from (length c.args.codes.now) runs.at runs.to run
    c.abs_diff-past.result c.loop-run.invariant.model c.in-Some.ensures.steps.0 c.loop-run.invariant.begun c.loop-run.invariant.to
    (omega (arith, c.requires.inside, c.args.part.now.track.is_model.most)) c.ranges.last fits c.requires.reach c.requires.delayed c.abs_diff-past.ensures in
    let a = run.from - c.args.from in
    let n = run.to - c.args.from - a in
    let room : a + n ≤ length c.loop-run.codes = omega (arith, lies.begun, lies.after, lies.end, c.loop-run.auto.codes) in
    let count : n ≡ run.to - run.from = omega (arith, lies.begun, lies.after, lies.end) in
    let size = length-part c.loop-run.codes a n room in record {
      index = c.requires.index;
      bytes = c.requires.reach.bytes;
      inside = omega (arith, lies.inside, count, size);
      near = omega (arith, lies.near, count, size);
    }

pub loop-run-preserved : goal.loop-run-preserved
loop-run-preserved c =
    let codes = c.loop-run.codes in
    let part = c.fill_run.new.codes in
    let run = c.in-Some.run' in
    let runs = c.loop-run.runs in
    let model = model_of c.args.part.now.track in
    let next = c.in-Some.ensures.steps.1 in
    let fits : FitsSigned w64 run.whole = search rules in
    let lies = RunLies-from c.args.part.now.shape c.args.frames.now c.args.first c.args.last runs.model model c.args.from (length c.args.codes.now) runs.at runs.to run
    c.abs_diff-past.result c.loop-run.invariant.model c.in-Some.ensures.steps.0 c.loop-run.invariant.begun c.loop-run.invariant.to
    (omega (arith, c.requires.inside, c.args.part.now.track.is_model.most)) c.ranges.last fits c.requires.reach c.requires.delayed c.abs_diff-past.ensures in
    let a = run.from - c.args.from in
    let n = run.to - c.args.from - a in
    let room : a + n ≤ length codes = omega (arith, lies.begun, lies.after, lies.end, c.loop-run.auto.codes) in
    let count : n ≡ run.to - run.from = omega (arith, lies.begun, lies.after, lies.end) in
    let size = length-part codes a n room in
    let at : c.next.new.self.at ≡ run.to = ap (λ (s : RunsFields). s.at) next in
    let to : c.next.new.self.to ≡ runs.to = ap (λ (s : RunsFields). s.to) next in record {
      model = ap (λ (s : RunsFields). s.model) next ∙ c.loop-run.invariant.model;
      to = to ∙ c.loop-run.invariant.to;
      begun = omega (arith, at, lies.begun, lies.after);
      within = omega (arith, at, to, lies.end, c.loop-run.invariant.to);
      taken = λ k h. IsTaken-run c.args.part.now.shape c.args.frames.now c.args.index (whole_at model) c.args.from run.from (c.args.from + length c.args.codes.now) run.to c.abs_diff-past.result n codes part
          lies.stretch lies.begun (ap (λ l. c.args.from + l) (sym c.loop-run.auto.codes)) (c.fill_run.auto.codes ∙ size ∙ count) lies.low lies.past_is
          (λ j before. c.loop-run.invariant.taken j (omega (arith, before, c.in-Some.ensures.steps.0.begins)))
          (λ j below. c.fill_run.ensures j (omega (arith, below, size, count))) k (omega (arith, h, at));
    }
