use Rattle.std.proofs.Common.{◌≡◌, ◌+◌, ◌-◌, ◌≤◌, ◌∙◌, ap, sym, length, arith}
use Rattle.delay_track.specs.Track.{model_of}
use Rattle.corr_model.specs.Rotated.{Band}
use Rattle.fringe_turns.specs.Direction.{direction_at}
use Rattle.fringe_turns.specs.Turns.{TurnsFields}
use Rattle.station_stream.proofs.PartLemmas.{length-part}
use Rattle.station_stream.proofs.TurnLemmas.{TurnLies-from, value_of-turn, left-turn}
use Rattle.station_stream.proofs.turned.turn_levels.Goals as goal

pub loop-turn-preserved : goal.loop-turn-preserved
loop-turn-preserved c =
    let track = c.args.part.now.track in
    let band : Band = record { hertz = c.args.chan.now.hertz; upper = c.args.chan.now.upper } in
    let codes = c.loop-turn.codes in
    let part = c.turn_codes.new.codes in
    let turn = c.in-Some.turn in
    let turns = c.loop-turn.turns in
    let next = c.in-Some.ensures.steps.1 in
    let lies = TurnLies-from turns.model (model_of track) turns.band band c.args.from (length c.args.codes.now) turns.at turns.to turn
    c.loop-turn.invariant.model c.loop-turn.invariant.band c.in-Some.ensures.steps.0 c.loop-turn.invariant.begun c.loop-turn.invariant.to in
    let a = turn.from - c.args.from in
    let n = turn.to - c.args.from - a in
    let room : a + n ≤ length codes = omega (arith, lies.begun, lies.after, lies.end, c.loop-turn.auto.codes) in
    let count : n ≡ turn.to - turn.from = omega (arith, lies.begun, lies.after, lies.end) in
    let all : c.args.from + length c.args.codes.now ≡ c.args.from + length codes = ap (λ l. c.args.from + l) (sym c.loop-turn.auto.codes) in
    let size = length-part codes a n room in
    let long : length part ≡ n = c.turn_codes.auto.codes ∙ size in
    let at : c.next.new.self.at ≡ turn.to = ap (λ (s : TurnsFields). s.at) next in
    let to : c.next.new.self.to ≡ turns.to = ap (λ (s : TurnsFields). s.to) next in record {
      model = ap (λ (s : TurnsFields). s.model) next ∙ c.loop-turn.invariant.model;
      band = ap (λ (s : TurnsFields). s.band) next ∙ c.loop-turn.invariant.band;
      to = to ∙ c.loop-turn.invariant.to;
      begun = omega (arith, at, lies.begun, lies.after);
      within = omega (arith, at, to, lies.end, c.loop-turn.invariant.to);
      turned = λ k level h taken. value_of-turn (direction_at (model_of track) band) c.args.from turn.from turn.to turn.direction n c.args.codes.now codes part
          lies.direction lies.begun (omega (arith, lies.after)) (omega (arith, lies.end, all)) count long
          (λ j l before. c.loop-turn.invariant.turned j l (omega (arith, before, c.in-Some.ensures.steps.0.begins)))
          (λ j behind. c.loop-turn.invariant.left j (omega (arith, behind, c.in-Some.ensures.steps.0.begins)))
          (λ j l below was. c.turn_codes.ensures j l (omega (arith, below, size)) was) k level (omega (arith, h, at)) taken;
      left = λ k h. left-turn c.args.from turn.from turn.to n c.args.codes.now codes part lies.begun (omega (arith, lies.after)) (omega (arith, lies.end, all)) count long
          (λ j behind. c.loop-turn.invariant.left j (omega (arith, behind, c.in-Some.ensures.steps.0.begins))) k (omega (arith, h, at));
    }
