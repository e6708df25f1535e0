use Rattle.std.proofs.Common.{◌≡◌, ◌∙◌, ◌∷◌, [], ℕ, Some, length, ap, refl, arith, rules}
use Rattle.std.proofs.lemmas.List.{length-append}
use Rattle.std.specs.List.{slice_get}
use Rattle.std.proofs.lemmas.List.Elements.{All-push}
use Rattle.std.proofs.lemmas.Option.{slice_get_within}
use Rattle.job_plan.specs.declared.plan.StayPlan.{StayPlan}
use Rattle.station_stream.specs.declared.stay_frames.StayFrames.{StayFrames}
use Rattle.station_stream.specs.StayFrames.{HoldStay}
use Rattle.epoch_run.proofs.PlaneValues.{each-more}
use Rattle.run_sums.specs.Frames.{IsOfSamples}
use Rattle.run_sums.proofs.parts.read_stations.Goals as goal

pub loop-place-init : goal.loop-place-init
loop-place-init g c =
    let none : length c.new-stations.result.items ≡ 0 = ap length c.new-stations.ensures.items in
    record {
      same = refl;
      faults = refl;
      count = none;
      window = λ k d h. absurd (omega (arith, h, none));
      held = λ k d h. absurd (omega (arith, h));
    }

pub loop-place-preserved : goal.loop-place-preserved
loop-place-preserved g c =
    let told = g.F.Shelf.told c.args.shelf.now in
    let frames = c.in_ok-frames.frames in
    let inv = c.loop-place.invariant in
    record {
      same = c.in_ok-frames.ensures.same ∙ inv.same;
      faults = c.in_ok-frames.ensures.counts.kept ∙ inv.faults;
      count = omega (arith, ap length c.in_ok-push.ensures.items, length-append c.loop-place.stations.items (frames ∷ []), inv.count);
      window = rw c.in_ok-push.ensures.items (All-push (IsOfSamples c.args.from c.args.to) c.loop-place.stations.items frames inv.window c.in_ok-frames.ensures.window);
      held = rw c.in_ok-push.ensures.items
          (each-more (λ (k : ℕ) (f : StayFrames). (stay : StayPlan) → slice_get c.args.scan.now.stays k ≡ Some stay
          → HoldStay told c.args.plan.now c.args.scan.now stay c.args.recordings.now f) c.loop-place.stations.items frames c.loop-place.place inv.count inv.held
          (rw inv.same at c.in_ok-frames.ensures.held));
    }

pub returns-clause-frames : goal.returns-clause-frames
returns-clause-frames g c =
    let all : c.loop-place.place ≡ length c.args.scan.now.stays = search rules in
    record {
      count = c.loop-place.invariant.count ∙ all;
      window = c.loop-place.invariant.window;
      held = λ place stay d is. c.loop-place.invariant.held place d (omega (arith, all, slice_get_within c.args.scan.now.stays place stay is)) stay is;
    }
