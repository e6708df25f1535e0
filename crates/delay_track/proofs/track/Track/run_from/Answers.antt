use Rattle.std.proofs.Common.{◌≡◌, w64, FitsSigned, refl, sym, ◌∙◌, arith}
use Rattle.std.proofs.lemmas.Int.{ints}
use Rattle.corr_model.specs.Delay.{whole_at}
use Rattle.delay_track.specs.Track.{model_of}
use Rattle.delay_track.proofs.StretchLemmas.{goes_on}
use Rattle.delay_track.proofs.track.Track.run_from.Goals as goal

pub loop-end-preserved : goal.loop-end-preserved
loop-end-preserved c =
    let m = model_of c.args.self.now in
    let fits : FitsSigned w64 c.whole_on-whole.result = omega (arith, ints, c.whole_on-whole.ensures.bound) in
    let fits_here : FitsSigned w64 c.whole_on.result = omega (arith, ints, c.whole_on.ensures.bound) in
    let one : c.whole_on.result ≡ c.whole_on-whole.result = grind (arith, ints) in
    let here : whole_at m c.loop-end.end ≡ whole_at m c.args.from = sym c.whole_on.ensures.value ∙ one ∙ c.whole_on-whole.ensures.value in
    record {
      after = omega (arith, c.loop-end.invariant.after, c.whole_end-end-in-loop-end.ensures.after);
      order = omega (arith, c.whole_end-end-in-loop-end.ensures.within, c.piece_with-piece-in-loop-end.ensures.within);
      within = c.piece_with-piece-in-loop-end.ensures.within;
      line = c.piece_with-piece-in-loop-end.ensures.line;
      value = c.loop-end.invariant.value;
      same = goes_on (whole_at m) c.args.from c.loop-end.end c.whole_end-end-in-loop-end.result c.loop-end.invariant.same here c.whole_end-end-in-loop-end.ensures.same;
    }

pub returns-clause-run : goal.returns-clause-run
returns-clause-run c =
    let ends : c.loop-end.end ≡ c.args.to = omega (arith, c.loop-end.invariant.order, c.loop-end-test.false) in
    record {
      begins = refl;
      whole = c.loop-end.invariant.value;
      stretch = record {
        after = c.requires.order;
        within = omega arith;
        same = rw ends at c.loop-end.invariant.same;
        longest = λ before. absurd (omega (arith, before));
      };
    }
