use Rattle.std.proofs.Common.{◌<◌, sym, subst, length, None, arith}
use Rattle.frame_index.proofs.ToldLemmas.{WhereTold-always}
use Rattle.station_stream.specs.Swept.{IsSwept}
use Rattle.station_stream.proofs.SweptLemmas.{AreThere, AreThere-more, IsBlank-beside, IsChanOf-at, IsFilled-all}
use Rattle.station_stream.proofs.swept.fill_swept.Goals as goal

pub loop-threads-init : goal.loop-threads-init
loop-threads-init c = record {
  blank = c.clear_outside.ensures;
  there = λ told swept. WhereTold-always told (λ t. AreThere t c.args.part.now c.args.chan.now c.args.window c.args.sweeps.now 0 c.clear_outside.new.codes)
      (λ t j k d h. absurd (omega (arith, h)));
}

pub fill_sweep-requires : goal.fill_sweep-requires
fill_sweep-requires c =
    let part = c.args.part.now in
    let t = c.threads-item.result in
    let one : IsSwept None part t =
    subst (IsSwept None part) (sym c.threads-item.is) (c.requires.swept.each c.loop-threads.threads-index t (omega arith)) in
    record {
      chan = IsChanOf-at part c.requires.chan.0 c.args.chan.now c.requires.chan.1;
      thread = one.each c.requires.chan.0 c.args.chan.now c.requires.chan.1;
      window = c.requires.window;
      long = c.loop-threads.invariant.blank.long;
      swept = one;
    }

pub loop-threads-preserved : goal.loop-threads-preserved
loop-threads-preserved c =
    let part = c.args.part.now in
    let w = c.args.window in
    let sweeps = c.args.sweeps.now in
    let i = c.loop-threads.threads-index in
    let there : i < length sweeps = omega arith in
    let t = c.threads-item.result in
    let old = c.loop-threads.codes in
    let new = c.fill_sweep.new.codes in
    let one : IsSwept None part t = subst (IsSwept None part) (sym c.threads-item.is) (c.requires.swept.each i t there) in
    record {
      blank = IsBlank-beside part w t old new one.begun one.ends c.fill_sweep.auto.codes c.fill_sweep.ensures.beside c.loop-threads.invariant.blank;
      there = λ told swept. AreThere-more told part c.args.chan.now w sweeps i t old new c.threads-item.is there c.fill_sweep.auto.codes c.fill_sweep.ensures.beside
          (c.loop-threads.invariant.there told swept)
          (c.fill_sweep.ensures.values told (subst (IsSwept told part) (sym c.threads-item.is) (swept.each i t there)));
    }

pub returns : goal.returns
returns c = λ told swept.
    IsFilled-all told c.args.part.now c.args.chan.now c.args.window c.args.sweeps.now c.loop-threads.threads-index c.loop-threads.codes
    (omega arith) swept c.loop-threads.invariant.blank (c.loop-threads.invariant.there told swept)
