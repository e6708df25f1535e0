use Rattle.std.proofs.Common.{◌∙◌, ◌≤◌, refl, sym, subst, None, get_or, below_more, arith}
use Rattle.std.specs.List.{Contains}
use Rattle.std.specs.Option.{ForSome}
use Rattle.station_stream.specs.declared.sweep.Sweep.{Sweep}
use Rattle.station_stream.specs.Sweep.{LieIn}
use Rattle.station_stream.proofs.SweptLemmas.{Contains-each}
use Rattle.station_stream.proofs.swept.read_sweep.Goals as goal

pub loop-chan-init : goal.loop-chan-init
loop-chan-init g c = record {
  same = refl;
  faults = refl;
  sweep = c.new-threads.ensures.sweep;
  threads = c.new-threads.ensures.none (g.F.Shelf.told c.args.shelf.now) c.args.part.now;
  there = λ k h. absurd (omega (arith, h));
}

pub loop-chan-preserved : goal.loop-chan-preserved
loop-chan-preserved g c =
    let numbers = c.add_chan.new.threads.numbers.items in
    let kept = c.in_ok-add_chan.ensures.kept in
    record {
      same = c.in_ok-add_chan.ensures.same ∙ c.loop-chan.invariant.same;
      faults = c.in_ok-add_chan.ensures.counts.kept ∙ c.loop-chan.invariant.faults;
      sweep = c.in_ok-add_chan.ensures.sweep ∙ c.loop-chan.invariant.sweep;
      threads = rw c.loop-chan.invariant.same at c.in_ok-add_chan.ensures.threads;
      there = λ k h. below_more (λ j. ForSome (get_or c.args.part.now.chans.now j None) (λ chan. Contains numbers chan.thread)) c.loop-chan.chan-index
          (λ j before chan is. kept chan.thread (c.loop-chan.invariant.there j before chan is))
          c.in_ok-add_chan.ensures.there
          k h;
    }

pub returns-clause-swept : goal.returns-clause-swept
returns-clause-swept g c =
    let part = c.args.part.now in
    let same = sym c.loop-chan.invariant.sweep in
    record {
      begun = subst (λ (s : Sweep). part.from ≤ s.from) same c.requires.begun;
      order = subst (λ (s : Sweep). s.from ≤ s.to) same c.requires.order;
      ends = subst (λ (s : Sweep). s.to ≤ part.to) same c.requires.ends;
      lie = subst (λ (s : Sweep). LieIn part.track s.from s.to s.first s.last) same c.requires.lie;
      threads = c.loop-chan.invariant.threads;
      each = Contains-each part c.loop-chan.chan-index c.loop-chan.threads.numbers.items (omega arith) c.loop-chan.invariant.there;
    }
