use Rattle.std.proofs.Common.{◌∙◌, ◌+◌, ◌++◌, ◌∷◌, [], refl, sym, ap, subst, arith}
use Rattle.station_stream.specs.declared.sweep.Sweep.{Sweep}
use Rattle.station_stream.specs.Swept.{AreSwept}
use Rattle.station_stream.proofs.SweptLemmas.{AreSwept-none, AreSwept-push, AreSwept-all}
use Rattle.station_stream.proofs.swept.read_swept.Goals as goal

pub loop-at-init : goal.loop-at-init
loop-at-init g c = record {
  same = refl;
  faults = refl;
  begun = omega (arith, c.clip-at.ensures);
  swept = subst (AreSwept (g.F.Shelf.told c.args.shelf.now) c.args.part.now c.args.window.from c.clip-at.result) (sym c.new-sweeps.ensures.items)
      (AreSwept-none (g.F.Shelf.told c.args.shelf.now) c.args.part.now c.args.window.from c.clip-at.result (omega (arith, c.clip-at.ensures)));
}

pub loop-at-preserved : goal.loop-at-preserved
loop-at-preserved g c =
    let told = g.F.Shelf.told c.args.shelf.now in
    let part = c.args.part.now in
    let w = c.args.window in
    let sweep = c.of-sweep.result in
    let is = c.of-sweep.ensures in
    let t = c.in_ok-threads.threads in
    let same = c.in_ok-threads.ensures.sweep in
    record {
      same = c.in_ok-threads.ensures.same ∙ c.loop-at.invariant.same;
      faults = c.in_ok-threads.ensures.counts.kept ∙ c.loop-at.invariant.faults;
      begun = omega (arith, c.loop-at.invariant.begun, is.begins, is.some);
      swept = rw c.in_ok-push.ensures.items
          (subst (λ (s : Sweep). AreSwept told part w.from s.to (c.loop-at.sweeps.items ++ t ∷ [])) same
          (AreSwept-push told part w.from c.loop-at.at c.loop-at.sweeps.items t c.loop-at.invariant.swept (rw c.loop-at.invariant.same at c.in_ok-threads.ensures.swept)
          (ap (λ (s : Sweep). s.from) same ∙ is.begins)));
    }

pub returns-clause-swept : goal.returns-clause-swept
returns-clause-swept g c =
    AreSwept-all (g.F.Shelf.told c.args.shelf.now) c.args.part.now c.args.window.from c.loop-at.at (c.args.window.from + c.args.window.count) c.loop-at.sweeps.items
    (omega (arith, c.loop-at-test.false, c.clip-to.ensures)) (omega arith) c.loop-at.invariant.swept
