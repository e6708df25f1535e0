use Rattle.std.proofs.Common.{◌≡◌, ◌∙◌, ap, sym, subst, ℕ, ℤ, to_z, of_z, w64, below_more, arith, rules}
use Rattle.std.proofs.lemmas.Int.{to_z-of_z}
use Rattle.station_stream.specs.FrameSlots.{slot_at, IsRun}
use Rattle.station_stream.proofs.ThreadLemmas.{IsRun-one}
use Rattle.station_stream.proofs.frame_run.run_len.Goals as goal

pub loop-n-init : goal.loop-n-init
loop-n-init c =
    IsRun-one c.args.index.now c.args.part.now c.args.thread (to_z w64 (of_z w64 c.args.start)) c.args.i c.args.at c.args.size
    (ap (λ (z : ℤ). slot_at c.args.index.now c.args.part.now c.args.thread z c.args.i) (to_z-of_z w64 c.args.start c.ranges.start) ∙ c.requires.found)

pub loop-n-preserved : goal.loop-n-preserved
loop-n-preserved c = below_more _ _ c.loop-n.invariant (sym c.find_slot-found.ensures ∙ c.stands_behind.ensures (search rules))

pub returns-then-not-stands_behind-clause-run : goal.returns-then-not-stands_behind-clause-run
returns-then-not-stands_behind-clause-run c =
    subst (λ (z : ℤ). IsRun c.args.index.now c.args.part.now c.args.thread z c.args.i c.args.at c.args.size c.loop-n.n) (to_z-of_z w64 c.args.start c.ranges.start) c.loop-n.invariant

pub returns-clause-run : goal.returns-clause-run
returns-clause-run c =
    let all : c.loop-n.n ≡ c.args.most = omega arith in
    subst (λ (n : ℕ). IsRun c.args.index.now c.args.part.now c.args.thread c.args.start c.args.i c.args.at c.args.size n) all
    (subst (λ (z : ℤ). IsRun c.args.index.now c.args.part.now c.args.thread z c.args.i c.args.at c.args.size c.loop-n.n) (to_z-of_z w64 c.args.start c.ranges.start) c.loop-n.invariant)
