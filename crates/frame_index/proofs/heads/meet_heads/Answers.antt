use Rattle.std.proofs.Common.{◌≡◌, ap, ℕ, arith}
use Rattle.frame_index.specs.Pieces.{placed_run}
use Rattle.frame_index.proofs.PieceLemmas.{heads-step, Extends-same}
use Rattle.frame_index.proofs.heads.meet_heads.Goals as goal

pub loop-j-preserved : goal.loop-j-preserved
loop-j-preserved c = record {
  extends = heads-step c.args.shape.now c.args.layout.now c.args.file c.args.k c.args.n c.loop-j.j c.args.heads.now c.args.builder.now c.loop-j.builder c.meet_head.new.builder
      c.requires.layout c.requires.long c.loop-j-test.true c.loop-j.invariant.extends c.in_ok-meet_head.ensures.extends;
  slots = omega (arith, c.in_ok-meet_head.ensures.slots, c.loop-j.invariant.slots);
}

pub returns-clause-extends : goal.returns-clause-extends
returns-clause-extends c = λ bytes piece.
    let all : c.loop-j.j ≡ c.args.n = omega arith in
    Extends-same c.args.shape.now c.args.builder.now c.loop-j.builder _ _
    (ap (λ (n : ℕ). placed_run c.args.shape.now.frame_bytes c.args.file bytes c.args.k n) all) (c.loop-j.invariant.extends bytes piece)
