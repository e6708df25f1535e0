use Rattle.std.proofs.Common.{arith}
use Rattle.vex_lex.specs.Grammar.IsGap.{none}
use Rattle.vex_lex.proofs.Gaps.{IsGap-white, IsGap-comment, EndsComment-within}
use Rattle.vex_lex.proofs.ends.gap_end.Goals as goal

pub loop-at-init : goal.loop-at-init
loop-at-init c = record { within = omega arith; gap = none }

pub loop-at-preserved-then-text-at-eq42 : goal.loop-at-preserved-then-text-at-eq42
loop-at-preserved-then-text-at-eq42 c = record {
  within = EndsComment-within c.args.text.now _ c.comment_end-at.ensures.here;
  gap = IsGap-comment c.args.text.now c.loop-at.invariant.gap (record { opens = (c.loop-at-test.true, c.if-text-at-eq42.true); ends = c.comment_end-at.ensures });
}

pub loop-at-preserved : goal.loop-at-preserved
loop-at-preserved c = record {
  within = omega arith;
  gap = IsGap-white c.args.text.now c.loop-at.invariant.gap (c.loop-at-test.true, c.is_white.ensures.0 c.if-is_white.true);
}
