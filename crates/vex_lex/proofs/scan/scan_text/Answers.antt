use Rattle.std.proofs.Common.{arith}
use Rattle.vex_lex.proofs.Gaps.{IsGap-forward}
use Rattle.vex_lex.proofs.TokenShapes.{IsToken-within}
use Rattle.vex_lex.proofs.Fronts.{LexesBetween-token}
use Rattle.vex_lex.proofs.scan.scan_text.Goals as goal

pub gap_end-at-requires-in-loop-at : goal.gap_end-at-requires-in-loop-at
gap_end-at-requires-in-loop-at c =
    (IsToken-within c.args.text.now c.in_ok-kind.kind c.loop-at.at c.in_ok-kind.end c.in_ok-kind.ensures.token).within

pub loop-at-smaller : goal.loop-at-smaller
loop-at-smaller c =
    let token = IsToken-within c.args.text.now c.in_ok-kind.kind c.loop-at.at c.in_ok-kind.end c.in_ok-kind.ensures.token in
    let gap = IsGap-forward c.args.text.now c.gap_end-at-in-loop-at.ensures.gap in
    omega (arith, token.some, token.within)

pub loop-at-preserved : goal.loop-at-preserved
loop-at-preserved c = record {
  within = c.gap_end-at-in-loop-at.ensures.within;
  front = rw c.in_ok-push.ensures.items
      (LexesBetween-token c.args.text.now 0 c.loop-at.found.items c.in_ok-kind.kind c.loop-at.at c.in_ok-kind.end c.gap_end-at-in-loop-at.result c.loop-at.invariant.front c.in_ok-kind.ensures.token c.gap_end-at-in-loop-at.ensures.gap);
  no_white = c.gap_end-at-in-loop-at.ensures.no_white;
  no_comment = c.gap_end-at-in-loop-at.ensures.no_comment;
}
