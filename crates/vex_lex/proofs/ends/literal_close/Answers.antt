use Rattle.std.proofs.Common.{arith}
use Rattle.vex_lex.proofs.Closes.{Passes-start, Passes-other, Passes-sign, Passes-found, Passes-never}
use Rattle.vex_lex.proofs.ends.literal_close.Goals as goal
use Rattle.vex_lex.proofs.ends.literal_close.Goals.{then-text-at-eq41+else-is_closed_by, else-text-at-eq41}

pub loop-at-init : goal.loop-at-init
loop-at-init c = record { within = omega arith; passes = Passes-start c.args.tag.now c.args.text.now c.args.from }

pub returns-then-is_closed_by-clause-some : goal.returns-then-is_closed_by-clause-some
returns-then-is_closed_by-clause-some c =
    let closed = c.is_closed_by.ensures.0 c.if-is_closed_by.true in
    Passes-found c.args.tag.now c.args.text.now c.args.from c.loop-at.behind c.loop-at.at c.loop-at.invariant.passes closed.0 closed.1

pub loop-at-preserved : goal.loop-at-preserved
loop-at-preserved c =
    let tag = c.args.tag.now in
    let text = c.args.text.now in
    let walk = c.loop-at.invariant.passes in
    elim c.if-text-at-eq41.branch [
      | then-text-at-eq41+else-is_closed_by w ↦ record {
        within = omega arith;
        passes = rw w.behind-is (Passes-sign tag text c.requires.plain c.args.from c.loop-at.behind c.loop-at.at walk w.if-text-at-eq41.true
            (λ closed. let yes_it = w.is_closed_by.ensures.1 closed in absurd (cc)));
      }
      | else-text-at-eq41 w ↦ record {
        within = omega arith;
        passes = rw w.behind-is (Passes-other tag text c.args.from c.loop-at.behind c.loop-at.at walk (λ same. w.if-text-at-eq41.false same));
      }
    ]

pub returns-clause-none : goal.returns-clause-none
returns-clause-none c =
    Passes-never c.args.tag.now c.args.text.now c.args.from c.loop-at.behind c.loop-at.at c.loop-at.invariant.passes (omega arith)
