use Rattle.vex_lex.proofs.Literals.{ClosesLiteral-behind, ClosesLiteral-word, ClosesLiteral-tag}
use Rattle.vex_lex.proofs.ends.closes_literal.Goals as goal
use Rattle.vex_lex.proofs.ends.closes_literal.Goals.{then-has_bytes, else-has_bytes}

pub returns-then-has_bytes-2 : goal.returns-then-has_bytes-2
returns-then-has_bytes-2 c =
    elim c.if-has_bytes.branch [
      | then-has_bytes w ↦ ClosesLiteral-behind c.args.tag.now c.args.text.now c.args.at (c.has_bytes.ensures.has.0 w.if-has_bytes.true) (w.has_bytes-then-has_bytes.ensures.has.0 (cc)) c.has_bytes-then-has_bytes-2.result c.has_bytes-then-has_bytes-2.ensures.has
      | else-has_bytes w ↦ absurd (cc)
    ]

pub returns-else-has_bytes-2 : goal.returns-else-has_bytes-2
returns-else-has_bytes-2 c =
    elim c.if-has_bytes.branch [
      | then-has_bytes w ↦ (λ closed. absurd (cc), λ has. let has_tag = w.has_bytes-then-has_bytes.ensures.has.1 (ClosesLiteral-tag c.args.tag.now c.args.text.now c.args.at has) in absurd (cc))
      | else-has_bytes w ↦ (λ closed. absurd (cc), λ has. let has_word = c.has_bytes.ensures.has.1 (ClosesLiteral-word c.args.tag.now c.args.text.now c.args.at has) in absurd (cc))
    ]
