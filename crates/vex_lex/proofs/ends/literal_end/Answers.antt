use Rattle.std.proofs.Common.{ℕ, ◌+◌, subst}
use Rattle.vex_lex.specs.Bytes.{HasByte}
use Rattle.vex_lex.specs.First.{IsFirst}
use Rattle.vex_lex.specs.Shapes.{ClosesLiteral, span}
use Rattle.vex_lex.proofs.Firsts.{IsFirst-one}
use Rattle.vex_lex.proofs.Literals.{OpensLiteral-within}
use Rattle.vex_lex.proofs.Closes.{IsTag-plain}
use Rattle.vex_lex.proofs.ends.literal_end.Goals as goal

pub tag_end-requires : goal.tag_end-requires
tag_end-requires c = OpensLiteral-within c.args.text.now c.args.from c.requires

pub literal_close-requires-clause-plain : goal.literal_close-requires-clause-plain
literal_close-requires-clause-plain c = IsTag-plain c.args.text.now (c.args.from + 14) c.in-Some.end c.in-Some.ensures.some

-- The tag of a literal that begins here is the one that was found, which is nowhere closed.
pub returns-in_default-literal_close-clause-none : goal.returns-in_default-literal_close-clause-none
returns-in_default-literal_close-clause-none c = λ to literal.
    let same = IsFirst-one (HasByte 41 c.args.text.now) (c.args.from + 14) literal.tag_end c.in-Some.end literal.tag.ends (c.in-Some.ensures.some).ends in
    c.in_default-literal_close.ensures.none literal.last
    (subst (λ (end : ℕ). IsFirst (ClosesLiteral (span c.args.text.now (c.args.from + 14) end) c.args.text.now) (end + 1) literal.last) same literal.closes)
