-- Where a literal is closed.
use Rattle.std.proofs.Common.{◌≡◌, ℕ, ◌+◌, ◌≤◌, List, ◌++◌, length, Bool, sym, subst, ap, arith, length-drop, length-append}
use Rattle.std.specs.Prelude.{◌↔◌, IsTrue, codes}
use Rattle.vex_lex.specs.Bytes.{HasBytes}
use Rattle.vex_lex.specs.Shapes.{OpensLiteral, ClosesLiteral}
use Rattle.vex_lex.proofs.Placed.{HasBytes-append, HasBytes-front, HasBytes-back}

abbrev end_word : List ℕ
end_word = codes "end_literal("

module _ (tag text : List ℕ) (at : ℕ) where
  behind_tag : at + length (end_word ++ tag) ≡ at + 12 + length tag
  behind_tag = omega (arith, length-append end_word tag)

  -- Behind the word and the tag, the `)` decides.
  pub ClosesLiteral-behind : HasBytes end_word text at → HasBytes tag text (at + 12) → (closes : Bool) → (IsTrue closes ↔ HasBytes (codes ")") text (at + 12 + length tag)) → IsTrue closes ↔ ClosesLiteral tag text at
  ClosesLiteral-behind has_word has_tag closes decides = (
    λ closed. HasBytes-append (end_word ++ tag) (codes ")") text at
        (HasBytes-append end_word tag text at has_word has_tag)
        (subst (HasBytes (codes ")") text) (sym behind_tag) (decides.0 closed)),
    λ has. decides.1 (subst (HasBytes (codes ")") text) behind_tag (HasBytes-back (end_word ++ tag) (codes ")") text at has)),
  )

  -- Where the literal is closed, the word stands, and the tag behind it.
  pub ClosesLiteral-word : ClosesLiteral tag text at → HasBytes end_word text at
  ClosesLiteral-word has = HasBytes-front end_word tag text at (HasBytes-front (end_word ++ tag) (codes ")") text at has)

  pub ClosesLiteral-tag : ClosesLiteral tag text at → HasBytes tag text (at + 12)
  ClosesLiteral-tag has = HasBytes-back end_word tag text at (HasBytes-front (end_word ++ tag) (codes ")") text at has)

  -- It is closed within the text.
  pub ClosesLiteral-within : ClosesLiteral tag text at → at + 13 + length tag ≤ length text
  ClosesLiteral-within has = omega (arith, length-drop at text, ap length has.1, length-append (tag ++ codes ")") has.0, length-append tag (codes ")"))

-- A literal is opened within the text.
pub OpensLiteral-within : (text : List ℕ) (at : ℕ) → OpensLiteral text at → at + 14 ≤ length text
OpensLiteral-within text at has = omega (arith, length-drop at text, ap length has.1)
