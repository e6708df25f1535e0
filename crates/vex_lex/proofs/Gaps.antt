-- Gaps of a text.
use Rattle.std.proofs.Common.{ℕ, ◌+◌, ◌≤◌, List, length, ⊎_elim, arith}
use Rattle.vex_lex.specs.Bytes.{IsWhite, IsAt}
use Rattle.vex_lex.specs.Shapes.{IsComment, EndsComment}
use Rattle.vex_lex.specs.Grammar.{IsGap}
use Rattle.vex_lex.specs.Grammar.IsGap.{none, white, comment}

-- Two gaps, one behind the other, are one.
pub IsGap-append : (text : List ℕ) {from mid to : ℕ} → IsGap text from mid → IsGap text mid to → IsGap text from to
IsGap-append text none next = next
IsGap-append text (white here gap) next = white here (IsGap-append text gap next)
IsGap-append text (comment here gap) next = comment here (IsGap-append text gap next)

-- A gap goes on with a white byte.
pub IsGap-white : (text : List ℕ) {from to : ℕ} → IsGap text from to → IsAt IsWhite text to → IsGap text from (to + 1)
IsGap-white text gap here = IsGap-append text gap (white here none)

-- A gap goes on with a comment.
pub IsGap-comment : (text : List ℕ) {from mid to : ℕ} → IsGap text from mid → IsComment text mid to → IsGap text from to
IsGap-comment text gap here = IsGap-append text gap (comment here none)

-- A comment ends within the text.
pub EndsComment-within : (text : List ℕ) (place : ℕ) → EndsComment text place → place ≤ length text
EndsComment-within text place ends = ⊎_elim (λ at_end. omega arith) (λ line_feed. omega arith) ends

-- A gap goes forward.
pub IsGap-forward : (text : List ℕ) {from to : ℕ} → IsGap text from to → from ≤ to
IsGap-forward text none = omega arith
IsGap-forward text (white here gap) = let behind = IsGap-forward text gap in omega arith
IsGap-forward text (comment here gap) = let behind = IsGap-forward text gap in let end = here.ends.before.reached in omega arith
