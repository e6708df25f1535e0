use Rattle.std.proofs.Common.{sym, ◌∙◌, arith}
use Rattle.std.proofs.lemmas.List.Sums.{position_or_len_is}
use Rattle.vex_reader.specs.Shapes.{is_sign}
use Rattle.vex_reader.proofs.PartLemmas.{some_token}
use Rattle.vex_reader.proofs.parts.sign_place.Goals as goal

pub returns-else-not-is_sign-clause-place : goal.returns-else-not-is_sign-clause-place
returns-else-not-is_sign-clause-place c =
    sym (position_or_len_is (λ token. is_sign c.args.sign token.kind) c.args.tokens.now c.loop-at.at some_token (omega arith)
    (λ k below. c.loop-at.invariant.1 k some_token below)
    (λ below. sym c.is_sign.ensures ∙ c.if-not-is_sign.false))

pub returns-after-loop-at-clause-place : goal.returns-after-loop-at-clause-place
returns-after-loop-at-clause-place c =
    sym (position_or_len_is (λ token. is_sign c.args.sign token.kind) c.args.tokens.now c.loop-at.at some_token (omega arith)
    (λ k below. c.loop-at.invariant.1 k some_token below)
    (λ below. absurd (omega arith)))
