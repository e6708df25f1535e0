use Rattle.std.proofs.Common.{sym, ◌∙◌, arith}
use Rattle.std.proofs.lemmas.List.Folds.{list_all-map, list_all_at}
use Rattle.std.proofs.lemmas.List.Sums.{list_all-from_AllPass}
use Rattle.vex_lex.specs.declared.token.Token.{Token}
use Rattle.vex_reader.specs.Shapes.{Mark, mark_of, stands_in_values}
use Rattle.vex_reader.proofs.PartLemmas.{some_token}
use Rattle.vex_reader.proofs.values.are_values.Goals as goal

pub returns-then-not-stands_in_values : goal.returns-then-not-stands_in_values
returns-then-not-stands_in_values c text =
    sym (list_all-map (λ (mark : Mark). stands_in_values mark.0) (mark_of text) c.args.tokens.now
    ∙ list_all_at (λ (token : Token). stands_in_values token.kind) c.args.tokens.now c.loop-token.token-index some_token (omega arith)
    (sym c.stands_in_values.ensures ∙ c.if-not-stands_in_values.true))

pub returns : goal.returns
returns c text =
    sym (list_all-map (λ (mark : Mark). stands_in_values mark.0) (mark_of text) c.args.tokens.now
    ∙ list_all-from_AllPass (λ (token : Token). stands_in_values token.kind) c.args.tokens.now
    (λ k d below. c.loop-token.invariant k d (omega arith)))
