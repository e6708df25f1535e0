use Rattle.std.proofs.Common.{◌+◌, ◌≤◌, ◌++◌, ◌∙◌, sym, ap, length}
use Rattle.std.proofs.lemmas.List.Elements.{All-drop}
use Rattle.vex_lex.specs.declared.token.Token.{Token}
use Rattle.vex_reader.proofs.PartLemmas.{values_of-step, values_of-last}
use Rattle.vex_reader.proofs.values.values_of.Goals as goal

pub loop-value-preserved : goal.loop-value-preserved
loop-value-preserved c =
    let text = c.args.text.now in
    let within = λ (token : Token). token.at + token.len ≤ length text in (
      rw (c.in_ok-push.ensures.items, c.in_ok-value_of.ensures)
          (values_of-step text c.loop-value.values.items _ c.loop-value.rest.now c.in-Some.value.now c.in-Some.behind.now c.in-Some.ensures c.loop-value.invariant.0),
      rw (c.in-Some.ensures.2) (All-drop within _ c.loop-value.rest.now c.loop-value.invariant.1),
    )

pub returns : goal.returns
returns c =
    rw (c.of.ensures, c.in_ok-push-2.ensures.items, c.in_ok-value_of-2.ensures)
    (ap (λ parts. c.loop-value.values.items ++ parts) (sym (values_of-last c.args.text.now c.loop-value.rest.now c.in_default.ensures)) ∙ c.loop-value.invariant.0)
