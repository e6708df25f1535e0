use Rattle.std.proofs.Common.{◌≡◌, ◌⊎◌, ◌+◌, ◌≤◌, ◌∙◌, length, inl, inr, ⊎_elim, Err}
use Rattle.std.proofs.lemmas.Result.{err_from_is_err_and}
use Rattle.std.proofs.lemmas.List.Elements.{All-drop}
use Rattle.vex_lex.specs.declared.token.Token.{Token}
use Rattle.vex_reader.specs.Fault.{out_of_memory}
use Rattle.vex_reader.specs.Reading.{reading}
use Rattle.vex_reader.specs.ReadingState.{state_of}
use Rattle.vex_reader.proofs.ReadingLemmas.{reading_last, reading_past, reading_stops}
use Rattle.vex_reader.proofs.pass.read_tokens.Goals as goal

pub returns-in_err-state : goal.returns-in_err-state
returns-in_err-state c =
    let p = err_from_is_err_and c.from_residual.result c.from_residual.ensures.1 in
    let fault = c.in_err-state.field-0.0 in
    let due = reading c.args.text.now c.args.tokens.now in
    let answer : (fault ≡ out_of_memory) ⊎ (due ≡ Err fault) =
    ⊎_elim inl
    (λ stops. inr (c.loop-statement.invariant.0
    ∙ reading_stops c.args.text.now (state_of c.loop-statement.state) c.loop-statement.rest.now c.in-Some.statement.now c.in-Some.behind.now fault c.in-Some.ensures stops))
    c.in_err-state.ensures.fault in
    rw (p.1, p.2) answer

pub loop-statement-preserved : goal.loop-statement-preserved
loop-statement-preserved c =
    let text = c.args.text.now in
    let within = λ (token : Token). token.at + token.len ≤ length text in (
      c.loop-statement.invariant.0
          ∙ reading_past text (state_of c.loop-statement.state) c.loop-statement.rest.now c.in-Some.statement.now c.in-Some.behind.now (state_of c.in_ok-state.state)
          c.in-Some.ensures c.in_ok-state.ensures.faultless c.in_ok-state.ensures.next,
      rw (c.in-Some.ensures.2) (All-drop within _ c.loop-statement.rest.now c.loop-statement.invariant.1),
    )

pub returns : goal.returns
returns c =
    rw (c.loop-statement.invariant.0, reading_last c.args.text.now (state_of c.loop-statement.state) c.loop-statement.rest.now c.in_default.ensures) c.finish.ensures
