use Rattle.std.proofs.Common.{refl, ap, sym, ◌∙◌, append-nil}
use Rattle.sink_text.proofs.WrittenText.{Puts-failed, Puts-sent}
use Rattle.sink_text.proofs.stretch.Stretch.hand_over.Goals as goal

pub returns-then-self-clause-puts : goal.returns-then-self-clause-puts
returns-then-self-clause-puts g c =
    let was = ap (λ s. s.failed) (sym c.self.view_is) ∙ c.if-self.true in
    Puts-failed _ _ _ _ _ was c.if-self.true

pub returns-clause-puts : goal.returns-clause-puts
returns-clause-puts g c =
    let was = ap (λ s. s.failed) (sym c.self.view_is) ∙ c.if-self.false in
    let whole = ap (λ s. s.held) c.self.view_is ∙ sym (append-nil c.args.self.now.held) in
    Puts-sent c.write_all-written.result _ _ _ _ _ _ _ _ was c.is_err-self-inside.ensures.value refl whole
    c.write_all-written.ensures.ok
    c.write_all-written.ensures.prefix
    c.write_all-written.ensures.counts
