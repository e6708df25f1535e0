use Rattle.std.proofs.Common.{ap, sym, ◌∙◌}
use Rattle.sink_text.proofs.WrittenText.{Ends-ok, Ends-err}
use Rattle.sink_text.proofs.stretch.Stretch.finish.Goals as goal

pub returns-then-self : goal.returns-then-self
returns-then-self g c =
    let failed = ap (λ s. s.failed) (sym c.self.view_is) ∙ c.if-self.true in
    Ends-err _ _ _ _ _ _ _ c.hand_over.ensures.puts failed

pub returns-else-self : goal.returns-else-self
returns-else-self g c =
    let going = ap (λ s. s.failed) (sym c.self.view_is) ∙ c.if-self.false in
    Ends-ok _ _ _ _ _ _ _ c.hand_over.ensures.puts c.hand_over.ensures.empty going
