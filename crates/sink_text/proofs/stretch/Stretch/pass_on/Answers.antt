use Rattle.std.proofs.Common.{ap, sym, ◌∙◌, ◌++◌}
use Rattle.sink_text.proofs.WrittenText.{Puts-sent}
use Rattle.sink_text.proofs.stretch.Stretch.pass_on.Goals as goal

pub returns-then-not-self : goal.returns-then-not-self
returns-then-not-self g c =
    let was = ap (λ s. s.failed) (sym c.self.view_is) ∙ (search) in
    let empty = ap (λ s. s.held) c.self.view_is ∙ c.requires in
    Puts-sent c.write_all.result _ c.args.bytes.now _ _ _ _ _ _ was c.is_err-self-inside.ensures.value empty
    (ap (λ h. h ++ c.args.bytes.now) (sym c.requires))
    c.write_all.ensures.ok
    c.write_all.ensures.prefix
    c.write_all.ensures.counts
