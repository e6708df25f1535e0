use Rattle.std.proofs.Common.{inr}
use Rattle.job_text.proofs.DraftLemmas.{row_fault-auto, grown-Auto}
use Rattle.job_text.proofs.draft.Draft.take_auto.Goals as goal

pub returns-then-self : goal.returns-then-self
returns-then-self c = inr (rw (← c.self.view_is) (row_fault-auto _ c.if-self.true))

pub returns : goal.returns
returns c = rw (← c.self.view_is) (grown-Auto _ c.if-self.false)
