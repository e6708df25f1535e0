use Rattle.std.proofs.Common.{map}
use Rattle.job_text.proofs.DraftLemmas.{taken-rows}
use Rattle.job_text.proofs.draft.Draft.take_scan.Goals as goal

pub returns-clause-taken : goal.returns-clause-taken
returns-clause-taken c =
    let taken = rw (c.field.ensures, c.scan_in.ensures.value) at c.take_named.ensures in
    rw (← c.self.view_is) ((taken-rows _ (map (λ field. field.now) c.args.fields.now) c.take_named.result).scans c.take_named.new.things taken)
