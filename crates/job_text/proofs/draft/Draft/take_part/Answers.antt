use Rattle.std.proofs.Common.{map}
use Rattle.job_text.proofs.DraftLemmas.{taken-part}
use Rattle.job_text.proofs.draft.Draft.take_part.Goals as goal

pub returns : goal.returns
returns c =
    let grown = rw c.replace-stations.ensures.value at c.take_part.ensures in
    rw (← c.self.view_is) (taken-part _ (map (λ field. field.now) c.args.fields.now) c.put_back.result c.args.part c.put_back.new.place (c.put_back.ensures _ _ grown))
