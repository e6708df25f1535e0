use Rattle.std.proofs.Common.{map}
use Rattle.job_text.proofs.DraftLemmas.{taken-rows}
use Rattle.job_text.proofs.draft.Draft.take_station.Goals as goal

pub returns : goal.returns
returns c =
    let grown = rw c.replace-stations.ensures.value at c.take_station.ensures in
    rw (← c.self.view_is) ((taken-rows _ (map (λ field. field.now) c.args.fields.now) c.put_back.result).stations c.put_back.new.place (c.put_back.ensures _ _ grown))
