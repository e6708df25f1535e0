use Rattle.std.proofs.Common.{map}
use Rattle.job_text.proofs.DraftLemmas.{taken-rows}
use Rattle.job_text.proofs.draft.Draft.take_band.Goals as goal

pub returns : goal.returns
returns c =
    let taken = rw (c.field.ensures, c.band_in.ensures.value) at c.take_named.ensures in
    rw (← c.self.view_is) ((taken-rows _ (map (λ field. field.now) c.args.fields.now) c.take_named.result).bands c.take_named.new.things taken)
