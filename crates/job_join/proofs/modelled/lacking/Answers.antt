use Rattle.std.proofs.Common.{List, map, ap, ◌∙◌}
use Rattle.job_join.specs.declared.joining.Joining.{Joining}
use Rattle.job_join.specs.declared.places.Place.{Place}
use Rattle.job_join.specs.Needs.{lacking_among}
use Rattle.job_join.specs.Places.{visit_of}
use Rattle.job_join.specs.Joining.{scans_of}
use Rattle.job_join.proofs.ModelledLemmas.{seconds-held, lacking_among-lacking}
use Rattle.job_join.proofs.modelled.lacking.Goals as goal

pub lacking_among-requires-clause-seconds : goal.lacking_among-requires-clause-seconds
lacking_among-requires-clause-seconds c = rw c.deref.ensures.value (seconds-held c.args.j.now c.requires.scans)

pub returns : goal.returns
returns c =
    let j : Joining = c.args.j.now in
    c.lacking_among.ensures
    ∙ ap (λ (places : List Place). lacking_among c.args.need j.job.now j.rate (map visit_of places)) c.deref.ensures.value
    ∙ lacking_among-lacking c.args.need j.job.now j.rate (scans_of j) j.places.items c.requires.joining.visits c.requires.joining.rate
