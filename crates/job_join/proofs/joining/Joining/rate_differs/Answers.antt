use Rattle.std.proofs.Common.{option_map, ap, ◌∙◌}
use Rattle.std.specs.List.{position}
use Rattle.job_join.specs.declared.fault.JoinFault.TheVariants.{RateDiffers}
use Rattle.job_join.specs.declared.joining.Joining.{Joining}
use Rattle.job_join.specs.declared.places.Place.{Place}
use Rattle.job_join.specs.Places.{visit_of, has_other_rate}
use Rattle.job_join.specs.Joining.{scans_of}
use Rattle.job_join.proofs.JoinLemmas.{rate_differs-places}
use Rattle.job_join.proofs.joining.Joining.rate_differs.Goals as goal

pub returns-in-None : goal.returns-in-None
returns-in-None c =
    let j : Joining = c.args.self.now in
    ap (option_map RateDiffers) (c.in-None.ensures ∙ ap (position (λ (p : Place). has_other_rate j.rate (visit_of p))) c.deref.ensures.value ∙ rate_differs-places j.job.now (scans_of j) j.places.items c.requires.visits j.rate c.requires.rate)

pub returns-in-Some : goal.returns-in-Some
returns-in-Some c =
    let j : Joining = c.args.self.now in
    ap (option_map RateDiffers) (c.in-Some.ensures ∙ ap (position (λ (p : Place). has_other_rate j.rate (visit_of p))) c.deref.ensures.value ∙ rate_differs-places j.job.now (scans_of j) j.places.items c.requires.visits j.rate c.requires.rate)
