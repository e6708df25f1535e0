use Rattle.std.proofs.Common.{option_map, ap, ◌∙◌}
use Rattle.std.specs.List.{position}
use Rattle.job_join.specs.declared.fault.JoinFault.TheVariants.{ProductDiffers}
use Rattle.job_join.specs.declared.joining.Joining.{Joining}
use Rattle.job_join.specs.declared.places.Place.{Place}
use Rattle.job_join.specs.Places.{visit_of, has_unlike_product}
use Rattle.job_join.specs.Joining.{scans_of}
use Rattle.job_join.proofs.JoinLemmas.{product_differs-places}
use Rattle.job_join.proofs.joining.Joining.product_differs.Goals as goal

pub returns-in-None : goal.returns-in-None
returns-in-None c =
    let j : Joining = c.args.self.now in
    ap (option_map ProductDiffers) (c.in-None.ensures ∙ ap (λ ps. position (λ (p : Place). has_unlike_product ps (visit_of p)) c.deref.result.now) c.products.ensures.value ∙ ap (position (λ (p : Place). has_unlike_product j.job.now.products (visit_of p))) c.deref.ensures.value ∙ product_differs-places j.job.now (scans_of j) j.places.items c.requires.visits)

pub returns-in-Some : goal.returns-in-Some
returns-in-Some c =
    let j : Joining = c.args.self.now in
    ap (option_map ProductDiffers) (c.in-Some.ensures ∙ ap (λ ps. position (λ (p : Place). has_unlike_product ps (visit_of p)) c.deref.result.now) c.products.ensures.value ∙ ap (position (λ (p : Place). has_unlike_product j.job.now.products (visit_of p))) c.deref.ensures.value ∙ product_differs-places j.job.now (scans_of j) j.places.items c.requires.visits)
