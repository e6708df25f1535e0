use Rattle.std.proofs.Common.{◌≡◌, ◌&&◌, ◌==◌, true, not, ap, sym, ◌∙◌, rules}
use Rattle.std.specs.List.{list_any}
use Rattle.job_join.specs.declared.stands.Here.{Here}
use Rattle.job_join.specs.Standing.{Stand}
use Rattle.job_join.specs.Places.{stand_of, stands_of}
use Rattle.job_join.proofs.Sets.{any-map}
use Rattle.job_join.proofs.rates.has_other_rate.Goals as goal

pub returns : goal.returns
returns c =
    let taken : c.args.place.now.taken ≡ true = search rules in
    c.have_other_rate.ensures
    ∙ ap (list_any (λ (h : Here). not (h.pass.now.rate == c.args.rate))) c.deref.ensures.value
    ∙ sym (any-map (λ (s : Stand). not (s.pass.rate == c.args.rate)) stand_of c.args.place.now.stands.items)
    ∙ sym (ap (λ t. t && list_any (λ (s : Stand). not (s.pass.rate == c.args.rate)) (stands_of c.args.place.now.stands.items)) taken)
