use Rattle.std.proofs.Common.{◌≡◌, ◌<◌, ℕ, true, cond, List, length, get_or, None, rules, ap, sym, ◌∙◌}
use Rattle.job_join.specs.declared.stands.Here.{Here}
use Rattle.job_join.specs.Needs.{lacking_of, samples_among}
use Rattle.job_join.specs.Places.{stands_of}
use Rattle.job_join.proofs.ModelledLemmas.{samples_among-stands, lacking_of-found}
use Rattle.job_join.proofs.modelled.lacking_in.Goals as goal

pub returns-then-lacks : goal.returns-then-lacks
returns-then-lacks c =
    let job = c.args.job.now in
    let rate : ℕ = c.args.rate in
    let scan = c.args.place.now.scan.now in
    let hs : List Here = c.args.place.now.stands.items in
    let i : ℕ = c.loop-here.here-index in
    let h : Here = c.here-item.result in
    let samples : ℕ = c.samples_of-samples.result in
    let less : i < length hs = search rules in
    let is : h ≡ get_or hs i h = search rules in
    let taken : c.args.place.now.taken ≡ true = search rules in
    let most : samples ≡ samples_among rate (stands_of hs) = c.samples_of-samples.ensures.value ∙ samples_among-stands rate c.deref.result.now ∙ ap (λ xs. samples_among rate (stands_of xs)) c.deref.ensures.value in
    lacking_of-found c.args.need job rate scan samples hs i h less is (sym c.lacks.ensures ∙ c.if-lacks.true)
    ∙ c.loop-here.invariant
    ∙ ap (λ n. lacking_of c.args.need job rate scan n (stands_of hs)) most
    ∙ sym (ap (λ t. cond t (lacking_of c.args.need job rate scan (samples_among rate (stands_of hs)) (stands_of hs)) None) taken)
