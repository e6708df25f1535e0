use Rattle.std.specs.Int.{div_ceil}
use Rattle.std.proofs.Common.{ℕ, ◌^◌, nat_lt, map, filter, find, option_map, ap, ◌∙◌}
use Rattle.job_join.specs.declared.fault.Quantity.TheVariants.{Seconds}
use Rattle.job_join.specs.declared.joining.Joining.{Joining}
use Rattle.job_join.specs.declared.places.Place.{Place}
use Rattle.job_join.specs.Standing.{taken}
use Rattle.job_join.specs.Spans.{samples_of}
use Rattle.job_join.specs.Measured.{held_seconds}
use Rattle.job_join.proofs.HeldLemmas.{map-taken, seconds-held}
use Rattle.job_join.proofs.limits.seconds_past.Goals as goal

pub returns : goal.returns
unfolding taken
returns c =
    let j : Joining = c.args.j.now in
    c.with_first.ensures ∙ ap (option_map (λ (v : ℕ). (Seconds, v))) (c.seconds_over.ensures
    ∙ ap (λ ps. find (λ n. nat_lt (2 ^ 27) n) (map (held_seconds j.rate) (filter (λ (p : Place). p.taken) ps))) c.deref.ensures.value
    ∙ ap (find (λ n. nat_lt (2 ^ 27) n)) (map-taken j.job.now (held_seconds j.rate) (λ scan. div_ceil (samples_of j.job.now j.rate scan) j.rate) (λ p held. seconds-held j.job.now p held j.rate) j.places.items c.requires.joining.visits))
