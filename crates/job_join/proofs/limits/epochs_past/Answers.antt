use Rattle.std.proofs.Common.{◌≡◌, ◌+◌, ◌^◌, ◌≤◌, true, [], ◌∷◌, length, map, filter, fold, All, ap, sym, ◌∙◌, subst}
use Rattle.job_join.specs.declared.fault.Quantity.TheVariants.{Epochs}
use Rattle.job_join.specs.declared.joining.Joining.{Joining}
use Rattle.job_join.specs.declared.places.Place.{Place}
use Rattle.job_join.specs.Standing.{taken}
use Rattle.job_join.specs.Limits.{scan_epochs, measure, past}
use Rattle.job_join.specs.Joining.{held_samples}
use Rattle.job_join.specs.Measured.{held_epochs}
use Rattle.job_join.proofs.HeldLemmas.{map-taken, epochs-held, few-All, samples-All}
use Rattle.job_join.proofs.limits.epochs_past.Goals as goal

pub all_epochs-epochs-requires-clause-stations : goal.all_epochs-epochs-requires-clause-stations
all_epochs-epochs-requires-clause-stations c =
    let j : Joining = c.args.j.now in
    subst (All (λ (p : Place). length p.stands.items ≤ 32)) (sym c.deref.ensures.value) (few-All j.job.now j.places.items c.requires.joining.visits 32 c.requires.stations)

pub all_epochs-epochs-requires-clause-samples : goal.all_epochs-epochs-requires-clause-samples
unfolding taken
all_epochs-epochs-requires-clause-samples c =
    let j : Joining = c.args.j.now in
    subst (All (λ (p : Place). p.taken ≡ true → held_samples j.rate p ≤ 2 ^ 40)) (sym c.deref.ensures.value) (samples-All j.job.now j.places.items c.requires.joining.visits j.rate (2 ^ 40) c.requires.samples)

pub returns : goal.returns
unfolding taken
returns c =
    let j : Joining = c.args.j.now in
    c.past.ensures ∙ ap (λ n. past (measure Epochs (2 ^ 32) (n ∷ []))) (c.all_epochs-epochs.ensures
    ∙ ap (λ ps. fold ◌+◌ 0 (map (held_epochs j.job.now c.args.epoch j.rate) (filter (λ (p : Place). p.taken) ps))) c.deref.ensures.value
    ∙ ap (fold ◌+◌ 0) (map-taken j.job.now (held_epochs j.job.now c.args.epoch j.rate) (scan_epochs j.job.now c.args.epoch j.rate) (λ p held. epochs-held j.job.now p held c.args.epoch j.rate) j.places.items c.requires.joining.visits))
