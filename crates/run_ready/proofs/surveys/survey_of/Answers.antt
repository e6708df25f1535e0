use Rattle.std.proofs.Common.{◌≡◌, ◌∙◌, ◌≤◌, ◌<◌, ◌^◌, ℕ, List, length, sym, ap, subst}
use Rattle.piece_plan.specs.Epochs.{JobSizes}
use Rattle.plan_places.specs.Walk.{epochs_by}
use Rattle.checkpoint_journal.specs.Identity.{identity_of}
use Rattle.run_ready.specs.Sizes.{sizes_in}
use Rattle.run_ready.proofs.IdentityLemmas.{length-identity_of}
use Rattle.run_ready.proofs.surveys.survey_of.Goals as goal

pub invariant_of-result : goal.invariant_of-result
invariant_of-result c =
    let same : c.in_ok-identity.identity ≡ identity_of c.args.schedule.now c.args.job.now (sizes_in c.args.files.items) =
    c.in_ok-identity.ensures ∙ ap (λ zs. identity_of c.args.schedule.now c.args.job.now (sizes_in zs)) c.deref.ensures.value in
    record {
      sized = c.requires.sized;
      slots = c.requires.slots;
      few = c.requires.few_scans;
      cut = c.in_ok-epochs.ensures;
      some_epoch = c.requires.some_epoch;
      short_epoch = c.requires.short_epoch;
      few_epochs = subst (λ (e : JobSizes). length (epochs_by e c.args.epoch) ≤ 4294967296) (sym c.in_ok-epochs.ensures) c.requires.few_epochs;
      short =
          subst (λ (id : List ℕ). length id < 2 ^ 61) (sym same)
          (length-identity_of c.args.schedule.now c.args.job.now c.args.plan.stations c.args.files.items
          c.requires.short_schedule c.requires.short_job c.requires.few_stations c.requires.sized);
    }
