use Rattle.std.specs.Prelude.{IsSome}
use Rattle.job_text.proofs.InlineLemmas.{scans-sound}
use Rattle.job_text.proofs.inline.inline_schedule.Goals as goal

pub invariant_of-result : goal.invariant_of-result
invariant_of-result c =
    let some : IsSome c.job.inside.rate = rw (← c.job.view_is) at c.requires.rate in
    record { sound = rw (c.in_ok-scans.ensures, c.unwrap_or-rate.ensures, c.in_ok-chans.ensures, c.items-stations.ensures.items) (scans-sound c.job.invariant some) }
