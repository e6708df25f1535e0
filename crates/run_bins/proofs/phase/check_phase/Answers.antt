use Rattle.run_bins.proofs.PhaseLemmas.{phase-inside}
use Rattle.run_bins.proofs.phase.check_phase.Goals as goal

pub name_of-requires : goal.name_of-requires
name_of-requires c = phase-inside c.args.bins.now c.args.plan.now c.in-Err.fault.scan c.in-Err.ensures
