use Rattle.std.proofs.Common.{refl}
use Rattle.run_bins.proofs.limit.first_wide.Goals as goal

pub loop-scan-init : goal.loop-scan-init
loop-scan-init c = refl
