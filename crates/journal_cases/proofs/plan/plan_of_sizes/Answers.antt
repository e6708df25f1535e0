use Rattle.std.proofs.Common.{arith}
use Rattle.journal_cases.proofs.plan.plan_of_sizes.Goals as goal

pub new-requires : goal.new-requires
new-requires c = record {
  many = omega arith;
  scans = c.requires.scans;
  integration = omega arith;
  longest = omega arith;
  epoch = omega arith;
  short = omega arith;
  lags = record { some = omega arith; within = omega arith; even = omega arith };
}
