-- What is there, or a fault.
use Rattle.std.proofs.Common.{◌≡◌, ℕ, Some, Ok}
use Rattle.std.specs.Prelude.{Option}
use Rattle.read_steps.proofs.StepLemmas.{or_fault-ok, or_fault-to}
use Rattle.vex_schedule.specs.declared.fault.SchedKind.{SchedKind}
use Rattle.vex_schedule.specs.Answers.{fault, given}

pub given-ok : {A : Type 0} (o : Option A) (kind : SchedKind) (at : ℕ) (x : A) → given o kind at ≡ Ok x → o ≡ Some x
given-ok o kind at x is = or_fault-ok o (fault kind at) x is

pub given-to : {A : Type 0} (o : Option A) (kind : SchedKind) (at : ℕ) (x : A) → o ≡ Some x → given o kind at ≡ Ok x
given-to o kind at x is = or_fault-to o (fault kind at) x is
