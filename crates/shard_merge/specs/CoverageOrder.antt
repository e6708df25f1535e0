-- Kept epochs by the integration that they are of.
use Rattle.std.specs.Prelude.{ℕ, nat_lt, ◌==◌, ◌&&◌, ◌||◌, Bool, List, map}
use Rattle.piece_plan.specs.declared.epoch.EpochPlan.{EpochPlan}
use Rattle.checkpoint_journal.specs.declared.listed.KeptAt.{KeptAt}
use Rattle.job_epochs.specs.Added.{is_of}

-- an epoch of an integration before integration m of the scan of a number
abbrev pub is_before : ℕ → ℕ → EpochPlan → Bool
is_before number m e = nat_lt e.scan number || ((e.scan == number) && nat_lt e.m m)

-- the same of an epoch with its place
abbrev pub stands_before : ℕ → ℕ → KeptAt → Bool
stands_before number m a = is_before number m a.epoch

abbrev pub stands_in : ℕ → ℕ → KeptAt → Bool
stands_in number m a = is_of number m a.epoch

-- the epochs of the places
abbrev pub epochs_of_listed : List KeptAt → List EpochPlan
epochs_of_listed listed = map (λ (a : KeptAt). a.epoch) listed
