-- A shelf as a source of the cells of a plan's records.
use Rattle.std.specs.Prelude.{◌≡◌, ℕ, Option, option_map}
use Rattle.corr_model.specs.Files.{Files}
use Rattle.corr_model.specs.Records.{Head}
use Rattle.job_plan.specs.declared.plan.Plan.{Plan}
use Rattle.job_plan.specs.Output.{head_of}
use Rattle.station_stream.specs.declared.fault.StreamFault.{StreamFault}
use Rattle.station_stream.specs.Faults.{CountsFault}
use Rattle.vis_writer.specs.Cells.{CellsOf}
use Rattle.vis_writer.specs.PlanCells.{cells_from}

-- what a shelf tells, and how often it has failed
pub record ShelfState : Type 0 where
  pub told : Option Files
  pub faults : ℕ

abbrev pub state : Option Files → ℕ → ShelfState
state told faults = record { told = told; faults = faults }

-- the head of the plan, and its cells where the shelf tells its files
abbrev pub head_at : Plan → ShelfState → Head
head_at plan s = head_of plan

abbrev pub cells_at : Plan → ShelfState → Option CellsOf
cells_at plan s = option_map (cells_from plan) s.told

-- calls without a fault leave all as it was, and a fault is one of a read or want of memory
abbrev pub stays : ShelfState → ShelfState → Type 0
stays old new = new ≡ old

abbrev pub fails : ShelfState → ShelfState → StreamFault → Type 0
fails old new fault = (new.told ≡ old.told) × CountsFault old.faults new.faults fault
