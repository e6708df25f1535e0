-- The answer of a call that wrote a record file from a journal.
use Rattle.std.specs.Prelude.{ℕ, Result, Ok, Err}
use Rattle.checkpoint_journal.specs.declared.fault.ReadFault.{ReadFault}
use Rattle.checkpoint_journal.specs.declared.fault.ReadFault.TheVariants.{Disk as DiskFault}
use Rattle.vis_writer.specs.declared.fault.WriteFault.{WriteFault}
use Rattle.vis_writer.specs.declared.fault.WriteFault.TheVariants.{Source, Sink as SinkFault}
use Rattle.journal_records.specs.declared.fault.EmitFault.{EmitFault}
use Rattle.journal_records.specs.declared.fault.EmitFault.TheVariants.{Journal, Write}

-- why it ends with a fault, by the number of epochs that the journal keeps, and the answer
abbrev pub fault_of : ℕ → WriteFault ReadFault → EmitFault
fault_of kept (Source DiskFault) = Journal kept
fault_of kept SinkFault = Write

abbrev pub answer_with : {T : Type 0} → ℕ → Result T (WriteFault ReadFault) → Result T EmitFault
answer_with kept (Ok x) = Ok x
answer_with kept (Err fault) = Err (fault_of kept fault)
