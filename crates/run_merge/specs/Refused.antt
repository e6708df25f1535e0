-- The refusals of journals that do not make a job together, and of a record file that is not whole.
use Rattle.shard_merge.specs.declared.fault.MergeFault.{MergeFault}
use Rattle.shard_merge.specs.declared.fault.MergeFault.TheVariants.{Read as MergeRead, Uncovered as NoneCovers, Differs as TheyDiffer, Memory as MergeMemory}
use Rattle.shard_merge.specs.declared.fault.OutputFault.{OutputFault}
use Rattle.shard_merge.specs.declared.fault.OutputFault.TheVariants.{Memory as OutputMemory, Read as OutputRead, Write as OutputWrite}
use Rattle.run_notes.specs.declared.refusal.Due.TheVariants.{Uncovered, Differs}
use Rattle.run_notes.specs.declared.refusal.Refusal.{Refusal}
use Rattle.run_notes.specs.declared.refusal.Refusal.TheVariants.{Memory, Due, Read, Write}

abbrev pub merge_refusal : MergeFault → Refusal
merge_refusal MergeRead = Read
merge_refusal (NoneCovers i) = Due (Uncovered i)
merge_refusal (TheyDiffer d) = Due (Differs d.integration d.group d.lag d.first d.other)
merge_refusal MergeMemory = Memory

abbrev pub output_refusal : OutputFault → Refusal
output_refusal OutputMemory = Memory
output_refusal OutputRead = Read
output_refusal OutputWrite = Write
