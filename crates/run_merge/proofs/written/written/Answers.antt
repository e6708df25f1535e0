use Rattle.std.proofs.Common.{◌≡◌, ℕ, List, Option}
use Rattle.shard_merge.specs.Output.{IsUnwritten}
use Rattle.shard_merge.specs.declared.fault.OutputFault.{OutputFault}
use Rattle.shard_merge.specs.declared.fault.OutputFault.TheVariants.{Memory, Read, Write}
use Rattle.run_notes.specs.Refusals.{WhereMemory}
use Rattle.run_merge.specs.Refused.{output_refusal}
use Rattle.run_merge.proofs.written.written.Goals as goal

unwritten : (fault : OutputFault) (old new : Option (List ℕ)) → IsUnwritten old new fault → WhereMemory (output_refusal fault) (new ≡ old)
unwritten Memory old new is = is
unwritten Read old new is = tt
unwritten Write old new is = tt

pub returns-in-Err-clause-unwritten : goal.returns-in-Err-clause-unwritten
returns-in-Err-clause-unwritten g c =
    rw c.output_refusal.ensures (unwritten c.in-Err.fault (g.S.Sink.told c.args.out.now) (g.S.Sink.told c.write_merged.new.out) c.in-Err.ensures.unwritten)
