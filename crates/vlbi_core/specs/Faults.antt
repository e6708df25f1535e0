-- The refusals of faults of the words and of the output.
use Rattle.std.specs.Prelude.{Result, Ok, Err}
use Rattle.station_stream.specs.declared.fault.StreamFault.{StreamFault}
use Rattle.station_stream.specs.declared.fault.StreamFault.TheVariants.{Read, Memory}
use Rattle.vis_writer.specs.declared.fault.WriteFault.{WriteFault}
use Rattle.vis_writer.specs.declared.fault.WriteFault.TheVariants.{Source, Sink}
use Rattle.run_words.specs.declared.fault.WordsFault.{WordsFault}
use Rattle.run_words.specs.declared.fault.WordsFault.TheVariants.{Memory as WordsMemory}
use Rattle.run_notes.specs.declared.refusal.Refusal.{Refusal}
use Rattle.run_notes.specs.declared.refusal.Refusal.TheVariants.{Memory as MemoryRefusal, Words, Read as ReadRefusal, Write}

-- the refusal of words that give no order: want of memory, or their fault
abbrev pub words_refusal : WordsFault → Refusal
words_refusal WordsMemory = MemoryRefusal
words_refusal fault = Words fault

abbrev pub refusal_of : WriteFault StreamFault → Refusal
refusal_of (Source Read) = ReadRefusal
refusal_of (Source Memory) = MemoryRefusal
refusal_of Sink = Write

abbrev pub answer_with : Result (Unit {0}) (WriteFault StreamFault) → Result (Unit {0}) Refusal
answer_with (Ok x) = Ok x
answer_with (Err fault) = Err (refusal_of fault)

-- that of a sink which failed
abbrev pub written_with : {E : Type 0} → Result (Unit {0}) E → Result (Unit {0}) Refusal
written_with (Ok x) = Ok x
written_with (Err failed) = Err Write
