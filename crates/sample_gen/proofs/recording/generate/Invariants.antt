use Rattle.sink_text.specs.Written.{Puts}
use Rattle.sample_gen.specs.Frames.{first_word}
use Rattle.sample_gen.specs.Words.{AreNext}
use Rattle.sample_gen.proofs.FrameLemmas.{slots_before}
use Rattle.sample_gen.proofs.recording.generate.Given as goal

abbrev pub invariant-loop-k : goal.invariant-loop-k
invariant-loop-k g l = record {
  next : AreNext l.seed (first_word l.seconds l.station l.k) l.words;
  puts : Puts (slots_before l.seed l.seconds l.station l.k) l.initial.slots l.slots
      (g.S.Sink.told l.initial.out) (g.S.Sink.told l.out) (g.S.Sink.faults l.initial.out) (g.S.Sink.faults l.out);
}
