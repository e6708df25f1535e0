use Rattle.sample_gen.specs.Words.{AreNext}
use Rattle.sample_gen.proofs.words.words_after.Given as goal

abbrev pub invariant-loop : goal.invariant-loop
invariant-loop l = AreNext l.seed l.counter l.words
