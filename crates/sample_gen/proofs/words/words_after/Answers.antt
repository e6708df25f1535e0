use Rattle.sample_gen.proofs.WordLemmas.{AreNext-zero, words_from-next}
use Rattle.sample_gen.proofs.words.words_after.Goals as goal

pub loop-init : goal.loop-init
loop-init c = AreNext-zero c.args.seed _ c.seed_from_u64-words.ensures.same

pub loop-preserved : goal.loop-preserved
loop-preserved c = words_from-next c.args.seed c.loop.counter _ _ _ c.loop.invariant c.next_u64.ensures
