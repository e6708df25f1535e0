use Rattle.vex_laws.proofs.KindLemmas.{tells_words}
use Rattle.vex_laws.proofs.texts.tells_words.Goals as goal

pub returns : goal.returns
returns c = tells_words
