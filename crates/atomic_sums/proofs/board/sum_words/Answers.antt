use Rattle.std.specs.Slots.{slots_items}
use Rattle.atomic_sums.proofs.Posting.{one_word}
use Rattle.atomic_sums.proofs.board.sum_words.Goals as goal

pub loop-i-preserved : goal.loop-i-preserved
loop-i-preserved c = one_word (slots_items c.args.closed.now.words) c.loop-i.words.items c.push.new.self.items c.word.result c.loop-i.i c.in_ok-push.ensures.items c.word.ensures c.loop-i.invariant
