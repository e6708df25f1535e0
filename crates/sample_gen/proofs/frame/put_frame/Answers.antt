use Rattle.std.proofs.Common.{◌≡◌, ◌+◌, ◌∙◌, ap, ap₂, arith}
use Rattle.sample_gen.specs.Frames.{slots_by}
use Rattle.sample_gen.specs.Words.{words_from}
use Rattle.sample_gen.proofs.FrameLemmas.{Puts-same}
use Rattle.sample_gen.proofs.WordLemmas.{word-is, words_from-next}
use Rattle.sample_gen.proofs.frame.put_frame.Goals as goal

pub returns-clause-next : goal.returns-clause-next
returns-clause-next g c = λ seed n here.
    let behind : n + 1 + 1000 ≡ n + 1001 = omega arith in
    let first = words_from-next seed n _ _ _ here c.next_u64-word.ensures in
    c.draw_array-array.ensures.next seed (n + 1) first ∙ ap (words_from seed) behind

pub returns-clause-puts : goal.returns-clause-puts
returns-clause-puts g c = λ seed n here.
    let first = words_from-next seed n _ _ _ here c.next_u64-word.ensures in
    let word = word-is seed n _ _ _ here c.next_u64-word.ensures in
    let array = c.draw_array-array.ensures.bytes seed (n + 1) first in
    Puts-same (ap₂ (λ w a. slots_by w c.args.station c.args.k a) word array) c.put_slots.ensures
