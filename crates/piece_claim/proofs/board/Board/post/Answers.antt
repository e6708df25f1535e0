use Rattle.std.proofs.Common.{rules, arith, ◌≡◌, ◌∙◌, ◌+◌, ap, vec_len, length, set}
use Rattle.std.proofs.lemmas.List.{get_or_read}
use Rattle.piece_claim.specs.State.{seat_at}
use Rattle.piece_claim.specs.Moves.{CanPost, posted, word_of}
use Rattle.piece_claim.specs.Shown.{state_of}
use Rattle.piece_claim.proofs.EventLaws.{posts, word_inside, word_fits, seat_read}
use Rattle.piece_claim.proofs.board.Board.post.Goals as goal

pub next_word-word-requires-clause-fits : goal.next_word-word-requires-clause-fits
next_word-word-requires-clause-fits c =
    let b = state_of c.self.inside in
    let can : CanPost b.sizes (seat_at b c.args.seat) c.args.amount = search rules in
    let was = seat_read b c.args.seat c.index.result.now can.live c.index.ensures in
    omega (arith, word_inside b c.args.seat c.args.amount c.self.invariant can, ap (λ v. word_of b.sizes v.hand) was, c.self.invariant.sizes.words)

pub index_mut-requires-2 : goal.index_mut-requires-2
index_mut-requires-2 c =
    let b = state_of c.self.inside in
    let can : CanPost b.sizes (seat_at b c.args.seat) c.args.amount = search rules in
    let was = seat_read b c.args.seat c.index.result.now can.live c.index.ensures in
    let long : vec_len c.self.inside.words ≡ length b.words = search rules in
    omega (arith, word_inside b c.args.seat c.args.amount c.self.invariant can, ap (λ v. word_of b.sizes v.hand) was, c.next_word-word.ensures, c.self.invariant.sound.words.count, long)

pub overflow_add-index_mut : goal.overflow_add-index_mut
overflow_add-index_mut c =
    let b = state_of c.self.inside in
    let can : CanPost b.sizes (seat_at b c.args.seat) c.args.amount = search rules in
    let was = seat_read b c.args.seat c.index.result.now can.live c.index.ensures in
    let place : c.next_word-word.result ≡ word_of b.sizes (seat_at b c.args.seat).hand = c.next_word-word.ensures ∙ ap (λ v. word_of b.sizes v.hand) was in
    let inside = word_inside b c.args.seat c.args.amount c.self.invariant can in
    let read = get_or_read b.words c.next_word-word.result c.index_mut-2.result.now (omega (arith, inside, place, c.self.invariant.sound.words.count)) c.index_mut-2.ensures.value 0 in
    omega (arith, word_fits b c.args.seat c.args.amount c.self.invariant can, read, ap (λ w. Rattle.std.proofs.Common.get_or b.words w 0) place)

pub invariant_of-self-2 : goal.invariant_of-self-2
invariant_of-self-2 c =
    let b = state_of c.self.inside in
    let i = c.args.seat in
    let a = c.args.amount in
    let can : CanPost b.sizes (seat_at b i) a = search rules in
    let was = seat_read b i c.index.result.now can.live c.index.ensures in
    let place : c.next_word-word.result ≡ word_of b.sizes (seat_at b i).hand = c.next_word-word.ensures ∙ ap (λ v. word_of b.sizes v.hand) was in
    let inside = word_inside b i a c.self.invariant can in
    let read = get_or_read b.words c.next_word-word.result c.index_mut-2.result.now (omega (arith, inside, place, c.self.invariant.sound.words.count)) c.index_mut-2.ensures.value 0 in
    let new : c.post.new.self ≡ posted b.sizes.width c.index_mut.result.now a = search rules in
    posts b i a c.next_word-word.result c.post.new.self (set b.words c.next_word-word.result (c.index_mut-2.result.now + a)) c.self.invariant can place
    (new ∙ ap (λ v. posted b.sizes.width v a) (seat_read b i c.index_mut.result.now can.live c.index_mut.ensures.value))
    (ap (λ x. set b.words c.next_word-word.result (x + a)) read)

pub returns-clause-sound : goal.returns-clause-sound
returns-clause-sound c = (invariant_of-self-2 c).sound
