use Rattle.std.proofs.Common.{◌<◌, ◌≤◌, ◌*◌, subst, sym, arith}
use Rattle.std.proofs.lemmas.List.{get_or_read}
use Rattle.piece_claim.specs.State.{sums}
use Rattle.piece_claim.specs.Shown.{state_of}
use Rattle.piece_claim.proofs.Bounds.{word_bound}
use Rattle.piece_claim.proofs.board.Board.word.Goals as goal

pub returns-clause-bounded : goal.returns-clause-bounded
returns-clause-bounded c =
    let b = state_of c.self.inside in
    let lt : c.args.w < sums b.sizes = subst (λ s. c.args.w < sums s.sizes) (sym c.self.view_is) c.requires in
    let read = get_or_read b.words c.args.w c.index.result.now (omega (arith, lt, c.self.invariant.sound.words.count)) c.index.ensures 0 in
    subst (λ s. c.index.result.now ≤ s.sizes.per_group * s.sizes.bound) c.self.view_is (omega (arith, read, word_bound b c.args.w c.self.invariant.sizes c.self.invariant.sound lt))
