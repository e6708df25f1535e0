use Rattle.std.proofs.Common.{◌≡◌, ◌*◌, ◌∙◌, ap, subst, arith}
use Rattle.piece_plan.specs.Pieces.{per_group}
use Rattle.epoch_run.specs.Amounts.{WorkFields, cut_of}
use Rattle.epoch_run.specs.Levelled.{IsWork}
use Rattle.epoch_run.proofs.Board.{room}
use Rattle.epoch_run.proofs.work.Work.board.Goals as goal

pub new-requires-clause-room : goal.new-requires-clause-room
new-requires-clause-room c =
    let w = c.args.self.now in
    let is : IsWork w = subst IsWork c.self.view_is c.self.invariant in
    let products : c.from.result ≡ w.epoch.products = c.from.ensures ∙ ap (λ (v : WorkFields). v.epoch.products) c.self.view_is in
    let baselines : c.from-2.result ≡ w.epoch.baselines =
    c.from-2.ensures ∙ ap (λ (v : WorkFields). v.epoch.baselines) c.self.view_is in
    let per : c.per_group.result ≡ per_group (cut_of w) =
    c.per_group.ensures.count ∙ ap per_group c.new-pieces.ensures.sizes
    ∙ ap (λ (v : WorkFields). per_group (cut_of v)) c.self.view_is in
    let all : c.from.result * c.from-2.result * c.per_group.result ≡ w.epoch.products * w.epoch.baselines * per_group (cut_of w) =
    cc in
    omega (arith, all, room w c.args.shares is c.requires.1)
