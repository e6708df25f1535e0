use Rattle.std.proofs.Common.{◌≡◌, ℕ, ◌+◌, ◌<◌, length, get_or, drop}
use Rattle.plan_places.specs.Places.{place_at}
use Rattle.journal_image.specs.Finding.{IsBehind}
use Rattle.checkpoint_journal.proofs.ToldLemmas.{told_both}
use Rattle.checkpoint_journal.proofs.StepLemmas.{behind_gate}
use Rattle.checkpoint_journal.proofs.walk.look_behind.Goals as goal

pub returns-clause-behind : goal.returns-clause-behind
returns-clause-behind g c =
    let job = c.args.plan.now in
    let gate = c.args.here.now.gate in
    let ranged = c.args.here.now.ranged in
    let p = place_at c.args.place.now in
    let head = c.load.new.buf in
    told_both _ (λ image. c.args.len ≡ length image) (λ image. (k : ℕ) → k < length head → get_or head k 0 ≡ get_or image (gate + 1 + k) 0)
    (λ image. IsBehind job ranged p (drop (gate + 1) image) (gate + 1) c.behind.result)
    (λ image is same. behind_gate job image head gate c.args.len ranged p c.behind.result is c.requires.inside same c.load.auto.buf c.behind.ensures.is)
    c.requires.length c.in_ok-load.ensures.bytes
