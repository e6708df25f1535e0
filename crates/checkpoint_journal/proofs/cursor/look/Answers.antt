use Rattle.std.proofs.Common.{◌≡◌, length, sym, arith}
use Rattle.std.proofs.lemmas.Result.{IfOk-weaker}
use Rattle.dev_traits.specs.Told.{WhereTold}
use Rattle.dev_traits.proofs.ToldLemmas.{WhereTold-weaker}
use Rattle.plan_places.specs.Places.{place_at}
use Rattle.checkpoint_journal.proofs.RunLemmas.{looks_after}
use Rattle.checkpoint_journal.proofs.ToldLemmas.{told_again}
use Rattle.journal_image.specs.declared.finding.Behind.TheVariants.{Fault}
use Rattle.journal_image.specs.Difference.{end_of}
use Rattle.checkpoint_journal.specs.Finding.{StandsBehind}
use Rattle.checkpoint_journal.specs.Next.{TellsThing}
use Rattle.checkpoint_journal.proofs.NextLemmas.{more_there, thing_of}
use Rattle.checkpoint_journal.proofs.cursor.look.Goals as goal

pub returns-then-len-here-clause-told : goal.returns-then-len-here-clause-told
returns-then-len-here-clause-told g c =
    let job = c.args.plan.now in
    let here = c.args.here.now in
    let len = c.in_ok-len.len in
    WhereTold-weaker (g.D.Disk.seen c.args.disk.now) (λ image. len ≡ length image) (λ image. TellsThing job image here (Fault (end_of len)))
    (λ image is id r has. let inside = more_there id job image r here has in omega arith)
    c.in_ok-len.ensures.len

pub returns-clause-told : goal.returns-clause-told
returns-clause-told g c =
    let job = c.args.plan.now in
    let here = c.args.here.now in
    let p = c.args.place.now in
    IfOk-weaker c.look_behind.result (λ b. WhereTold _ (StandsBehind job here (place_at p) b)) (λ b. WhereTold _ (λ image. TellsThing job image here b))
    (λ b told. WhereTold-weaker _ (StandsBehind job here (place_at p) b) (λ image. TellsThing job image here b)
    (λ image behind id r has. thing_of id job image r here has c.requires.job p c.requires.due b (λ inside. behind))
    (told_again _ _ (StandsBehind job here (place_at p) b) (sym c.len.ensures.same) told))
    c.look_behind.ensures.behind

pub returns-clause-looks : goal.returns-clause-looks
returns-clause-looks g c = looks_after g.D.Disk.seen g.D.Disk.moment g.D.Disk.may_leave _ _ _ c.len.ensures.same c.len.ensures.goes c.look_behind.ensures.looks
