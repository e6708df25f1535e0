use Rattle.std.proofs.Common.{◌≡◌, ◌∙◌, ◌≤◌, true, length, List, ℕ, subst, sym, arith}
use Rattle.dev_traits.specs.Images.{Torn, Shorn, Same}
use Rattle.dev_traits.proofs.Moments.{runs_of, runs_both}
use Rattle.checkpoint_journal.specs.Runs.{KeepsBlank}
use Rattle.journal_image.specs.Image.{is_blank}
use Rattle.checkpoint_journal.proofs.RunLemmas.{looks_of, durable_looks, told_value}
use Rattle.checkpoint_journal.proofs.WriteLemmas.{blank_torn, blank_shorn, blank_joined}
use Rattle.checkpoint_journal.proofs.begin.close_head.Goals as goal

pub returns-then-len-le1-clause-runs : goal.returns-then-len-le1-clause-runs
returns-then-len-le1-clause-runs g c =
    let moment = g.D.Disk.moment in
    let may_leave = g.D.Disk.may_leave in
    let stays : (v : List ℕ) → KeepsBlank v v = λ v blank. blank in
    let looks = looks_of g.D.Disk.seen moment may_leave _ _ c.len.ensures.same c.len.ensures.goes in
    let durable = durable_looks g.D.Disk.seen moment may_leave _ _ looks c.requires.durable in
    let first = runs_of moment may_leave KeepsBlank stays Same _ _ c.len.ensures.goes (λ v image now same blank. subst (λ (w : List ℕ). is_blank w ≡ true) (sym same) blank) in
    let second = runs_of moment may_leave KeepsBlank stays (Torn 0 1) _ _ c.write_synced.ensures.goes (λ v image now torn blank.
    let is = durable v now in
    let short : length v ≤ 1 = omega (arith, told_value _ (λ bytes. c.in_ok-len.len ≡ length bytes) v (sym c.len.ensures.same ∙ is) c.in_ok-len.ensures.len) in
    blank_torn 1 v image short (omega arith) torn) in
    runs_both moment may_leave KeepsBlank stays blank_joined _ _ _ first second

pub returns-else-len-le1-clause-runs : goal.returns-else-len-le1-clause-runs
returns-else-len-le1-clause-runs g c =
    let moment = g.D.Disk.moment in
    let may_leave = g.D.Disk.may_leave in
    let stays : (v : List ℕ) → KeepsBlank v v = λ v blank. blank in
    let first = runs_of moment may_leave KeepsBlank stays Same _ _ c.len.ensures.goes (λ v image now same blank. subst (λ (w : List ℕ). is_blank w ≡ true) (sym same) blank) in
    let second = runs_of moment may_leave KeepsBlank stays (Shorn 1) _ _ c.cut_synced.ensures.goes (λ v image now shorn. blank_shorn v image shorn) in
    runs_both moment may_leave KeepsBlank stays blank_joined _ _ _ first second
