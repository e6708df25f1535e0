use Rattle.std.proofs.Common.{◌≡◌, All, length, drop, sym, subst, ◌∙◌}
use Rattle.std.proofs.lemmas.List.{take_at}
use Rattle.epoch_run.specs.Team.{IsOver}
use Rattle.epoch_run.proofs.run.sum_work.Goals as goal

pub join_team-seat-requires-clause-over : goal.join_team-seat-requires-clause-over
join_team-seat-requires-clause-over g c =
    let new = c.run_team.new.team in
    let items = c.in_ok-team.team.items in
    let len : length new ≡ c.in_ok-team.team.len = c.run_team.auto.team ∙ c.deref_mut.ensures.len in
    subst (All (IsOver c.args.work.now c.in_ok-board.board))
    (sym (take_at new (drop (length new) items) c.in_ok-team.team.len len)) c.run_team.ensures.over
