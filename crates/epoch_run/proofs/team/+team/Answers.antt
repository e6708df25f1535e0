use Rattle.std.proofs.Common.{rules, ◌+◌, length, subst, ◌∷◌, ◌≤◌, arith}
use Rattle.std.specs.List.{All}
use Rattle.std.proofs.lemmas.List.Elements.{All-cons, All-head, All-tail}
use Rattle.epoch_run.specs.declared.team.Worker.{Worker}
use Rattle.epoch_run.specs.Team.{IsReady, IsOver}
use Rattle.epoch_run.proofs.team.+team.Goals as goal

pub join_mut-requires-after_bounds : goal.join_mut-requires-after_bounds
join_mut-requires-after_bounds g t c κs within =
    let P : Worker → Type 0 = IsReady c.args.work.now c.args.board.now in
    let cut = c.in-Some.ensures.cases in
    let ready : All P (c.in-Some.one.now ∷ c.in-Some.rest.now) = subst (All P) cut.0 c.requires.ready in
    let few : c.args.number + 1 + length c.in-Some.rest.now ≤ 64 = omega (arith, cut.1, c.requires.few) in (
      (c.requires.board, All-head P c.in-Some.one.now c.in-Some.rest.now ready),
      (
        search rules,
        (
          (λ a h. h),
          (
            (λ a h. h),
            (
              (search rules, search rules),
              (c.requires.board, (few, (All-tail P c.in-Some.one.now c.in-Some.rest.now ready, (search rules, search rules)))),
            ),
          ),
        ),
      ),
    )

pub returns : goal.returns
returns g t c = record { over = All-cons (IsOver c.args.work.now c.args.board.now) _ _ (search rules) (search rules) }
