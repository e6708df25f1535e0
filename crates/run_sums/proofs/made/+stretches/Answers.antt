use Rattle.std.proofs.Common.{◌≡◌, ◌+◌, ◌≤◌, ◌∷◌, None, length, subst, arith, rules}
use Rattle.std.specs.List.{All}
use Rattle.std.proofs.lemmas.List.Elements.{All-head, All-tail}
use Rattle.run_sums.specs.Frames.{IsRowIn, rows_in}
use Rattle.run_sums.proofs.FrameLemmas.{rows_few}
use Rattle.run_sums.proofs.MadeLemmas.{AreAllMade-cons, IsStretch-append}
use Rattle.run_sums.proofs.made.+stretches.Goals as goal

pub returns-then-size-codes-clause-made : goal.returns-then-size-codes-clause-made
returns-then-size-codes-clause-made g t c =
    IsStretch-append c.args.making.now c.args.row c.args.start c.args.size c.own-1.given.0 c.behind-1.given.0
    (first_of (omega (arith, c.split_at_mut-own.ensures.front_len), grind (arith, c.split_at_mut-own.ensures.front_len), search rules)) (search rules) (search rules)

pub join_mut-requires-2-after_bounds : goal.join_mut-requires-2-after_bounds
join_mut-requires-2-after_bounds g t c κs within =
    let m = c.args.making.now in
    let cut = c.in-Some.ensures.cases in
    let long : All (IsRowIn m) (c.in-Some.next.now ∷ c.in-Some.others.now) = subst (All (IsRowIn m)) cut.0 c.requires.long in
    let head : IsRowIn m c.in-Some.next.now = All-head (IsRowIn m) c.in-Some.next.now c.in-Some.others.now long in
    let tail : All (IsRowIn m) c.in-Some.others.now = All-tail (IsRowIn m) c.in-Some.next.now c.in-Some.others.now long in
    let inside : c.args.row + 1 + 1 + length c.in-Some.others.now ≤ rows_in m = omega (arith, cut.1, c.requires.inside) in
    search (rules, head, tail, inside)

pub returns-clause-rest : goal.returns-clause-rest
returns-clause-rest g t c =
    let m = c.args.making.now in
    let cut = c.in-Some.ensures.cases in
    let long : All (IsRowIn m) (c.in-Some.next.now ∷ c.in-Some.others.now) = subst (All (IsRowIn m)) cut.0 c.requires.long in
    let head : IsRowIn m c.in-Some.next.now = All-head (IsRowIn m) c.in-Some.next.now c.in-Some.others.now long in
    let same : length c.next-2-1.given.0.items ≡ length c.in-Some.next.now.items = search rules in
    AreAllMade-cons m (c.args.row + 1) c.next-2-1.given.0 c.others-1.given.0 (omega (arith, same, head)) (search rules) (search rules)

pub join_mut+arg3+2-overflow_add-row : goal.join_mut+arg3+2-overflow_add-row
join_mut+arg3+2-overflow_add-row g t c = omega (arith, c.requires.inside, rows_few None c.captures.making.now c.requires.making)
