use Rattle.std.proofs.Common.{◌≡◌, ◌≢◌, [], refl, subst, List, ℕ, arith, rules}
use Rattle.std.proofs.lemmas.Bool.{false≢true}
use Rattle.std.proofs.lemmas.List.{nil_from_length}
use Rattle.fringe_search.specs.Certificates.{AtGrid, AtPeak}
use Rattle.fringe_search.specs.Fronts.{IsRead}
use Rattle.fringe_search.proofs.Lines.{wrong_at, right_of, read_short}
use Rattle.fringe_search.proofs.Reading.{few_lags, no_grid, no_end}
use Rattle.fringe_search.proofs.Checking.{none_checked, one_checked, one_stopped, all_checked}
use Rattle.fringe_search.proofs.check.check_certificate.Goals as goal

pub returns-in_default-clause-wrong : goal.returns-in_default-clause-wrong
returns-in_default-clause-wrong c =
    let few = few_lags c.args.vis.now (omega (arith, c.head-head.ensures.vis.head_is.lags)) in
    wrong_at c.args.vis.now c.args.text.now c.args.text.now 0 few (no_grid c.args.vis.now c.args.text.now c.in_default.ensures) (omega arith)

pub returns-in_default-clause-right : goal.returns-in_default-clause-right
returns-in_default-clause-right c =
    let few = few_lags c.args.vis.now (omega (arith, c.head-head.ensures.vis.head_is.lags)) in
    let wrong = wrong_at c.args.vis.now c.args.text.now c.args.text.now 0 few (no_grid c.args.vis.now c.args.text.now c.in_default.ensures) (omega arith) in
    (λ e. absurd (false≢true e), λ right. absurd (wrong.wrong right))

pub loop-next-init : goal.loop-next-init
loop-next-init c =
    none_checked c.args.vis.now c.in-Some.grid c.head-head.result.now c.args.text.now c.in-Some.behind.now c.first-next.result c.head-head.ensures.head c.in-Some.ensures c.first-next.ensures.first c.first-next.ensures.within

pub wrong_at-requires : goal.wrong_at-requires
wrong_at-requires c =
    let h = one_stopped c.args.vis.now c.in-Some.grid c.loop-next.next c.in-Some-next.at c.args.text.now c.loop-next.rest.now c.in-Err.wrong.now c.in-Some-next.is c.loop-next.invariant c.in-Err.ensures.stopped in
    read_short c.args.vis.now AtGrid h.next c.args.text.now c.in-Err.wrong.now h.read

pub returns-in-Err-clause-wrong : goal.returns-in-Err-clause-wrong
returns-in-Err-clause-wrong c =
    let few = few_lags c.args.vis.now (omega (arith, c.head-head.ensures.vis.head_is.lags)) in
    let h = one_stopped c.args.vis.now c.in-Some.grid c.loop-next.next c.in-Some-next.at c.args.text.now c.loop-next.rest.now c.in-Err.wrong.now c.in-Some-next.is c.loop-next.invariant c.in-Err.ensures.stopped in
    wrong_at c.args.vis.now c.args.text.now c.in-Err.wrong.now c.wrong_at.result.at few h c.wrong_at.ensures

pub returns-in-Err-clause-right : goal.returns-in-Err-clause-right
returns-in-Err-clause-right c =
    let few = few_lags c.args.vis.now (omega (arith, c.head-head.ensures.vis.head_is.lags)) in
    let h = one_stopped c.args.vis.now c.in-Some.grid c.loop-next.next c.in-Some-next.at c.args.text.now c.loop-next.rest.now c.in-Err.wrong.now c.in-Some-next.is c.loop-next.invariant c.in-Err.ensures.stopped in
    let wrong = wrong_at c.args.vis.now c.args.text.now c.in-Err.wrong.now c.wrong_at.result.at few h c.wrong_at.ensures in
    (λ e. absurd (false≢true e), λ right. absurd (wrong.wrong right))

pub loop-next-preserved : goal.loop-next-preserved
loop-next-preserved c =
    one_checked c.args.vis.now c.in-Some.grid c.head-head.result.now c.loop-next.next c.in-Some-next.at c.after-next.result c.args.text.now c.loop-next.rest.now c.in-Ok.behind.now c.head-head.ensures.head
    c.in-Some-next.is
    c.loop-next.invariant
    c.in-Ok.ensures.read
    c.after-next.ensures.rest
    c.after-next.ensures.within

pub returns-then-is_empty-clause-right : goal.returns-then-is_empty-clause-right
returns-then-is_empty-clause-right c =
    let none : c.loop-next.rest.now ≡ [] = nil_from_length c.loop-next.rest.now (search rules) in
    let read = all_checked c.args.vis.now c.in-Some.grid c.loop-next.next c.args.text.now c.loop-next.rest.now c.in_default-next.is c.loop-next.invariant in
    (λ _. right_of c.args.vis.now c.in-Some.grid c.args.text.now (subst (λ (t : List ℕ). IsRead c.args.vis.now AtGrid c.args.text.now (AtPeak c.in-Some.grid []) t) none read), λ _. refl)

pub returns-else-is_empty-clause-wrong : goal.returns-else-is_empty-clause-wrong
returns-else-is_empty-clause-wrong c =
    let few = few_lags c.args.vis.now (omega (arith, c.head-head.ensures.vis.head_is.lags)) in
    let some : c.loop-next.rest.now ≢ [] = search rules in
    let read = all_checked c.args.vis.now c.in-Some.grid c.loop-next.next c.args.text.now c.loop-next.rest.now c.in_default-next.is c.loop-next.invariant in
    wrong_at c.args.vis.now c.args.text.now c.loop-next.rest.now c.wrong_at-else-is_empty.result.at few (no_end c.args.vis.now c.in-Some.grid c.args.text.now c.loop-next.rest.now read some) c.wrong_at-else-is_empty.ensures

pub returns-else-is_empty-clause-right : goal.returns-else-is_empty-clause-right
returns-else-is_empty-clause-right c =
    let few = few_lags c.args.vis.now (omega (arith, c.head-head.ensures.vis.head_is.lags)) in
    let some : c.loop-next.rest.now ≢ [] = search rules in
    let read = all_checked c.args.vis.now c.in-Some.grid c.loop-next.next c.args.text.now c.loop-next.rest.now c.in_default-next.is c.loop-next.invariant in
    let wrong = wrong_at c.args.vis.now c.args.text.now c.loop-next.rest.now c.wrong_at-else-is_empty.result.at few (no_end c.args.vis.now c.in-Some.grid c.args.text.now c.loop-next.rest.now read some) c.wrong_at-else-is_empty.ensures in
    (λ e. absurd (false≢true e), λ right. absurd (wrong.wrong right))
