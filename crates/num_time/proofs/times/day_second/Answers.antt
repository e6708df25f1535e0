use Rattle.std.proofs.Common.{◌≡◌, ◌≤◌, ℕ, true, Some, None, if◌then◌else◌, arith, refl, sym, ap, ◌∙◌, pos, ◌*ℤ◌, w16, w64, to_z, of_z}
use Rattle.std.proofs.lemmas.Int.{ints}
use Rattle.jiff_core.specs.Calendar.{days_in_year, days_from_civil}
use Rattle.num_time.specs.Times.{has_day, day_second}
use Rattle.num_time.proofs.TimeLemmas.{epoch_day-day, has_day-from, seconds_of_days, day_second-bounds}
use Rattle.num_time.proofs.times.day_second.Goals as goal

start_is : (c : goal.After-from) → (1 ≤ c.args.day) × (c.args.day ≤ days_in_year (pos c.args.year)) × (to_z w64 (of_z w64 (pos 86400 *ℤ to_z w64 (of_z w64 c.from.result))) ≡ day_second c.args.year c.args.day)
start_is c =
    let year : ℕ = c.args.year in
    let day : ℕ = c.args.day in
    let y : to_z w16 year ≡ pos year = omega (arith, ints, c.requires.first, c.requires.last) in
    let d : to_z w16 day ≡ pos day = omega (arith, ints, c.requires.days) in
    let in_year = (c.in-Ok.ensures.succeeds.0 refl).1 in
    let some : 1 ≤ day = omega (arith, ints, d, in_year.0) in
    let most : day ≤ days_in_year (to_z w16 year) = omega (arith, ints, d, in_year.1) in
    let number = c.to_unix_epoch_day.ensures.value ∙ epoch_day-day c.in-Ok.date year day (c.in-Ok.ensures.value.0 ∙ y) (c.in-Ok.ensures.value.1 ∙ d) some in
    let value = seconds_of_days c.to_unix_epoch_day.result c.from.result (days_from_civil (pos year) 1 1) day c.from.ensures c.to_unix_epoch_day.ensures.bound number in
    (some, rw y at most, value)

pub returns-in-Ok-clause-value : goal.returns-in-Ok-clause-value
returns-in-Ok-clause-value c =
    let year : ℕ = c.args.year in
    let day : ℕ = c.args.day in
    let start = start_is c in
    let there : has_day year day ≡ true = has_day-from year day (days_in_year (pos year)) start.0 start.1 in
    ap (λ z. Some z) start.2 ∙ ap (λ b. if b then Some (day_second year day) else None) (sym there)

pub returns-in-Ok-clause-bound : goal.returns-in-Ok-clause-bound
returns-in-Ok-clause-bound c =
    let start = start_is c in
    rw start.2 (day_second-bounds c.args.year c.args.day (days_in_year (pos c.args.year)) c.requires.first c.requires.last start.0 start.1 refl)
