use Rattle.std.proofs.Common.{rules, ◌≡◌, ◌-◌, ◌^◌, ◌≤◌, ◌<◌, ◌+◌, ◌*◌, min, [], length, drop, get_or, arith, refl, ap, sym, ◌∙◌}
use Rattle.std.proofs.lemmas.List.{drop_all}
use Rattle.std.specs.Str.Parse.{digits_value_after}
use Rattle.num_time.proofs.DigitLemmas.{step_digits, step_number}
use Rattle.num_time.proofs.digits.number_after.Goals as goal

pub loop-c-preserved : goal.loop-c-preserved
loop-c-preserved c =
    let i = c.loop-c.c-index in
    let ds = c.args.digits.now in
    let here : i < length ds = search rules in
    let number : c.saturating_add-number.result ≡ min (min (c.loop-c.number * 10) (2 ^ 64 - 1) + (get_or ds i 0 - 48)) (2 ^ 64 - 1) = search rules in
    record {
      fits = omega (arith, number);
      digits = step_digits ds i here c.loop-c.invariant.digits;
      same =
          ap (λ m. min (digits_value_after 10 m (drop (i + 1) ds)) (2 ^ 64 - 1)) number
          ∙ step_number ds i c.loop-c.number (get_or ds i 0) (2 ^ 64 - 1) here refl c.loop-c.invariant.digits
          ∙ c.loop-c.invariant.same;
    }

pub returns : goal.returns
returns c =
    let ds = c.args.digits.now in
    let past : length ds ≤ c.loop-c.c-index = search rules in
    let none : drop c.loop-c.c-index ds ≡ [] = drop_all _ ds past in
    let fits : c.loop-c.number ≤ 2 ^ 64 - 1 = c.loop-c.invariant.fits in
    let is : c.loop-c.number ≡ min c.loop-c.number (2 ^ 64 - 1) = omega arith in
    is
    ∙ ap (λ xs. min (digits_value_after 10 c.loop-c.number xs) (2 ^ 64 - 1)) (sym none)
    ∙ c.loop-c.invariant.same
