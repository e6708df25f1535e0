use Rattle.std.proofs.Common.{ℕ, ◌-◌, ◌^◌, min, List, [], ◌∷◌, take, refl, ap, ◌∙◌}
use Rattle.std.specs.Str.Parse.{digits_value}
use Rattle.num_time.proofs.DigitLemmas.{are_digits-take, capped_parts}
use Rattle.num_time.proofs.NumeralLemmas.{moved_digits-parts}
use Rattle.num_time.proofs.numerals.magnitude.Goals as goal

pub number_after-digits-requires : goal.number_after-digits-requires
number_after-digits-requires c = are_digits-take c.min-kept.result c.args.back.now c.requires.back

pub number_after-requires : goal.number_after-requires
number_after-requires c = are_digits-take (c.args.places - c.min-kept.result) (48 ∷ 48 ∷ 48 ∷ 48 ∷ 48 ∷ 48 ∷ []) refl

pub returns : goal.returns
returns c =
    let kept : ℕ = c.min-kept.result in
    let front : List ℕ = c.args.front.now in
    let back : List ℕ = c.args.back.now in
    let zeros : List ℕ = take (c.args.places - kept) (48 ∷ 48 ∷ 48 ∷ 48 ∷ 48 ∷ 48 ∷ []) in
    capped_parts (2 ^ 64 - 1) front (take kept back) zeros c.number_after-whole.result c.number_after-digits.result c.number_after.result
    c.number_after-whole.ensures c.number_after-digits.ensures c.number_after.ensures
    ∙ ap (λ xs. min (digits_value 10 xs) (2 ^ 64 - 1)) (moved_digits-parts front back c.args.places kept c.min-kept.ensures c.requires.few)
