use Rattle.std.proofs.Common.{◌≡◌, ◌++◌, ℤ, w64, to_z, of_z, subst, rules}
use Rattle.std.specs.Fmt.{signed_decimal}
use Rattle.std.proofs.lemmas.Int.{to_z-of_z}
use Rattle.fringe_search.proofs.Strips.{strips_more}
use Rattle.fringe_search.proofs.strip.strip_signed.Goals as goal

pub returns : goal.returns
returns c =
    let wide : c.args.text.now ≡ signed_decimal (to_z w64 (of_z w64 c.args.z)) ++ c.in_ok-middle.middle.now = search rules in
    let front = subst (λ (z : ℤ). c.args.text.now ≡ signed_decimal z ++ c.in_ok-middle.middle.now) (to_z-of_z w64 c.args.z c.ranges.z) wide in
    strips_more c.args.text.now (signed_decimal c.args.z) c.in_ok-middle.middle.now c.args.word.now c.strip-2.result front c.strip-2.ensures
