use Rattle.std.proofs.Common.{◌≡◌, ◌+◌, ◌-◌, ℤ, pos, ◌+ℤ◌, min, length, w64, to_z, of_z, ap, ◌∙◌, rules}
use Rattle.std.proofs.lemmas.Int.{to_z-of_z}
use Rattle.packed_values.specs.Words.{word_at}
use Rattle.packed_values.proofs.Cuts.{code-cut}
use Rattle.packed_values.proofs.codes.part_of.Goals as goal

pub returns-clause-codes : goal.returns-clause-codes
returns-clause-codes c =
    let codes = c.args.codes.now in
    let start : ℤ = to_z w64 (of_z w64 c.args.start) in
    let passed : start ≡ c.args.start = to_z-of_z w64 c.args.start c.ranges.start in
    let before = c.places-before.result.0 in
    let place = c.places-before.result.1 in
    let from = c.min-from.result in
    let first = c.min-first.result in
    let last = c.min-last.result in
    let n = c.args.count in
    let is_from : from ≡ min place (length codes) = search rules in
    let is_first : first ≡ min before n = search rules in
    let is_last : last ≡ min (first + (length codes - from)) n = search rules in
    λ k lt.
    code-cut codes start before place from first last n c.places-before.ensures.before c.places-before.ensures.first is_from is_first is_last k lt
    ∙ ap (λ (z : ℤ). word_at codes 0 (z +ℤ pos k)) passed
