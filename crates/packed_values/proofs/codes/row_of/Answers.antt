use Rattle.std.proofs.Common.{◌≡◌, ◌<◌, ℕ, ℤ, List, length, w64, to_z, of_z, pos, ◌+ℤ◌, ◌-ℤ◌, arith, sym, ap, ◌∙◌, FitsSigned}
use Rattle.std.proofs.lemmas.Int.{to_z-of_z}
use Rattle.std.proofs.lemmas.Option.{none-some}
use Rattle.packed_values.specs.Tables.{IsAlong, IsNarrow}
use Rattle.packed_values.specs.Words.{word_at}
use Rattle.packed_values.proofs.Cuts.{cut-value, inside-all, whole-along, whole-value}
use Rattle.packed_values.proofs.codes.row_of.Goals as goal

-- the start as it was passed
passed : (inside codes : List ℕ) (first n : ℕ) (start : ℤ) → FitsSigned w64 start
    → ((k : ℕ) → k < n → word_at inside 0 (pos k -ℤ pos first) ≡ word_at codes 0 (to_z w64 (of_z w64 start) +ℤ pos k))
    → (k : ℕ) → k < n → word_at inside 0 (pos k -ℤ pos first) ≡ word_at codes 0 (start +ℤ pos k)
passed inside codes first n start fits same k lt = same k lt ∙ ap (λ (z : ℤ). word_at codes 0 (z +ℤ pos k)) (to_z-of_z w64 start fits)

pub returns-in-Some-clause-values : goal.returns-in-Some-clause-values
returns-in-Some-clause-values c = λ k lt.
    let codes = c.args.codes.now in
    let first = c.part_of-first.result.0 in
    let inside = c.part_of-first.result.1.now in
    let n = length c.args.there.now in
    let same = passed inside codes first n c.args.start c.ranges.start c.part_of-first.ensures.codes in
    let whole : length inside ≡ n = omega (arith, c.in-Some.ensures.whole, c.requires.re) in
    c.as_levels.ensures.values k (omega (arith, lt, whole))
    ∙ whole-value inside codes first n c.args.start same c.part_of-first.ensures.room whole k lt

pub returns-in-Some-clause-narrow : goal.returns-in-Some-clause-narrow
returns-in-Some-clause-narrow c = λ narrow.
    let codes = c.args.codes.now in
    let first = c.part_of-first.result.0 in
    let inside = c.part_of-first.result.1.now in
    let n = length c.args.there.now in
    let same = passed inside codes first n c.args.start c.ranges.start c.part_of-first.ensures.codes in
    c.as_levels.ensures.bias
    ∙ c.in-Some.ensures.narrow (inside-all inside codes first n c.args.start same c.part_of-first.ensures.room IsNarrow narrow)

pub returns-in-Some-whole-clause-values : goal.returns-in-Some-whole-clause-values
returns-in-Some-whole-clause-values c = λ k lt.
    let codes = c.args.codes.now in
    let first = c.part_of-first.result.0 in
    let inside = c.part_of-first.result.1.now in
    let n = length c.args.there.now in
    let same = passed inside codes first n c.args.start c.ranges.start c.part_of-first.ensures.codes in
    let whole : length inside ≡ n = c.in-Some-whole.ensures.whole.1 in
    c.levels_of.ensures.values k (omega (arith, lt, whole))
    ∙ whole-value inside codes first n c.args.start same c.part_of-first.ensures.room whole k lt

pub returns-in-None-clause-values : goal.returns-in-None-clause-values
returns-in-None-clause-values c = λ k lt.
    let codes = c.args.codes.now in
    let first = c.part_of-first.result.0 in
    let inside = c.part_of-first.result.1.now in
    let n = length c.args.there.now in
    let same = passed inside codes first n c.args.start c.ranges.start c.part_of-first.ensures.codes in
    c.streams_of.ensures.values k lt ∙ cut-value inside codes first n c.args.start same k lt

pub returns-in-Some-whole-clause-narrow : goal.returns-in-Some-whole-clause-narrow
returns-in-Some-whole-clause-narrow c = λ narrow.
    let codes = c.args.codes.now in
    let first = c.part_of-first.result.0 in
    let inside = c.part_of-first.result.1.now in
    let n = length c.args.there.now in
    let same = passed inside codes first n c.args.start c.ranges.start c.part_of-first.ensures.codes in
    c.levels_of.ensures.bias
    ∙ c.kind_of-bias.ensures.narrow (inside-all inside codes first n c.args.start same c.part_of-first.ensures.room IsNarrow narrow)

pub returns-in-None-clause-narrow : goal.returns-in-None-clause-narrow
returns-in-None-clause-narrow c = λ narrow.
    let codes = c.args.codes.now in
    let first = c.part_of-first.result.0 in
    let inside = c.part_of-first.result.1.now in
    let n = length c.args.there.now in
    let same = passed inside codes first n c.args.start c.ranges.start c.part_of-first.ensures.codes in
    c.streams_of.ensures.bias
    ∙ c.kind_of-bias.ensures.narrow (inside-all inside codes first n c.args.start same c.part_of-first.ensures.room IsNarrow narrow)

pub returns-in-None-clause-still : goal.returns-in-None-clause-still
returns-in-None-clause-still c = λ d some along.
    let codes = c.args.codes.now in
    let first = c.part_of-first.result.0 in
    let inside = c.part_of-first.result.1.now in
    let n = length c.args.there.now in
    let same = passed inside codes first n c.args.start c.ranges.start c.part_of-first.ensures.codes in
    let room = c.part_of-first.ensures.room in
    let whole : length inside ≡ n = whole-along inside codes first n c.args.start same room some d along in
    absurd (none-some d
    (sym c.in-None.is ∙ c.whole.ensures.same whole
    ∙ c.kind_of-bias.ensures.along d (omega (arith, some, whole)) (inside-all inside codes first n c.args.start same room (IsAlong d) along)))
