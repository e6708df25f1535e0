use Rattle.std.proofs.Common.{◌≡◌, ◌+ℤ◌, pos, ℤ, length, w64, to_z, of_z, refl, ◌∙◌, ap, arith}
use Rattle.std.proofs.lemmas.Int.{to_z-of_z}
use Rattle.packed_values.specs.Words.{field_of, word_at, word_value}
use Rattle.packed_values.proofs.Cuts.{value_from-word}
use Rattle.packed_values.proofs.Fields.{word_at-word, fields_are, fields-value}
use Rattle.packed_values.proofs.words.Words.unpack_from.Goals as goal

pub returns-clause-streams : goal.returns-clause-streams
returns-clause-streams c =
    let s = c.args.self.now in
    let words = s.words.now in
    let passed : to_z w64 (of_z w64 c.args.start) ≡ c.args.start = to_z-of_z w64 c.args.start c.ranges.start in
    fields_are (length c.args.there.now) (λ k. word_at words 495 (c.args.start +ℤ pos k)) c.cut_field.new.out c.cut_field-2.new.out c.cut_field-3.new.out
    (λ k. word_at-word words s.packed (c.args.start +ℤ pos k))
    (c.cut_field.ensures.len ∙ c.requires.re) (c.cut_field-2.ensures.len ∙ c.requires.im) c.cut_field-3.ensures.len
    (λ k lt. c.cut_field.ensures.fields k (omega (arith, lt, c.requires.re)) ∙ ap (λ (z : ℤ). field_of 0 (word_at words 495 (z +ℤ pos k))) passed)
    (λ k lt. c.cut_field-2.ensures.fields k (omega (arith, lt, c.requires.im)) ∙ ap (λ (z : ℤ). field_of 5 (word_at words 495 (z +ℤ pos k))) passed)
    (λ k lt. c.cut_field-3.ensures.fields k lt ∙ ap (λ (z : ℤ). field_of 10 (word_at words 495 (z +ℤ pos k))) passed)

pub returns-clause-values : goal.returns-clause-values
returns-clause-values c = λ k lt.
    let s = c.args.self.now in
    let words = s.words.now in
    let passed : to_z w64 (of_z w64 c.args.start) ≡ c.args.start = to_z-of_z w64 c.args.start c.ranges.start in
    fields-value (word_at words 495 (c.args.start +ℤ pos k)) _ _ _ (word_at-word words s.packed (c.args.start +ℤ pos k))
    (c.cut_field.ensures.fields k (omega (arith, lt, c.requires.re)) ∙ ap (λ (z : ℤ). field_of 0 (word_at words 495 (z +ℤ pos k))) passed)
    (c.cut_field-2.ensures.fields k (omega (arith, lt, c.requires.im)) ∙ ap (λ (z : ℤ). field_of 5 (word_at words 495 (z +ℤ pos k))) passed)
    (c.cut_field-3.ensures.fields k lt ∙ ap (λ (z : ℤ). field_of 10 (word_at words 495 (z +ℤ pos k))) passed)
    ∙ value_from-word word_value words 495 refl (c.args.start +ℤ pos k)
