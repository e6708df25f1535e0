use Rattle.std.proofs.Common.{◌+◌, get_or, length, refl, ◌∙◌}
use Rattle.byte_streams.specs.Rows.{level_value}
use Rattle.byte_streams.specs.Streams.{value_in}
use Rattle.block_lags.proofs.PairCounts.{there-is, count-is, first-is, second-is, whole-is}
use Rattle.block_lags.proofs.counts.pair_counts.Goals as goal

pub returns-in-Still-Still-clause-counts : goal.returns-in-Still-Still-clause-counts
returns-in-Still-Still-clause-counts c = λ i lt.
    let m = c.in-Still-Still in
    rw (m.is-0, m.is-1)
    (c.fill.ensures.numbers i lt ∙ whole-is (level_value m.a) (level_value m.field-0-1) i (length m.a.level.bytes.now) (λ _. refl) (λ _. refl))

pub returns-in-Still-Turning-clause-counts : goal.returns-in-Still-Turning-clause-counts
returns-in-Still-Turning-clause-counts c = λ i lt.
    let m = c.in-Still-Turning in
    rw (m.is-0, m.is-1)
    (c.sum_second.ensures.counts i lt
    ∙ second-is (level_value m.a) (value_in m.t) i (length m.a.level.bytes.now) m.t.there.now (λ _. refl)
    (λ k _. there-is m.t.bias _ _ (get_or m.t.there.now (i + k) 0) (m.t.streams.there (i + k))))

pub returns-in-Turning-Still-clause-counts : goal.returns-in-Turning-Still-clause-counts
returns-in-Turning-Still-clause-counts c = λ i lt.
    let m = c.in-Turning-Still in
    rw (m.is-0, m.is-1)
    (c.sum_first.ensures.counts i lt
    ∙ first-is (value_in m.s) (level_value m.b) i (length m.s.there.now) m.s.there.now
    (λ k _. there-is m.s.bias _ _ (get_or m.s.there.now k 0) (m.s.streams.there k)) (λ _. refl))

pub returns-in-Turning-Turning-clause-counts : goal.returns-in-Turning-Turning-clause-counts
returns-in-Turning-Turning-clause-counts c = λ i lt.
    let m = c.in-Turning-Turning in
    rw (m.is-0, m.is-1)
    (c.sum_theres.ensures.counts i lt
    ∙ count-is (value_in m.s) (value_in m.t) i (length m.s.there.now) m.s.there.now m.t.there.now
    (λ k _. there-is m.s.bias _ _ (get_or m.s.there.now k 0) (m.s.streams.there k))
    (λ k _. there-is m.t.bias _ _ (get_or m.t.there.now (i + k) 0) (m.t.streams.there (i + k))))
