use Rattle.std.proofs.Common.{◌≡◌, ℕ, ◌+◌, ◌*◌, ◌/◌, ◌%◌, ◌≤◌, length, sym, subst}
use Rattle.sample_unpack.specs.Level.{bit_of}
use Rattle.value_codes.proofs.TakeLemmas.{place-of, IsTaken-at}
use Rattle.value_codes.proofs.take.take_levels.Goals as goal

-- where a level begins, by numbers that were made wider
passed-place : (first chans chan bits i p q r s t : ℕ) → p ≡ first → q ≡ chans → r ≡ chan → s ≡ bits → t ≡ bits
    → 8 * ((p * q + r) * s / 8) + (p * q + r) * s % 8 + i * (chans * t) ≡ bit_of bits chans chan (first + i)
passed-place first chans chan bits i p q r s t e1 e2 e3 e4 e5 = rw (e1, e2, e3, e4, e5) (place-of first chans chan bits i)

pub take_whole-requires-clause-inside : goal.take_whole-requires-clause-inside
take_whole-requires-clause-inside c i h =
    let a = c.args in
    subst (λ n. n + a.bits ≤ 8 * length a.array.now) (sym (passed-place a.first a.chans a.chan a.bits i _ _ _ _ _ c.from.ensures c.from-2.ensures c.from-3.ensures c.from-4.ensures c.from-5.ensures)) (c.requires.inside i h)

pub take_each-requires-clause-inside : goal.take_each-requires-clause-inside
take_each-requires-clause-inside c i h =
    let a = c.args in
    subst (λ n. n + a.bits ≤ 8 * length a.array.now) (sym (passed-place a.first a.chans a.chan a.bits i _ _ _ _ _ c.from.ensures c.from-2.ensures c.from-3.ensures c.from-4.ensures c.from-5.ensures)) (c.requires.inside i h)

pub returns-then-step-eq0 : goal.returns-then-step-eq0
returns-then-step-eq0 c i h =
    let a = c.args in
    IsTaken-at a.array.now a.bits (bit_of a.bits a.chans a.chan (a.first + i)) _ _ c.requires.width (passed-place a.first a.chans a.chan a.bits i _ _ _ _ _ c.from.ensures c.from-2.ensures c.from-3.ensures c.from-4.ensures c.from-5.ensures) (c.take_whole.ensures i h)

pub returns-else-step-eq0 : goal.returns-else-step-eq0
returns-else-step-eq0 c i h =
    let a = c.args in
    IsTaken-at a.array.now a.bits (bit_of a.bits a.chans a.chan (a.first + i)) _ _ c.requires.width (passed-place a.first a.chans a.chan a.bits i _ _ _ _ _ c.from.ensures c.from-2.ensures c.from-3.ensures c.from-4.ensures c.from-5.ensures) (c.take_each.ensures i h)
