use Rattle.std.proofs.Common.{◌≡◌, ℕ, ◌+◌, ◌*◌, ◌<◌, ◌≤◌, length, ◌∙◌, arith}
use Rattle.std.proofs.lemmas.Nat.{mul-add-lt, mul-le}
use Rattle.sample_unpack.specs.Level.{bit_of}
use Rattle.value_codes.proofs.tests.channels_have_levels.Goals as goal

-- a sample of a channel ends before the complete samples do
sample-inside : (bits chans chan first n i : ℕ) → chan < chans → i < n → bit_of bits chans chan (first + i) + bits ≤ (first + n) * (chans * bits)
sample-inside bits chans chan first n i there below =
    let row : (first + i) * chans + chan < chans * (first + n) = mul-add-lt (first + i) chans chan (first + n) (omega (arith, below)) there in
    let all : ((first + i) * chans + chan + 1) * bits ≤ chans * (first + n) * bits =
    mul-le ((first + i) * chans + chan + 1) bits (chans * (first + n)) bits (omega (arith, row)) (omega arith) in
    let apart : ((first + i) * chans + chan + 1) * bits ≡ bit_of bits chans chan (first + i) + bits = grind arith in
    let turned : chans * (first + n) * bits ≡ (first + n) * (chans * bits) = grind arith in
    omega (arith, all, apart, turned)

pub sample_at-level-requires-clause-inside : goal.sample_at-level-requires-clause-inside
sample_at-level-requires-clause-inside c =
    let a = c.args in
    let long : length c.take_levels.new.codes ≡ length a.codes.now = c.take_levels.auto.codes ∙ c.loop-chan.auto.codes in
    let below : c.loop-i.i < length a.codes.now = omega (arith, c.loop-i-test.true, long) in
    omega (arith, sample-inside a.bits a.chans c.loop-chan.chan a.first (length a.codes.now) c.loop-i.i c.loop-chan-test.true below, c.requires.inside)
