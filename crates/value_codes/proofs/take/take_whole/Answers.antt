use Rattle.std.proofs.Common.{◌≡◌, ℕ, ◌+◌, ◌-◌, ◌*◌, ◌/◌, ◌%◌, ◌<◌, ◌≤◌, length, slice_index, sym, subst, ap, ◌∙◌, arith}
use Rattle.std.proofs.Math.Nat.{mul-div-le}
use Rattle.sample_unpack.specs.Level.{code_at}
use Rattle.value_codes.specs.Taken.{taken_of}
use Rattle.value_codes.proofs.ByteLemmas.{behind-head, behind-bytes, each-of-three, per-is, vectors-inside}
use Rattle.value_codes.proofs.take.take_whole.Goals as goal

vectors-of : (per count : ℕ) → per * (16 * count) ≡ 16 * per * count
vectors-of per count = grind arith

pub take_vectors-requires-clause-whole : goal.take_vectors-requires-clause-whole
take_vectors-requires-clause-whole c =
    let a = c.args in
    let count : ℕ = (length a.codes.now - c.min-head.result) / (16 * a.per) in
    c.split_at_mut-middle.ensures.front_len ∙ ap (λ n. 16 * n * count) (per-is a.per a.step c.requires.step)

pub take_vectors-requires-clause-inside : goal.take_vectors-requires-clause-inside
take_vectors-requires-clause-inside c =
    let a = c.args in
    vectors-inside a.byte a.shift a.bits a.step a.per (length a.codes.now) c.min-head.result (length a.array.now) c.requires.step c.requires.shift
    (omega (arith, c.requires.width)) c.requires.some c.min-head.ensures c.requires.inside

pub overflow_add-byte-2 : goal.overflow_add-byte-2
overflow_add-byte-2 c = omega (arith, c.requires.inside 0 c.requires.some)

pub overflow_add-byte-3 : goal.overflow_add-byte-3
overflow_add-byte-3 c =
    let a = c.args in
    let within : a.byte + 1 + 16 * ((length a.codes.now - c.min-head.result) / (16 * a.per)) ≤ length a.array.now =
    vectors-inside a.byte a.shift a.bits a.step a.per (length a.codes.now) c.min-head.result (length a.array.now) c.requires.step c.requires.shift
    (omega (arith, c.requires.width)) c.requires.some c.min-head.ensures c.requires.inside in
    omega (arith, within)

pub take_each-requires-2-clause-inside : goal.take_each-requires-2-clause-inside
take_each-requires-2-clause-inside c i h =
    let a = c.args in
    let head : ℕ = c.min-head.result in
    let count : ℕ = (length a.codes.now - head) / (16 * a.per) in
    let at : ℕ = a.per * (16 * count) + i in
    let behind : at < length a.codes.now - head =
    omega (arith, h, vectors-of a.per count, c.split_at_mut-front.ensures.back_len, c.split_at_mut-middle.ensures.back_len) in
    let place : 8 * a.byte + a.shift + (head + at) * a.step ≡ 8 * (a.byte + 1 + 16 * count) + a.shift % a.step + i * a.step =
    behind-bytes a.byte a.shift a.step a.per (length a.codes.now) head (16 * count) i c.requires.step c.requires.shift c.min-head.ensures behind in
    subst (λ m. m + a.bits ≤ 8 * length a.array.now) place (c.requires.inside (head + at) (omega (arith, behind)))

pub returns : goal.returns
returns c i h =
    let a = c.args in
    let n : ℕ = length a.codes.now in
    let head : ℕ = c.min-head.result in
    let count : ℕ = (n - head) / (16 * a.per) in
    let bytes : ℕ = 16 * count in
    let vectors : a.per * bytes ≡ 16 * a.per * count = vectors-of a.per count in
    let levels : 16 * a.per * count ≤ n - head = mul-div-le (n - head) (16 * a.per) in
    let P : ℕ → ℕ → Type 0 = λ m code. code ≡ taken_of a.bits (code_at a.array.now a.bits (8 * a.byte + a.shift + m * a.step)) in
    let place : ℕ → ℕ = λ m. 8 * a.byte + a.shift + m * a.step in
    let front : length c.take_each.new.codes ≡ head = c.take_each.auto.codes ∙ c.split_at_mut-front.ensures.front_len in
    let middle : length c.take_vectors.new.codes ≡ 16 * a.per * count = c.take_vectors.auto.codes ∙ c.split_at_mut-middle.ensures.front_len in
    let rest : length c.take_each-2.new.codes ≡ n - head - 16 * a.per * count =
    omega (arith, c.take_each-2.auto.codes, c.split_at_mut-front.ensures.back_len, c.split_at_mut-middle.ensures.back_len) in
    let second : (k : ℕ) → k < length c.take_vectors.new.codes → P (length c.take_each.new.codes + k) (slice_index c.take_vectors.new.codes k) =
    λ k within.
    let behind : k < n - head = omega (arith, within, middle, levels) in
    let there : place (length c.take_each.new.codes + k) ≡ 8 * (a.byte + 1) + a.shift % a.step + k * a.step =
    ap (λ m. place (m + k)) front ∙ behind-head a.byte a.shift a.step a.per n head k c.requires.step c.requires.shift c.min-head.ensures behind in
    c.take_vectors.ensures k (subst (λ m. k < m) c.take_vectors.auto.codes within)
    ∙ ap (λ m. taken_of a.bits (code_at a.array.now a.bits m)) (sym there) in
    let third : (k : ℕ) → k < length c.take_each-2.new.codes → P (length c.take_each.new.codes + (length c.take_vectors.new.codes + k)) (slice_index c.take_each-2.new.codes k) =
    λ k within.
    let behind : a.per * bytes + k < n - head = omega (arith, within, rest, vectors) in
    let there : place (length c.take_each.new.codes + (length c.take_vectors.new.codes + k)) ≡ 8 * (a.byte + 1 + bytes) + a.shift % a.step + k * a.step =
    ap (λ m. place (m + (length c.take_vectors.new.codes + k))) front ∙ ap (λ m. place (head + (m + k))) (middle ∙ sym vectors)
    ∙ behind-bytes a.byte a.shift a.step a.per n head bytes k c.requires.step c.requires.shift c.min-head.ensures behind in
    c.take_each-2.ensures k (subst (λ m. k < m) c.take_each-2.auto.codes within)
    ∙ ap (λ m. taken_of a.bits (code_at a.array.now a.bits m)) (sym there) in
    let all : i < length c.take_each.new.codes + (length c.take_vectors.new.codes + length c.take_each-2.new.codes) =
    omega (arith, h, front, middle, rest, levels, c.min-head.ensures) in
    each-of-three P c.take_each.new.codes c.take_vectors.new.codes c.take_each-2.new.codes
    (λ k within. c.take_each.ensures k (subst (λ m. k < m) c.take_each.auto.codes within)) second third i all
