-- Fields of a number, and of its fields.
use Rattle.std.proofs.Common.{◌≡◌, ℕ, ◌+◌, ◌-◌, ◌*◌, ◌/◌, ◌%◌, ◌^◌, ◌<◌, ◌≤◌, List, get_or, sym, ap, ◌∙◌, arith}
use Rattle.std.proofs.lemmas.Nat.{field_of, shr-shr, pow_pos, mod_below, div_below, mul-le, mul-add-lt, div-add-mod', div-mul-add, mod-mul-add}
use Rattle.std.proofs.Math.Nat.{pow-le-pow_right}
use Rattle.std.proofs.Math.Pow.{mod-mod-pow}
use Rattle.value_codes.specs.Fields.{field_at}

-- a field of at most four bits
pub field-below : (width x y : ℕ) → width ≤ 4 → x ≡ y % 2 ^ width → x < 16
field-below width x y narrow is =
    let below : y % 2 ^ width < 2 ^ width = mod_below y (2 ^ width) (pow_pos width) in
    let most : 2 ^ width ≤ 2 ^ 4 = pow-le-pow_right {n = 2} (omega arith) narrow in
    omega (arith, is, below, most)

-- bits of the lowest bits
pub bits-of : (x low bits step : ℕ) → low + bits ≤ step → x % 2 ^ step / 2 ^ low % 2 ^ bits ≡ x / 2 ^ low % 2 ^ bits
bits-of x low bits step inside =
    let past : ℕ = step - low - bits in
    let all : step ≡ past + bits + low = omega (arith, inside) in
    ap (λ n. x % 2 ^ n / 2 ^ low % 2 ^ bits) all
    ∙ ap (λ y. y % 2 ^ bits) (field_of x (past + bits) low)
    ∙ mod-mod-pow (x / 2 ^ low) past bits

-- a field of a field
part-of : (x per width low r : ℕ) → r < per → x / 2 ^ low % 2 ^ (per * width) / 2 ^ (width * r) % 2 ^ width ≡ x / 2 ^ (low + width * r) % 2 ^ width
part-of x per width low r h =
    let less : (r + 1) * width ≤ per * width = mul-le (r + 1) width per width (omega (arith, h)) (omega arith) in
    let apart : (r + 1) * width ≡ width * r + width = grind arith in
    bits-of (x / 2 ^ low) (width * r) width (per * width) (omega (arith, less, apart)) ∙ ap (λ y. y % 2 ^ width) (shr-shr x low (width * r))

-- the place of a field, where the lane and the half of it are known
place-in-half : (per at k r lane half : ℕ) → at + k ≡ lane * 2 + half → per * at + (k * per + r) ≡ lane * (2 * per) + (half * per + r)
place-in-half per at k r lane half is =
    let before : per * at + (k * per + r) ≡ (at + k) * per + r = grind arith in
    before ∙ ap (λ n. n * per + r) is ∙ grind arith

pub field-of-half : (fields half : List ℕ) (per width at i : ℕ) → 0 < per
    → ((k : ℕ) → k < 16 → get_or half k 0 ≡ field_at fields 2 (per * width) (at + k)) → i < per * 16
    → field_at half per width i ≡ field_at fields (2 * per) width (per * at + i)
field-of-half fields half per width at i some is h =
    let k : ℕ = i / per in
    let r : ℕ = i % per in
    let lane : ℕ = (at + k) / 2 in
    let b : ℕ = (at + k) % 2 in
    let inside : r < per = mod_below i per some in
    let whole : k * per + r ≡ i = div-add-mod' i per in
    let there : per * at + i ≡ lane * (2 * per) + (b * per + r) = ap (λ n. per * at + n) (sym whole) ∙ place-in-half per at k r lane b (omega arith) in
    let row : b * per + r < per * 2 = mul-add-lt b per r 2 (omega arith) inside in
    let below : b * per + r < 2 * per = omega (arith, row) in
    let index : (per * at + i) / (2 * per) ≡ lane = ap (λ n. n / (2 * per)) there ∙ div-mul-add lane (2 * per) (b * per + r) below in
    let rest : (per * at + i) % (2 * per) ≡ b * per + r = ap (λ n. n % (2 * per)) there ∙ mod-mul-add lane (2 * per) (b * per + r) below in
    let low : per * width * b + width * r ≡ width * (b * per + r) = grind arith in
    ap (λ x. x / 2 ^ (width * r) % 2 ^ width) (is k (div_below i per 16 some (omega (arith, h))))
    ∙ part-of (get_or fields lane 0) per width (per * width * b) r inside
    ∙ ap (λ n. get_or fields lane 0 / 2 ^ n % 2 ^ width) (low ∙ ap (λ n. width * n) (sym rest))
    ∙ ap (λ n. get_or fields n 0 / 2 ^ (width * ((per * at + i) % (2 * per))) % 2 ^ width) (sym index)
