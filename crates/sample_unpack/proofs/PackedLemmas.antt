-- Codes packed into a number: how large it is, and each code of it.
use Rattle.std.proofs.Common.{◌≡◌, ℕ, zero, suc, ◌+◌, ◌-◌, ◌*◌, ◌/◌, ◌%◌, ◌^◌, ◌<◌, ◌≤◌, inl, inr, List, [], ◌∷◌, length, get_or, take, drop, refl, sym, ap, subst, ◌∙◌, arith, add-one, lit<}
use Rattle.std.proofs.Math.Seq.{drop-cons}
use Rattle.std.proofs.lemmas.Nat.{pow-add, div-add-mod', div-mul-add, mod-mul-add}
use Rattle.std.proofs.lemmas.List.{get_or-drop, get_or-take, length-drop, length-take-le}
use Rattle.std.proofs.Math.Nat.{div-div-eq-div-mul, mul_comm, mul-le-mul_left, pow-le-pow_right}
use Rattle.sample_unpack.specs.Level.{IsWidth, code_at}
use Rattle.sample_unpack.specs.Packed.{packed}

-- each code has so many bits
pub record AreCodes (bits : ℕ) (codes : List ℕ) : Type 0 where
  pub below : (i : ℕ) → i < length codes → get_or codes i 0 < 2 ^ bits

AreCodes-tail : (bits code : ℕ) (codes : List ℕ) → AreCodes bits (code ∷ codes) → AreCodes bits codes
AreCodes-tail bits code codes h = record { below = λ i lt. h.below (suc i) (omega arith) }

pub AreCodes-drop : (bits i : ℕ) (codes : List ℕ) → AreCodes bits codes → AreCodes bits (drop i codes)
AreCodes-drop bits i codes h = record {
  below = λ k lt. rw get_or-drop (h.below (i + k) (omega (arith, lt, length-drop i codes)));
}

pub AreCodes-take : (bits n : ℕ) (codes : List ℕ) → n ≤ length codes → AreCodes bits codes → AreCodes bits (take n codes)
AreCodes-take bits n codes le h = record {
  below = λ k lt. let below : k < n = omega (arith, lt, length-take-le n codes le) in rw get_or-take (h.below k (omega arith));
}

one_more : (b c p n : ℕ) → c < b → p < n → c + b * p < b * n
one_more b c p n h k =
    let whole : b * (p + 1) ≤ b * n = mul-le-mul_left b (omega arith) in
    omega (arith, whole)

pub packed-below : (bits : ℕ) (codes : List ℕ) → AreCodes bits codes → packed bits codes < 2 ^ (bits * length codes)
packed-below bits [] h =
    let none : bits * length {A = ℕ} [] ≡ 0 = omega arith in
    rw none (lit< tt)
packed-below bits (code ∷ codes) h =
    let rest = packed-below bits codes (AreCodes-tail bits code codes h) in
    let first : code < 2 ^ bits = h.below 0 (omega arith) in
    let bound = one_more (2 ^ bits) code (packed bits codes) (2 ^ (bits * length codes)) first rest in
    let long : bits * length (code ∷ codes) ≡ bits + bits * length codes = omega arith in
    rw (long, pow-add) bound

-- the codes from place i on, one by one
pub packed-step : (bits i : ℕ) (codes : List ℕ) → i < length codes
    → packed bits (drop i codes) ≡ get_or codes i 0 + 2 ^ bits * packed bits (drop (i + 1) codes)
packed-step bits i codes h =
    let first : drop i codes ≡ get_or codes i 0 ∷ drop (i + 1) codes = rw add-one (drop-cons codes i 0 h) in
    ap (packed bits) first

-- one more code before those from place i on, where all of them fill a byte
pub packed-fits : (bits i byte : ℕ) (codes : List ℕ) → IsWidth bits → AreCodes bits codes
    → bits * length codes ≡ 8 → 0 < i → i ≤ length codes → byte ≡ packed bits (drop i codes)
    → byte * (1 * 2 ^ bits % 256) + get_or codes (i - 1) 0 < 256
packed-fits bits i byte codes width h full some within is =
    let before : i - 1 < length codes = omega arith in
    let next : i - 1 + 1 ≡ i = omega arith in
    let step = rw next at (packed-step bits (i - 1) codes before) in
    let bound = packed-below bits (drop (i - 1) codes) (AreCodes-drop bits (i - 1) codes h) in
    let fewer : length (drop (i - 1) codes) ≤ length codes = omega (arith, length-drop (i - 1) codes) in
    let bits_fewer : bits * length (drop (i - 1) codes) ≤ 8 = omega (arith, mul-le-mul_left bits fewer) in
    let most : 2 ^ (bits * length (drop (i - 1) codes)) ≤ 2 ^ 8 = pow-le-pow_right {n = 2} (lit< tt) bits_fewer in
    let base : 1 * 2 ^ bits % 256 ≡ 2 ^ bits = one_width bits width in
    let turned : byte * 2 ^ bits ≡ 2 ^ bits * packed bits (drop i codes) = rw is (mul_comm _ _) in
    rw base (omega (arith, step, bound, most, turned))
  where
    one_width : (bits : ℕ) → IsWidth bits → 1 * 2 ^ bits % 256 ≡ 2 ^ bits
    one_width bits (inl e) = rw e refl
    one_width bits (inr (inl e)) = rw e refl
    one_width bits (inr (inr e)) = rw e refl

low_part : (b c p : ℕ) → c < b → (c + b * p) % b ≡ c
low_part b c p h =
    let turned : c + b * p ≡ p * b + c = omega arith in
    ap (λ n. n % b) turned ∙ mod-mul-add p b c h

high_part : (b c p : ℕ) → c < b → (c + b * p) / b ≡ p
high_part b c p h =
    let turned : c + b * p ≡ p * b + c = omega arith in
    ap (λ n. n / b) turned ∙ div-mul-add p b c h

-- code j of the number
pub packed-code : (bits : ℕ) (codes : List ℕ) (j : ℕ) → AreCodes bits codes → j < length codes
    → packed bits codes / 2 ^ (j * bits) % 2 ^ bits ≡ get_or codes j 0
packed-code bits [] j h lt = absurd (omega arith)
packed-code bits (code ∷ codes) zero h lt =
    let first : code < 2 ^ bits = h.below 0 (omega arith) in
    let none : zero * bits ≡ 0 = omega arith in
    let whole : (code + 2 ^ bits * packed bits codes) / 1 ≡ code + 2 ^ bits * packed bits codes = omega arith in
    ap (λ n. (code + 2 ^ bits * packed bits codes) / 2 ^ n % 2 ^ bits) none
    ∙ ap (λ n. n % 2 ^ bits) whole
    ∙ low_part (2 ^ bits) code (packed bits codes) first
packed-code bits (code ∷ codes) (suc j) h lt =
    let first : code < 2 ^ bits = h.below 0 (omega arith) in
    let rest = packed-code bits codes j (AreCodes-tail bits code codes h) (omega arith) in
    let next : suc j * bits ≡ bits + j * bits = omega arith in
    let number = code + 2 ^ bits * packed bits codes in
    ap (λ n. number / 2 ^ n % 2 ^ bits) next
    ∙ ap (λ n. number / n % 2 ^ bits) (pow-add 2 bits (j * bits))
    ∙ ap (λ n. n % 2 ^ bits) (sym (div-div-eq-div-mul number (2 ^ bits) (2 ^ (j * bits))))
    ∙ ap (λ n. n / 2 ^ (j * bits) % 2 ^ bits) (high_part (2 ^ bits) code (packed bits codes) first)
    ∙ rest

-- the codes that fill byte k: place j of them is code k * (8 / bits) + j
pub code_at-packed : (bits k j : ℕ) (array codes : List ℕ) → IsWidth bits → AreCodes bits codes
    → j < 8 / bits → (k + 1) * (8 / bits) ≤ length codes
    → get_or array k 0 ≡ packed bits (take (8 / bits) (drop (k * (8 / bits)) codes))
    → code_at array bits ((k * (8 / bits) + j) * bits) ≡ get_or codes (k * (8 / bits) + j) 0
code_at-packed bits k j array codes width h lt within is =
    let per = 8 / bits in
    let group = take per (drop (k * per) codes) in
    let left : length (drop (k * per) codes) ≡ length codes - k * per = length-drop (k * per) codes in
    let split : (k + 1) * per ≡ k * per + per = omega arith in
    let enough : per ≤ length (drop (k * per) codes) = omega arith in
    let long : length group ≡ per = length-take-le per (drop (k * per) codes) enough in
    let inside : j < length group = omega arith in
    let are : AreCodes bits group = AreCodes-take bits per (drop (k * per) codes) enough (AreCodes-drop bits (k * per) codes h) in
    let byte : (k * per + j) * bits / 8 ≡ k = byte_of bits k j width lt in
    let shift : (k * per + j) * bits % 8 ≡ j * bits = shift_of bits k j width lt in
    ap (λ n. get_or array n 0 / 2 ^ ((k * per + j) * bits % 8) % 2 ^ bits) byte
    ∙ ap (λ n. get_or array k 0 / 2 ^ n % 2 ^ bits) shift
    ∙ ap (λ n. n / 2 ^ (j * bits) % 2 ^ bits) is
    ∙ packed-code bits group j are inside
    ∙ get_or-take per (drop (k * per) codes) j 0 lt
    ∙ get_or-drop (k * per) codes j 0
  where
    byte_of : (bits k j : ℕ) → IsWidth bits → j < 8 / bits → (k * (8 / bits) + j) * bits / 8 ≡ k
    byte_of bits k j (inl e) lt = subst (λ (b : ℕ). j < 8 / b → (k * (8 / b) + j) * b / 8 ≡ k) (sym e) (λ h. omega arith) lt
    byte_of bits k j (inr (inl e)) lt = subst (λ (b : ℕ). j < 8 / b → (k * (8 / b) + j) * b / 8 ≡ k) (sym e) (λ h. omega arith) lt
    byte_of bits k j (inr (inr e)) lt = subst (λ (b : ℕ). j < 8 / b → (k * (8 / b) + j) * b / 8 ≡ k) (sym e) (λ h. omega arith) lt

    shift_of : (bits k j : ℕ) → IsWidth bits → j < 8 / bits → (k * (8 / bits) + j) * bits % 8 ≡ j * bits
    shift_of bits k j (inl e) lt = subst (λ (b : ℕ). j < 8 / b → (k * (8 / b) + j) * b % 8 ≡ j * b) (sym e) (λ h. omega arith) lt
    shift_of bits k j (inr (inl e)) lt = subst (λ (b : ℕ). j < 8 / b → (k * (8 / b) + j) * b % 8 ≡ j * b) (sym e) (λ h. omega arith) lt
    shift_of bits k j (inr (inr e)) lt = subst (λ (b : ℕ). j < 8 / b → (k * (8 / b) + j) * b % 8 ≡ j * b) (sym e) (λ h. omega arith) lt

-- bytes of which each is packed from its part of the codes
pub codes-packed : (bits per : ℕ) (array codes : List ℕ) → IsWidth bits → AreCodes bits codes
    → bits * length codes ≡ 8 * length array → per ≡ 8 / bits
    → ((k : ℕ) → k < length array → get_or array k 0 ≡ packed bits (take per (drop (k * per) codes)))
    → (i : ℕ) → i < length codes → code_at array bits (i * bits) ≡ get_or codes i 0
codes-packed bits per array codes width h room is_per each i lt =
    let whole : i / (8 / bits) * (8 / bits) + i % (8 / bits) ≡ i = div-add-mod' i (8 / bits) in
    let place = places bits i (length codes) (length array) width room lt in
    let byte = rw is_per at (each (i / (8 / bits)) place.0) in
    rw whole at (code_at-packed bits (i / (8 / bits)) (i % (8 / bits)) array codes width h place.1 place.2 byte)
  where
    places : (bits i n m : ℕ) → IsWidth bits → bits * n ≡ 8 * m → i < n
        → (i / (8 / bits) < m) × (i % (8 / bits) < 8 / bits) × ((i / (8 / bits) + 1) * (8 / bits) ≤ n)
    places bits i n m (inl e) room lt =
        let room : 1 * n ≡ 8 * m = rw e at room in
        rw e (omega arith, omega arith, omega arith)
    places bits i n m (inr (inl e)) room lt =
        let room : 2 * n ≡ 8 * m = rw e at room in
        rw e (omega arith, omega arith, omega arith)
    places bits i n m (inr (inr e)) room lt =
        let room : 4 * n ≡ 8 * m = rw e at room in
        rw e (omega arith, omega arith, omega arith)
