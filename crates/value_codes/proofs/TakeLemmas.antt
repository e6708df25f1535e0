-- Where the levels of a channel lie, and their bytes.
use Rattle.std.proofs.Common.{◌≡◌, ℕ, ◌+◌, ◌-◌, ◌*◌, ◌/◌, ◌%◌, ◌^◌, ◌<◌, pos, ◌-ℤ◌, eqb, ltb, true, inl, inr, List, Some, refl, sym, ap, ◌∙◌, arith}
use Rattle.std.proofs.lemmas.Bool.{agree_below_at, eqb-true, ltb-true}
use Rattle.std.proofs.lemmas.Int.{ints}
use Rattle.std.proofs.lemmas.Nat.{mod_below}
use Rattle.sample_unpack.specs.Level.{IsWidth, level_of, code_at, bit_of}
use Rattle.value_codes.specs.Codes.{code_of_half, half_level}
use Rattle.value_codes.specs.Taken.{IsTaken, half_of, taken_of}

-- the place of a level by the byte and the bit of the first
pub place-of : (first chans chan bits i : ℕ)
    → 8 * ((first * chans + chan) * bits / 8) + (first * chans + chan) * bits % 8 + i * (chans * bits) ≡ bit_of bits chans chan (first + i)
place-of first chans chan bits i =
    let at = (first * chans + chan) * bits in
    let whole : 8 * (at / 8) + at % 8 ≡ at = omega arith in
    ap (λ n. n + i * (chans * bits)) whole ∙ grind arith

-- the half byte of a code has this code
half-small : (code : ℕ) → code < 16 → half_of code < 16
half-small code h = ltb-true _ 16 (agree_below_at (λ c. ltb (half_of c) 16) (λ _. true) 16 code refl h)

half-code : (code : ℕ) → code < 16 → code_of_half (half_of code) ≡ code
half-code code h = eqb-true _ _ (agree_below_at (λ c. eqb (code_of_half (half_of c)) c) (λ _. true) 16 code refl h)

some_codes : (bits : ℕ) → IsWidth bits → 0 < 2 ^ bits
some_codes bits (inl e) = rw e (omega arith)
some_codes bits (inr (inl e)) = rw e (omega arith)
some_codes bits (inr (inr e)) = rw e (omega arith)

-- the code among the sixteen of a code of so many bits
small : (bits y : ℕ) → IsWidth bits → y < 2 ^ bits → y + 8 - 2 ^ (bits - 1) < 16
small bits y (inl e) = rw e (λ h. omega (arith, h))
small bits y (inr (inl e)) = rw e (λ h. omega (arith, h))
small bits y (inr (inr e)) = rw e (λ h. omega (arith, h))

same-difference : (a b c d : ℕ) → a + d ≡ c + b → pos a -ℤ pos b ≡ pos c -ℤ pos d
same-difference a b c d h = omega (arith, ints, h)

same-level : (bits y : ℕ) → IsWidth bits → level_of bits y ≡ level_of 4 (y + 8 - 2 ^ (bits - 1))
same-level bits y (inl e) = rw e (same-difference (2 * y) 1 (2 * (y + 8 - 1)) 15 (omega arith))
same-level bits y (inr (inl e)) = rw e (same-difference (2 * y) 3 (2 * (y + 8 - 2)) 15 (omega arith))
same-level bits y (inr (inr e)) = rw e (same-difference (2 * y) 15 (2 * (y + 8 - 8)) 15 (omega arith))

level-taken : (bits y : ℕ) → IsWidth bits → y < 2 ^ bits → level_of bits y ≡ half_level (half_of (y + 8 - 2 ^ (bits - 1)))
level-taken bits y width h = same-level bits y width ∙ ap (level_of 4) (sym (half-code _ (small bits y width h)))

-- the byte of the level at a place
pub IsTaken-at : (array : List ℕ) (bits at place code : ℕ) → IsWidth bits → place ≡ at
    → code ≡ taken_of bits (code_at array bits place) → IsTaken code (Some (level_of bits (code_at array bits at)))
IsTaken-at array bits at place code width same is =
    let y = code_at array bits at in
    let below : y < 2 ^ bits = mod_below _ (2 ^ bits) (some_codes bits width) in
    (half_of (y + 8 - 2 ^ (bits - 1)), (half-small _ (small bits y width below), (is ∙ ap (λ n. taken_of bits (code_at array bits n)) same, level-taken bits y width below)))
