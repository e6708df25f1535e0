-- The ranges of a header's fields.
use Rattle.std.proofs.Common.{◌≡◌, ℕ, ◌/◌, ◌^◌, ◌≤◌, Bool, true, false, List, length, take, drop, replicate, if◌then◌else◌, arith, refl, length-drop, length-take}
use Rattle.std.proofs.lemmas.Nat.{mod_below, pow_pos}
use Rattle.vdif_frame.specs.Header.{AreInRange, HasHeader, fields_of, word, legacy_bit}

-- there are 16 bytes of extended words
length-extended : (legacy : Bool) (bytes : List ℕ) → (legacy ≡ false → 32 ≤ length bytes)
    → length (if legacy then replicate 16 0 else take 16 (drop 16 bytes)) ≡ 16
length-extended true bytes h = refl
length-extended false bytes h =
    let enough : 32 ≤ length bytes = h refl in
    omega (arith, length-take 16 (drop 16 bytes), length-drop 16 bytes, enough)

-- a legacy header's are zero
extended_zero : (legacy : Bool) (bytes : List ℕ) → legacy ≡ true
    → (if legacy then replicate 16 0 else take 16 (drop 16 bytes)) ≡ replicate 16 0
extended_zero true bytes h = refl
extended_zero false bytes h = cc

-- the fields of a header lie in their ranges
pub AreInRange-fields_of : (bytes : List ℕ) → HasHeader bytes → AreInRange (fields_of bytes)
unfolding fields_of
AreInRange-fields_of bytes h = record {
  seconds = mod_below (word bytes 0 / 2 ^ 0) (2 ^ 30) (pow_pos 30);
  spare = mod_below (word bytes 1 / 2 ^ 30) (2 ^ 2) (pow_pos 2);
  epoch = mod_below (word bytes 1 / 2 ^ 24) (2 ^ 6) (pow_pos 6);
  frame = mod_below (word bytes 1 / 2 ^ 0) (2 ^ 24) (pow_pos 24);
  version = mod_below (word bytes 2 / 2 ^ 29) (2 ^ 3) (pow_pos 3);
  chans_log2 = mod_below (word bytes 2 / 2 ^ 24) (2 ^ 5) (pow_pos 5);
  units = mod_below (word bytes 2 / 2 ^ 0) (2 ^ 24) (pow_pos 24);
  some_bits = omega arith;
  bits = omega (arith, mod_below (word bytes 3 / 2 ^ 26) (2 ^ 5) (pow_pos 5));
  thread = mod_below (word bytes 3 / 2 ^ 16) (2 ^ 10) (pow_pos 10);
  station = mod_below (word bytes 3 / 2 ^ 0) (2 ^ 16) (pow_pos 16);
  extended = length-extended (legacy_bit bytes) bytes h.eight_words;
  legacy_zero = extended_zero (legacy_bit bytes) bytes;
}
