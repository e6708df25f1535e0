-- Planes of the codes of streams.
use Rattle.std.specs.Prelude.{int_le, int_lt, ◌&&◌, ◌⊎◌, if◌then◌else◌}
use Rattle.std.proofs.Common.{◌≡◌, ◌∙◌, ℕ, ◌≤◌, Bool, true, false, ℤ, pos, negsuc, ◌+ℤ◌, ◌-ℤ◌, ◌≤ℤ◌, ◌<ℤ◌, unsigned_abs, List, [], length, map, get_or, None, inl, inr, refl, sym, ap, ap₂, arith}
use Rattle.std.proofs.lemmas.Int.{ints}
use Rattle.std.proofs.lemmas.List.{get_or_past, length-map}
use Rattle.corr_model.specs.Cell.{Value}
use Rattle.value_codes.specs.Codes.{value_of}
use Rattle.packed_values.specs.From.{value_from}
use Rattle.station_stream.specs.Stream.{StreamFields, stream_value, windowed}
use Rattle.epoch_run.proofs.PlaneValues.{windowed-before, windowed-past}

windowed-inside : (s : StreamFields) (chan : ℕ) (n : ℤ) → int_le s.from n ≡ true → int_lt n s.to ≡ true → windowed s chan n ≡ stream_value s chan n
windowed-inside s chan n e f = ap₂ (λ (a b : Bool). if a && b then stream_value s chan n else None) e f

value_from-before : (values : List Value) (m : ℤ) → m <ℤ pos 0 → value_from values m ≡ None
value_from-before values (pos k) h = absurd (omega (arith, ints, h))
value_from-before values (negsuc k) h = refl

-- the values of a channel's codes, from the window's first sample on: no codes, or one for each sample of the window
pub windowed-codes : (s : StreamFields) (chan : ℕ) (codes : List ℕ) → get_or s.values chan [] ≡ map value_of codes
    → (length codes ≡ 0) ⊎ ((s.from +ℤ pos (length codes)) ≡ s.to)
    → (n : ℤ) → value_from (map value_of codes) (n -ℤ s.from) ≡ windowed s chan n
windowed-codes s chan codes is each n = by (int_le s.from n) (int_lt n s.to) refl refl
  where
    k : ℕ
    k = unsigned_abs (n -ℤ s.from)

    from-first : s.from ≤ℤ n → value_from (map value_of codes) (n -ℤ s.from) ≡ get_or (map value_of codes) k None
    from-first begun =
        let place : n -ℤ s.from ≡ pos k = omega (arith, ints, begun) in
        ap (value_from (map value_of codes)) place

    past : s.from ≤ℤ n → s.to ≤ℤ n → length codes ≤ k
    past begun behind =
        elim each [
          | inl q ↦ omega (arith, q)
          | inr q ↦ omega (arith, ints, q, begun, behind)
        ]

    by : (begun before : Bool) → int_le s.from n ≡ begun → int_lt n s.to ≡ before → value_from (map value_of codes) (n -ℤ s.from) ≡ windowed s chan n
    by true true e f =
        let begun : s.from ≤ℤ n = grind (arith, ints) in
        from-first begun ∙ sym (ap (λ (values : List Value). get_or values k None) is) ∙ sym (windowed-inside s chan n e f)
    by true false e f =
        let begun : s.from ≤ℤ n = grind (arith, ints) in
        let behind : s.to ≤ℤ n = grind (arith, ints) in
        from-first begun
        ∙ get_or_past (map value_of codes) k None (omega (arith, past begun behind, length-map codes value_of))
        ∙ sym (windowed-past s chan n f)
    by false before e f =
        let early : n <ℤ s.from = grind (arith, ints) in
        value_from-before (map value_of codes) (n -ℤ s.from) (omega (arith, ints, early)) ∙ sym (windowed-before s chan n e)
