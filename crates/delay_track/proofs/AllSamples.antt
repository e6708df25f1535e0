-- A test of each sample of a scan.
use Rattle.std.proofs.Common.{◌≡◌, ℕ, ◌+◌, ◌<◌, Bool, true, false, ◌∙◌, arith}
use Rattle.std.specs.List.{list_all, range_with_len}
use Rattle.std.proofs.lemmas.List.Sums.{AllPass-from_list_all, list_all-from_AllPass}
use Rattle.std.proofs.lemmas.List.Folds.{list_all_at}
use Rattle.std.proofs.lemmas.List.FromFn.{length-range_with_len, get_or-range_with_len}

-- each passes
pub all_from_each : (p : ℕ → Bool) (samples : ℕ) → ((n : ℕ) → n < samples → p n ≡ true) → list_all p (range_with_len 0 samples) ≡ true
all_from_each p samples each =
    list_all-from_AllPass p (range_with_len 0 samples)
    (λ k d h.
    let inside : k < samples = omega (arith, length-range_with_len 0 samples) in
    rw (get_or-range_with_len 0 samples k d inside) (each (0 + k) (omega arith)))

-- where all pass, each does
pub each_from_all : (p : ℕ → Bool) (samples n : ℕ) → list_all p (range_with_len 0 samples) ≡ true → n < samples → p n ≡ true
each_from_all p samples n all inside =
    let here = AllPass-from_list_all p (range_with_len 0 samples) all n 0 (omega (arith, length-range_with_len 0 samples)) in
    let same : 0 + n ≡ n = omega arith in
    rw (get_or-range_with_len 0 samples n 0 inside ∙ same) at here

-- where one fails, all do not pass
pub fails_from_one : (p : ℕ → Bool) (samples n : ℕ) → n < samples → p n ≡ false → list_all p (range_with_len 0 samples) ≡ false
fails_from_one p samples n inside fails =
    let same : 0 + n ≡ n = omega arith in
    list_all_at p (range_with_len 0 samples) n 0 (omega (arith, length-range_with_len 0 samples))
    (rw (get_or-range_with_len 0 samples n 0 inside ∙ same) fails)
