-- The whole numbers that some texts say, one by one.
use Rattle.std.proofs.Common.{◌≡◌, ℕ, suc, ℤ, ◌+◌, ◌<◌, ◌≤◌, List, [], ◌∷◌, ◌++◌, length, map, drop, get_or, Option, Some, None, w64, FitsSigned, to_z, of_z, refl, ap, add-one, append_assoc}
use Rattle.std.specs.Prelude.{option_map}
use Rattle.std.proofs.Math.ListN.{drop_of_length-le}
use Rattle.std.proofs.Math.Seq.{drop-cons}
use Rattle.std.proofs.lemmas.Int.{to_z-of_z}
use Rattle.std.proofs.lemmas.List.{append-nil}
use Rattle.job_lines.specs.Values.{◌>>=◌, whole_of, wholes_of}

-- some numbers, and behind them those of the texts that are left
abbrev pub behind : {A : Type 0} → (A → List ℕ) → List ℤ → List A → Option (List ℤ)
behind f numbers left = option_map (λ more. numbers ++ more) (wholes_of (map f left))

module _ {A : Type 0} (f : A → List ℕ) (numbers : List ℤ) where
  pub behind-more : (texts : List A) (i : ℕ) (d : A) (n : ℤ) (next : List ℤ) → i < length texts → whole_of (f (get_or texts i d)) ≡ Some n → FitsSigned w64 n
      → next ≡ numbers ++ to_z w64 (of_z w64 n) ∷ [] → behind f next (drop (i + 1) texts) ≡ behind f numbers (drop i texts)
  behind-more texts i d n next less is fits more =
      let passed : to_z w64 (of_z w64 n) ≡ n = to_z-of_z w64 n fits in
      rw (more, passed, drop-cons texts i d less, is, add-one) (by (wholes_of (map f (drop (suc i) texts))))
    where
      by : (o : Option (List ℤ)) → option_map (λ more. (numbers ++ n ∷ []) ++ more) o ≡ option_map (λ more. numbers ++ more) (o >>= (λ more. Some (n ∷ more)))
      by None = refl
      by (Some more) = ap Some (simp append_assoc)

  pub behind-fails : (texts : List A) (i : ℕ) (d : A) → i < length texts → whole_of (f (get_or texts i d)) ≡ None → behind f numbers (drop i texts) ≡ None
  behind-fails texts i d less none = rw (drop-cons texts i d less, none) refl

  pub behind-none : (texts : List A) (i : ℕ) → length texts ≤ i → behind f numbers (drop i texts) ≡ Some numbers
  behind-none texts i past = rw (drop_of_length-le texts past) (ap Some (append-nil numbers))
