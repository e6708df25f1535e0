-- Pairs of names as the keys of a set.
use Rattle.std.proofs.Common.{◌≡◌, ◌≢◌, ℕ, Bool, true, false, ◌&&◌, ◌||◌, List, [], ◌∷◌, map, refl, ap, bytes_eq, Decides}
use Rattle.std.specs.Global.{Vec}
use Rattle.std.specs.List.{list_any, IsDistinct, AllByRecursion, AllPairs}
use Rattle.std.proofs.lemmas.Slice.Eq.{bytes_eq-Decides}
use Rattle.std.proofs.lemmas.Map.Made.{AllPairs-from_IsDistinct}
use Rattle.job_text.specs.Faults.{is_pair_among}

abbrev pub shown : List (Vec ℕ × Vec ℕ) → List (List ℕ × List ℕ)
shown = map (λ pair. (pair.0.items, pair.1.items))

abbrev pub key_eq : Vec ℕ × Vec ℕ → Vec ℕ × Vec ℕ → Bool
key_eq a b = bytes_eq a.0.items b.0.items && bytes_eq a.1.items b.1.items

abbrev pair_eq : List ℕ × List ℕ → List ℕ × List ℕ → Bool
pair_eq a b = bytes_eq a.0 b.0 && bytes_eq a.1 b.1

pub among-shown : (x y : Vec ℕ) (ks : List (Vec ℕ × Vec ℕ)) → list_any (key_eq (x, y)) ks ≡ is_pair_among x.items y.items (shown ks)
among-shown x y [] = refl
among-shown x y (k ∷ ks) = ap (λ b. (bytes_eq x.items k.0.items && bytes_eq y.items k.1.items) || b) (among-shown x y ks)

pair-Decides : (a b : List ℕ × List ℕ) → Decides (pair_eq a b) (a ≡ b)
pair-Decides a b = by (bytes_eq a.0 b.0) (bytes_eq a.1 b.1) (bytes_eq-Decides a.0 b.0) (bytes_eq-Decides a.1 b.1)
  where
    by : (c d : Bool) → Decides c (a.0 ≡ b.0) → Decides d (a.1 ≡ b.1) → Decides (c && d) (a ≡ b)
    by true true p q = (λ _. (λ i. (p.0 refl i, q.0 refl i)), λ _. refl)
    by false d p q = (λ e. absurd cc, λ same. p.1 (ap (λ x. x.0) same))
    by true false p q = (λ e. absurd cc, λ same. q.1 (ap (λ x. x.1) same))

behind : (k : Vec ℕ × Vec ℕ) (ks : List (Vec ℕ × Vec ℕ)) → AllByRecursion (λ l. key_eq k l ≡ false) ks → AllByRecursion (λ p. pair_eq (k.0.items, k.1.items) p ≡ false) (shown ks)
behind k [] h = h
behind k (l ∷ ks) h = (h.0, behind k ks h.1)

IsDistinct-shown : (ks : List (Vec ℕ × Vec ℕ)) → IsDistinct key_eq ks → IsDistinct pair_eq (shown ks)
unfolding IsDistinct
IsDistinct-shown [] h = h
IsDistinct-shown (k ∷ ks) h = (behind k ks h.0, IsDistinct-shown ks h.1)

pub pairs_differ : (ks : List (Vec ℕ × Vec ℕ)) → IsDistinct key_eq ks → AllPairs (λ x y. x ≢ y) (shown ks)
pairs_differ ks h = AllPairs-from_IsDistinct pair-Decides (shown ks) (IsDistinct-shown ks h)
