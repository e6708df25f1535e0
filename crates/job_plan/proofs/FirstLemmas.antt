-- The first place that passes a test.
use Rattle.std.proofs.Common.{◌≡◌, ℕ, ◌+◌, ◌<◌, ◌≤◌, Bool, true, false, cond, List, drop, length, get_or, None, Some, Option, sym, ◌∙◌}
use Rattle.std.specs.List.{position, position_from}
use Rattle.std.proofs.lemmas.List.{at_drop_more, at_drop_all}
use Rattle.std.proofs.lemmas.Iterator.Adapters.{position_from-zero}

module _ {X : Type 0} (p : X → Bool) (xs : List X) where
  pub first-start : position_from p 0 (drop 0 xs) ≡ position p xs
  first-start = sym (position_from-zero p xs)

  turned : (i : ℕ) (d : X) → i < length xs → position_from p i (drop i xs) ≡ cond (p (get_or xs i d)) (Some i) (position_from p (i + 1) (drop (i + 1) xs))
  turned i d less = at_drop_more (position_from p i) xs i d less

  pub first-skip : (r : Option ℕ) (i : ℕ) (d : X) → i < length xs → p (get_or xs i d) ≡ false → position_from p i (drop i xs) ≡ r → position_from p (i + 1) (drop (i + 1) xs) ≡ r
  first-skip r i d less fails so_far =
      sym (λ k. cond (fails k) (Some i) (position_from p (i + 1) (drop (i + 1) xs))) ∙ sym (turned i d less) ∙ so_far

  pub first-found : (r : Option ℕ) (i : ℕ) (d : X) → i < length xs → p (get_or xs i d) ≡ true → position_from p i (drop i xs) ≡ r → Some i ≡ r
  first-found r i d less passes so_far =
      sym (λ k. cond (passes k) (Some i) (position_from p (i + 1) (drop (i + 1) xs))) ∙ sym (turned i d less) ∙ so_far

  pub first-none : (r : Option ℕ) (i : ℕ) → length xs ≤ i → position_from p i (drop i xs) ≡ r → None ≡ r
  first-none r i past so_far = sym (at_drop_all (position_from p i) xs i past) ∙ so_far
