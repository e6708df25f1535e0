-- Whether one passes a test, so far as was looked.
use Rattle.std.proofs.Common.{◌≡◌, ℕ, ◌+◌, ◌<◌, Bool, true, false, List, drop, length, get_or, ap, sym, ◌∙◌, ◌||◌}
use Rattle.std.specs.List.{list_any}
use Rattle.std.proofs.lemmas.List.{at_drop_more}

module _ {X : Type 0} (p : X → Bool) (xs : List X) where
  pub any-found : (i : ℕ) (d : X) (r : Bool) → i < length xs → p (get_or xs i d) ≡ true → list_any p (drop i xs) ≡ r → true ≡ r
  any-found i d r less passes so_far =
      sym (ap (λ t. t || list_any p (drop (i + 1) xs)) passes) ∙ sym (at_drop_more (list_any p) xs i d less) ∙ so_far

  pub any-skip : (i : ℕ) (d : X) (r : Bool) → i < length xs → p (get_or xs i d) ≡ false → list_any p (drop i xs) ≡ r → list_any p (drop (i + 1) xs) ≡ r
  any-skip i d r less fails so_far =
      sym (ap (λ t. t || list_any p (drop (i + 1) xs)) fails) ∙ sym (at_drop_more (list_any p) xs i d less) ∙ so_far
