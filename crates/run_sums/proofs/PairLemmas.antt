-- One more element of a list that is made of another behind a first part.
use Rattle.std.proofs.Common.{◌≡◌, ℕ, ◌+◌, ◌<◌, List, [], ◌∷◌, ◌++◌, length, map, take, get_or, append_assoc, sym, ap, ◌∙◌}
use Rattle.std.proofs.lemmas.List.{map_more}

pub map-next : {X Y : Type 0} (f : X → Y) (first ys new : List Y) (xs : List X) (i : ℕ) (d : X) → i < length xs
    → ys ≡ first ++ map f (take i xs) → new ≡ ys ++ f (get_or xs i d) ∷ [] → new ≡ first ++ map f (take (i + 1) xs)
map-next f first ys new xs i d less so_far pushed =
    pushed ∙ ap (λ zs. zs ++ f (get_or xs i d) ∷ []) so_far ∙ append_assoc first (map f (take i xs)) (f (get_or xs i d) ∷ [])
    ∙ ap (λ zs. first ++ zs) (sym (map_more f xs i d less))
