-- Numbers by the places of their bytes.
use Rattle.std.proofs.Common.{◌≡◌, ◌∙◌, ℕ, ◌+◌, ◌-◌, List, length, get_or, take, drop, ap, arith}
use Rattle.std.proofs.lemmas.List.{get_or-drop, take_rest}
use Rattle.byteorder.specs.Endian.{little_from}
use Rattle.journal_image.proofs.Numbers.{little_from-places}

-- the number at the front of what stands from a place on
pub little_from-drop : (n a : ℕ) (xs : List ℕ) → little_from 0 n (take (length xs - a) (drop a xs)) ≡ little_from a n xs
little_from-drop n a xs =
    ap (little_from 0 n) (take_rest xs a) ∙ little_from-places n 0 a (drop a xs) xs (λ k below. let at : 0 + k ≡ k = omega arith in ap (λ (m : ℕ). get_or (drop a xs) m 0) at ∙ get_or-drop a xs k 0)
