-- Numbers in text.
use Rattle.std.proofs.Common.{◌≡◌, ℕ, ◌-◌, ◌≤◌, min, List, [], ◌∷◌, ◌++◌, length, take, replicate, arith, ap, ◌∙◌}
use Rattle.std.proofs.lemmas.List.{take_min, take-replicate}
use Rattle.num_time.specs.Numerals.{moved_digits}

-- the digits that are read, and the zeros behind them
pub moved_digits-parts : (front back : List ℕ) (places kept : ℕ) → kept ≡ min (length back) places → places ≤ 6
    → front ++ (take kept back ++ take (places - kept) (48 ∷ 48 ∷ 48 ∷ 48 ∷ 48 ∷ 48 ∷ [])) ≡ moved_digits front back places
unfolding moved_digits
moved_digits-parts front back places kept e few =
    let turned : kept ≡ min places (length back) = omega (arith, e) in
    let same : take kept back ≡ take places back = ap (λ n. take n back) turned ∙ take_min places back in
    let less : places - kept ≡ places - length back = omega (arith, e) in
    let zeros : take (places - kept) (replicate {A = ℕ} 6 48) ≡ replicate (places - length back) 48 =
    take-replicate (places - kept) 6 48 (omega arith) ∙ ap (λ n. replicate {A = ℕ} n 48) less in
    ap (λ xs. front ++ (xs ++ take (places - kept) (replicate {A = ℕ} 6 48))) same
    ∙ ap (λ xs. front ++ (take places back ++ xs)) zeros
