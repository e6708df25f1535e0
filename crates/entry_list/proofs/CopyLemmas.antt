-- A list that is copied entry by entry.
use Rattle.std.specs.Prelude.{if◌then◌else◌}
use Rattle.std.proofs.Common.{◌≡◌, ◌≢◌, ℕ, ◌+◌, ◌<◌, List, [], ◌∷◌, ◌++◌, length, take, get_or, ℤ, Bool, true, false, IsTrue, ◌↔◌, sym, ap, ◌∙◌, arith}
use native.Mathlib.Numerals.{unary_clauses}
use Rattle.std.specs.List.{All}
use Rattle.std.proofs.lemmas.List.{get_or-take, get_or_default, length-take-le}
use Rattle.std.proofs.lemmas.Bool.{false≢true}
use Rattle.std.proofs.Math.Seq.{take-suc}
use Rattle.entry_list.specs.Latest.{DifferInSecond}

-- an entry differs from those before it
pub differ-take : {E : Type 0} (second_of : E → ℤ) (xs : List E) (i : ℕ) (e : E) → DifferInSecond second_of xs
    → i < length xs → get_or xs i e ≡ e → All (λ x. second_of x ≢ second_of e) (take i xs)
differ-take second_of xs i e differ inside is k d h same =
    let long : length (take i xs) ≡ i = length-take-le i xs (omega (arith, inside)) in
    let before : k < i = omega (arith, h, long) in
    let at : get_or (take i xs) k d ≡ get_or xs k e = get_or-take i xs k d before ∙ get_or_default xs k d e (omega (arith, before, inside)) in
    differ k i e before inside (ap second_of (sym at) ∙ same ∙ ap second_of (sym is))

next : {E : Type 0} (xs : List E) (i : ℕ) (e : E) → i < length xs → take (i + 1) xs ≡ take i xs ++ get_or xs i e ∷ []
next xs i e inside = simp unary_clauses (take-suc xs i e inside)

-- so the copy has it behind them
pub copied-next : {E : Type 0} (second_of : E → ℤ) (xs new : List E) (i : ℕ) (e : E) (added : Bool) → DifferInSecond second_of xs
    → i < length xs → get_or xs i e ≡ e
    → (IsTrue added ↔ All (λ x. second_of x ≢ second_of e) (take i xs))
    → new ≡ (if added then take i xs ++ e ∷ [] else take i xs)
    → new ≡ take (i + 1) xs
copied-next second_of xs new i e true differ inside is answer after =
    after ∙ ap (λ x. take i xs ++ x ∷ []) (sym is) ∙ sym (next xs i e inside)
copied-next second_of xs new i e false differ inside is answer after =
    absurd (false≢true (answer.1 (differ-take second_of xs i e differ inside is)))
