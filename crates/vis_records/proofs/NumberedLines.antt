-- The lines of some things, thing by thing.
use Rattle.std.proofs.Common.{◌≡◌, ◌<◌, ◌≤◌, ℕ, ◌+◌, List, ◌++◌, Option, length, map, take, get_or, ap, sym, refl, ◌∙◌, arith}
use Rattle.std.proofs.Math.Nat.{zero-add}
use Rattle.std.specs.List.{flat_map, enumerate_from}
use Rattle.std.proofs.lemmas.List.{length-map, get_or-map}
use Rattle.std.proofs.lemmas.List.FromFn.{length-enumerate_from, get_or-enumerate_from}
use Rattle.sink_text.specs.Written.{StretchState, Puts}
use Rattle.sink_text.proofs.WrittenText.{flat_map-next, Puts-all, Puts-then}
use Rattle.vis_records.specs.Dumped.{numbered}

-- the lines of the first things
abbrev pub numbered_first : {A : Type 0} → (ℕ → A → List ℕ) → List A → ℕ → List ℕ
numbered_first {A} lines things i = flat_map (λ (t : ℕ × A). lines t.0 t.1) (take i (enumerate_from 0 things))

-- the lines of one thing more
pub numbered_first-next : {A : Type 0} (lines : ℕ → A → List ℕ) (things : List A) (i : ℕ) (d x : A) → i < length things
    → get_or things i d ≡ x
    → numbered_first lines things (i + 1) ≡ numbered_first lines things i ++ lines i x
numbered_first-next {A} lines things i d x within is =
    let inside : i < length (enumerate_from 0 things) = omega (arith, length-enumerate_from 0 things, within) in
    let at : get_or (enumerate_from 0 things) i (i, d) ≡ (i, x) =
    get_or-enumerate_from 0 things i (i, d) within ∙ rw (is, zero-add) refl in
    flat_map-next (λ (t : ℕ × A). lines t.0 t.1) (enumerate_from 0 things) i (i, d) inside
    ∙ ap (λ (t : ℕ × A). numbered_first lines things i ++ lines t.0 t.1) at

-- the same for things that are made of others
pub numbered_first-made : {X A : Type 0} (f : X → A) (lines : ℕ → A → List ℕ) (xs : List X) (i : ℕ) (d x : X) → i < length xs
    → get_or xs i d ≡ x
    → numbered_first lines (map f xs) (i + 1) ≡ numbered_first lines (map f xs) i ++ lines i (f x)
numbered_first-made f lines xs i d x within is =
    numbered_first-next lines (map f xs) i (f d) (f x) (omega (arith, length-map xs f, within))
    (get_or-map f xs i d (f d) within ∙ ap f is)

pub Puts-made-next : {X A : Type 0} {s₀ s₁ s₂ : StretchState} {t₀ t₁ t₂ : Option (List ℕ)} {f₀ f₁ f₂ : ℕ} (f : X → A)
    (lines : ℕ → A → List ℕ) (xs : List X) (i : ℕ) (x : X) → i < length xs
    → x ≡ get_or xs i x
    → Puts (numbered_first lines (map f xs) i) s₀ s₁ t₀ t₁ f₀ f₁
    → Puts (lines i (f x)) s₁ s₂ t₁ t₂ f₁ f₂
    → Puts (numbered_first lines (map f xs) (i + 1)) s₀ s₂ t₀ t₂ f₀ f₂
Puts-made-next f lines xs i x within is first next = Puts-then (numbered_first-made f lines xs i x x within (sym is)) first next

-- the lines of all things
pub Puts-numbered : {A : Type 0} {s₀ s₁ : StretchState} {t₀ t₁ : Option (List ℕ)} {f₀ f₁ : ℕ} (lines : ℕ → A → List ℕ)
    (things : List A) (i : ℕ) → length things ≤ i
    → Puts (numbered_first lines things i) s₀ s₁ t₀ t₁ f₀ f₁
    → Puts (numbered lines things) s₀ s₁ t₀ t₁ f₀ f₁
Puts-numbered {A} lines things i past puts =
    Puts-all (λ (t : ℕ × A). lines t.0 t.1) (enumerate_from 0 things) i (omega (arith, length-enumerate_from 0 things, past)) puts

pub Puts-made : {X A : Type 0} {s₀ s₁ : StretchState} {t₀ t₁ : Option (List ℕ)} {f₀ f₁ : ℕ} (f : X → A) (lines : ℕ → A → List ℕ)
    (xs : List X) (i : ℕ) → length xs ≤ i
    → Puts (numbered_first lines (map f xs) i) s₀ s₁ t₀ t₁ f₀ f₁
    → Puts (numbered lines (map f xs)) s₀ s₁ t₀ t₁ f₀ f₁
Puts-made f lines xs i past puts = Puts-numbered lines (map f xs) i (omega (arith, length-map xs f, past)) puts

-- what a loop over numbered things puts
pub ruleset numbered_each = (Puts-made-next, Puts-made)
