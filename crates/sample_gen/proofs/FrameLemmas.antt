-- The slots of frames, one after another.
use Rattle.std.proofs.Common.{◌≡◌, ◌≢◌, ◌+◌, ◌*◌, ◌%◌, ◌<◌, ◌≤◌, ℕ, true, false, List, [], ◌++◌, Option, ⊎_elim, refl, ap, ◌∙◌, subst, arith, add-one, replicate, zero-add}
use Rattle.std.specs.Prelude.{◌==◌}
use Rattle.std.specs.List.{flat_map, range_with_len}
use Rattle.std.proofs.lemmas.Bool.Decides.{eqb_tells}
use Rattle.sink_text.specs.Written.{StretchState, Puts}
use Rattle.sample_gen.specs.Frames.{slot, slots_by, frame_slots, first_word, recording_of}
use Rattle.sample_gen.proofs.WordLemmas.{flat_map-more}

pub slots_by-zero : (w station k : ℕ) (array : List ℕ) → w % 32 ≡ 0 → slots_by w station k array ≡ []
unfolding slots_by
slots_by-zero w station k array is = rw is refl

pub slots_by-one : (w station k : ℕ) (array : List ℕ) → w % 32 ≡ 1 → slots_by w station k array ≡ slot true station k array
unfolding slots_by
slots_by-one w station k array is = rw is refl

pub slots_by-two : (w station k : ℕ) (array : List ℕ) → w % 32 ≡ 2
    → slots_by w station k array ≡ slot false station k array ++ slot false station k (replicate 8000 0)
unfolding slots_by
slots_by-two w station k array is = rw is refl

differs : (r n : ℕ) → n < r → (r == n) ≡ false
differs r n more = ⊎_elim
    (λ (same : ((r == n) ≡ true) × (r ≡ n)). let no : ⊥ = omega (arith, more, same.1) in absurd no)
    (λ (other : ((r == n) ≡ false) × (r ≢ n)). other.0)
    (eqb_tells r n)

pub slots_by-more : (w station k : ℕ) (array : List ℕ) → 3 ≤ w % 32 → slots_by w station k array ≡ slot false station k array
unfolding slots_by
slots_by-more w station k array more =
    rw (differs (w % 32) 0 (omega (arith, more)), differs (w % 32) 1 (omega (arith, more)), differs (w % 32) 2 (omega (arith, more))) refl

-- the same text by another name
pub Puts-same : {a b : List ℕ} {s₀ s₁ : StretchState} {t₀ t₁ : Option (List ℕ)} {f₀ f₁ : ℕ} → a ≡ b
    → Puts a s₀ s₁ t₀ t₁ f₀ f₁ → Puts b s₀ s₁ t₀ t₁ f₀ f₁
Puts-same {s₀ = s₀} {s₁ = s₁} {t₀ = t₀} {t₁ = t₁} {f₀ = f₀} {f₁ = f₁} same puts =
    subst (λ (text : List ℕ). Puts text s₀ s₁ t₀ t₁ f₀ f₁) same puts

-- the slots of the first frames of a station
pub slots_before : ℕ → ℕ → ℕ → ℕ → List ℕ
slots_before seed seconds station n = flat_map (λ k. frame_slots seed (first_word seconds station k) station k) (range_with_len 0 n)

pub slots_before-none : (seed seconds station : ℕ) → slots_before seed seconds station 0 ≡ []
unfolding slots_before
slots_before-none seed seconds station = refl

pub slots_before-next : (seed seconds station k : ℕ)
    → slots_before seed seconds station (k + 1) ≡ slots_before seed seconds station k ++ frame_slots seed (first_word seconds station k) station k
unfolding slots_before
slots_before-next seed seconds station k =
    let f : ℕ → List ℕ = λ k. frame_slots seed (first_word seconds station k) station k in
    ap (λ m. flat_map f (range_with_len 0 m)) (add-one k) ∙ flat_map-more f 0 k
    ∙ ap (λ m. flat_map f (range_with_len 0 k) ++ f m) (zero-add k)

pub slots_before-all : (seed seconds station n : ℕ) → n ≡ 10 * seconds → slots_before seed seconds station n ≡ recording_of seed seconds station
unfolding slots_before recording_of
slots_before-all seed seconds station n all =
    ap (λ m. flat_map (λ k. frame_slots seed (first_word seconds station k) station k) (range_with_len 0 m)) all
