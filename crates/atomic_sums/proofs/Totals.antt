-- What the laws of boards say of the totals of a closed one.
use Rattle.std.proofs.Common.{◌≡◌, ◌<◌, ◌≤◌, ◌*◌, ℕ, length, get_or, Result, Ok, Err, IfOk, All, ap, sym, ◌∙◌, subst, arith}
use Rattle.std.proofs.lemmas.List.Elements.{All-from_get_or}
use Rattle.piece_claim.specs.declared.sizes.Sizes.{Sizes}
use Rattle.piece_claim.specs.State.{Seat, sums}
use Rattle.piece_claim.specs.Invariant.{IsSizes}
use Rattle.piece_claim.specs.Laws.{WordsAreBounded}
use Rattle.atomic_sums.specs.Seats.{LastState}
use Rattle.atomic_sums.specs.Sums.{Totals}

-- they are as many as the board has sums, and none passes what the pieces of a group can add up to
pub totals_within : {E : Type 0} (k : Sizes) (v : Seat) (r : Result Totals E) (n most : ℕ) → WordsAreBounded → IsSizes k → sums k ≡ n → k.per_group * k.bound ≤ most → LastState k v (λ words. IfOk r (λ t. t.totals ≡ words)) → IfOk r (λ t. (length t.totals ≡ n) × All (λ x. x ≤ most) t.totals)
totals_within k v (Err e) n most bounded sizes count within last = tt
totals_within k v (Ok t) n most bounded sizes count within last =
    let b = last.0 in
    let words : length b.words ≡ sums k = last.2.words.count ∙ ap sums last.1 in
    let all : length t.totals ≡ n = ap length last.4 ∙ words ∙ count in (
      all,
      All-from_get_or (λ x. x ≤ most) t.totals 0 (λ i lt.
          let inside : i < sums k = omega arith in
          let bound : get_or b.words i 0 ≤ k.per_group * k.bound = subst (λ (q : Sizes). get_or b.words i 0 ≤ q.per_group * q.bound) last.1
          (bounded b i (subst IsSizes (sym last.1) sizes) last.2 (subst (λ (q : Sizes). i < sums q) (sym last.1) inside)) in
          let same : get_or t.totals i 0 ≡ get_or b.words i 0 = ap (λ ws. get_or ws i 0) last.4 in
          omega arith),
    )
