-- A piece more that is finished is one less to come.
use Rattle.std.proofs.Common.{◌≡◌, ◌≢◌, ℕ, zero, suc, ◌≤◌, ◌<◌, List, [], ◌∷◌, ◌++◌, ⊎_elim, refl, ap, subst, arith}
use Rattle.std.proofs.lemmas.Bool.{cases_eq}
use Rattle.std.proofs.lemmas.List.Sums.{sum_by_push}
use Rattle.piece_claim.specs.State.{Piece, piece, sum_below, has_number}
use Rattle.piece_claim.proofs.Numbers.{sum_below-le, one, one-le, one-same, one-other}
use Rattle.atomic_sums.specs.Views.{times_in}
use Rattle.epoch_run.specs.Left.{missing, left}

-- a sum with one term that is less
less_below : (f g : ℕ → ℕ) → ((x : ℕ) → f x ≤ g x) → (n m : ℕ) → n < m → f n < g n → sum_below f m < sum_below g m
less_below f g le n zero lt less = absurd (omega arith)
less_below f g le n (suc m) lt less = ⊎_elim
    (λ (e : n ≡ m). omega (arith, sum_below-le f g m le, subst (λ (q : ℕ). f q < g q) e less))
    (λ (differ : n ≢ m). let inside : n < m = omega (arith, lt, differ) in omega (arith, le m, less_below f g le n m inside less))
    (cases_eq n m)

-- 1 where there is none
abbrev none_yet : ℕ → ℕ
none_yet m = one m 0

none_yet-le : (m k : ℕ) → m ≤ k → none_yet k ≤ none_yet m
none_yet-le m k le = ⊎_elim
    (λ (e : m ≡ 0). omega (arith, one-same m 0 e, one-le k 0))
    (λ (differ : m ≢ 0). omega (arith, one-other k 0 (λ e. differ (omega (arith, e, le)))))
    (cases_eq m 0)

pub fewer : (ps : List Piece) (n m : ℕ) (amounts : List ℕ) → n < m → times_in n ps ≡ 0
    → left (ps ++ piece n amounts ∷ []) m < left ps m
fewer ps n m amounts lt fresh =
    let qs = ps ++ piece n amounts ∷ [] in
    let more : (x : ℕ) → times_in x ps ≤ times_in x qs = λ x. omega (arith, sum_by_push (has_number x) ps (piece n amounts)) in
    let there : times_in n qs ≡ 1 = omega (arith, sum_by_push (has_number n) ps (piece n amounts), fresh, one-same n n refl) in
    let after : missing qs n ≡ 0 = ap none_yet there in
    let before : missing ps n ≡ 1 = ap none_yet fresh in
    less_below (missing qs) (missing ps) (λ x. none_yet-le (times_in x ps) (times_in x qs) (more x)) n m lt
    (omega (arith, after, before))
