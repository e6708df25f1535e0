-- The first place of some scans.
use Rattle.std.specs.Prelude.{slice_get}
use Rattle.std.proofs.Common.{◌≡◌, ◌∙◌, sym, ap, refl, subst, ℕ, zero, suc, ◌+◌, ◌*◌, ◌<◌, ◌≤◌, List, [], ◌∷◌, drop, Option, Some, ltb, ⊎_elim, arith}
use Rattle.std.proofs.lemmas.Bool.{cases_lt, cond-true, cond-false, lt-ltb, le-ltb}
use Rattle.piece_plan.specs.declared.job.ScanSize.{ScanSize}
use Rattle.piece_plan.specs.Order.{Place, first_place}

pub slice_get-drop : {A : Type 0} (n : ℕ) (xs : List A) (k : ℕ) → slice_get (drop n xs) k ≡ slice_get xs (n + k)
slice_get-drop zero xs k =
    let here : k ≡ zero + k = omega arith in
    ap (slice_get xs) here
slice_get-drop (suc n) [] k =
    let here : suc n + k ≡ suc (n + k) = omega arith in
    refl
slice_get-drop (suc n) (x ∷ xs) k =
    let here : suc (n + k) ≡ suc n + k = omega arith in
    slice_get-drop n xs k ∙ ap (slice_get (x ∷ xs)) here

-- the first sample of a scan's first integration
abbrev pub begin_of : ℕ → ℕ → ScanSize → Place
begin_of integration number size = record { scan = number; m = size.first; from = size.first * integration }

-- the first of these scans with a sample is the k-th
pub record IsFirst (integration number : ℕ) (scans : List ScanSize) (p : Place) : Type 0 where
  pub k : ℕ
  pub size : ScanSize
  pub at : slice_get scans k ≡ Some size
  pub some : size.first * integration < size.samples
  pub scan : p.scan ≡ number + k
  pub m : p.m ≡ size.first
  pub from : p.from ≡ size.first * integration

pub first_place-is : (integration number : ℕ) (scans : List ScanSize) (p : Place) → first_place integration number scans ≡ Some p
    → IsFirst integration number scans p
first_place-is integration number [] p is = absurd (cc)
first_place-is integration number (size ∷ scans) p is =
    ⊎_elim
    (λ some.
    let here : first_place integration number (size ∷ scans) ≡ Some (begin_of integration number size) =
    cond-true (ltb (size.first * integration) size.samples) _ _ (lt-ltb _ _ some) in
    let both : ◌≡◌ {A = Option Place} (Some (begin_of integration number size)) (Some p) = sym here ∙ is in
    let same : begin_of integration number size ≡ p = cc in
    record {
      k = 0;
      size = size;
      at = refl;
      some = some;
      scan = omega (arith, ap (λ (q : Place). q.scan) same);
      m = ap (λ (q : Place). q.m) (sym same);
      from = ap (λ (q : Place). q.from) (sym same);
    })
    (λ none.
    let here : first_place integration number (size ∷ scans) ≡ first_place integration (number + 1) scans =
    cond-false (ltb (size.first * integration) size.samples) _ _ (le-ltb _ _ none) in
    let rest = first_place-is integration (number + 1) scans p (sym here ∙ is) in
    record {
      k = suc rest.k;
      size = rest.size;
      at = rest.at;
      some = rest.some;
      scan = omega (arith, rest.scan);
      m = rest.m;
      from = rest.from;
    })
    (cases_lt (size.first * integration) size.samples)

-- where a scan has a sample, the first place is in it or before it
pub record IsReached (integration number k : ℕ) (scans : List ScanSize) : Type 0 where
  pub j : ℕ
  pub size : ScanSize
  pub within : j ≤ k
  pub at : slice_get scans j ≡ Some size
  pub is : first_place integration number scans ≡ Some (begin_of integration (number + j) size)

reached-here : (integration number k : ℕ) (size : ScanSize) (scans : List ScanSize) → size.first * integration < size.samples
    → IsReached integration number k (size ∷ scans)
reached-here integration number k size scans some =
    let here : number ≡ number + 0 = omega arith in
    record {
      j = 0;
      size = size;
      within = omega arith;
      at = refl;
      is = cond-true (ltb (size.first * integration) size.samples) _ _ (lt-ltb _ _ some)
          ∙ ap (λ n. Some (begin_of integration n size)) here;
    }

pub first_place-reaches : (integration number : ℕ) (scans : List ScanSize) (k : ℕ) (size : ScanSize) → slice_get scans k ≡ Some size
    → size.first * integration < size.samples → IsReached integration number k scans
first_place-reaches integration number [] k size at some = absurd (cc)
first_place-reaches integration number (first ∷ scans) zero size at some =
    let same : size ≡ first = cc in
    reached-here integration number zero first scans (subst (λ (s : ScanSize). s.first * integration < s.samples) same some)
first_place-reaches integration number (first ∷ scans) (suc k) size at some =
    ⊎_elim
    (λ more. reached-here integration number (suc k) first scans more)
    (λ none.
    let rest = first_place-reaches integration (number + 1) scans k size at some in
    let here : number + 1 + rest.j ≡ number + suc rest.j = omega arith in
    record {
      j = suc rest.j;
      size = rest.size;
      within = omega (arith, rest.within);
      at = rest.at;
      is = cond-false (ltb (first.first * integration) first.samples) _ _ (le-ltb _ _ none) ∙ rest.is
          ∙ ap (λ n. Some (begin_of integration n rest.size)) here;
    })
    (cases_lt (first.first * integration) first.samples)
