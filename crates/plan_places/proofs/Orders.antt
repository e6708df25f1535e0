-- The order of places.
use Rattle.std.proofs.Common.{◌≡◌, ◌≤◌, ◌⊎◌, inl, inr, ⊎_elim, arith}
use Rattle.std.proofs.lemmas.Bool.{cases_lt}
use Rattle.piece_plan.specs.Order.{Place}
use Rattle.plan_places.specs.Places.{IsUpTo, IsBefore}

pub up_to-refl : (p : Place) → IsUpTo p p
up_to-refl p = record { scan = omega arith; m = λ s. omega arith; from = λ s t. omega arith }

-- of three places in order: where the first and the last have one scan and integration, so has the one between them
record AreThree (p q r : Place) : Type 0 where
  scan : p.scan ≤ r.scan
  m : p.scan ≡ r.scan → p.m ≤ r.m
  same : p.scan ≡ r.scan → p.m ≡ r.m → (p.scan ≡ q.scan) × (p.m ≡ q.m) × (q.scan ≡ r.scan) × (q.m ≡ r.m)

three : (p q r : Place) → IsUpTo p q → IsUpTo q r → AreThree p q r
three p q r h k = record {
  scan = omega (arith, h.scan, k.scan);
  m = λ s. omega (arith, h.m (first s), k.m (second s));
  same = λ s t.
      let m : p.m ≡ q.m = omega (arith, h.m (first s), k.m (second s), t) in
      (first s, m, second s, omega (arith, m, t));
}
  where
    first : p.scan ≡ r.scan → p.scan ≡ q.scan
    first s = omega (arith, h.scan, k.scan, s)

    second : p.scan ≡ r.scan → q.scan ≡ r.scan
    second s = omega (arith, h.scan, k.scan, s)

pub up_to-trans : (p q r : Place) → IsUpTo p q → IsUpTo q r → IsUpTo p r
up_to-trans p q r h k =
    let all = three p q r h k in
    record { scan = all.scan; m = all.m; from = λ s t. let e = all.same s t in omega (arith, h.from e.0 e.1, k.from e.2 e.3) }

pub before-up_to : (p q : Place) → IsBefore p q → IsUpTo p q
before-up_to p q h = record {
  scan = h.scan;
  m = h.m;
  from = λ s t. omega (arith, h.from s t);
}

-- of two places one is not before the other
pub not-before : (p q : Place) → IsUpTo p q → IsBefore q p → ⊥
not-before p q h k =
    let one : p.scan ≡ q.scan = omega (arith, h.scan, k.scan) in
    let two : q.scan ≡ p.scan = omega (arith, one) in
    let three : p.m ≡ q.m = omega (arith, h.m one, k.m two) in
    let four : q.m ≡ p.m = omega (arith, three) in
    omega (arith, h.from one three, k.from two four)

pub place-eq : (p q : Place) → p.scan ≡ q.scan → p.m ≡ q.m → p.from ≡ q.from → p ≡ q
place-eq p q a b c = λ i. record { scan = a i; m = b i; from = c i }

same_m : (p q : Place) → p.scan ≡ q.scan → p.m ≡ q.m → IsUpTo p q ⊎ IsBefore q p
same_m p q scan m =
    ⊎_elim
    (λ less. inr (record { scan = omega (arith, scan); m = λ s. omega (arith, m); from = λ s t. less }))
    (λ ge. inl (record { scan = omega (arith, scan); m = λ s. omega (arith, m); from = λ s t. ge }))
    (cases_lt q.from p.from)

same_scan : (p q : Place) → p.scan ≡ q.scan → IsUpTo p q ⊎ IsBefore q p
same_scan p q scan =
    ⊎_elim
    (λ less. inl (record { scan = omega (arith, scan); m = λ s. omega (arith, less); from = λ s t. absurd (omega (arith, less, t)) }))
    (λ ge.
    ⊎_elim
    (λ less. inr (record { scan = omega (arith, scan); m = λ s. ge; from = λ s t. absurd (omega (arith, less, t)) }))
    (λ le. same_m p q scan (omega (arith, ge, le)))
    (cases_lt q.m p.m))
    (cases_lt p.m q.m)

pub up_to-or-before : (p q : Place) → IsUpTo p q ⊎ IsBefore q p
up_to-or-before p q =
    ⊎_elim
    (λ less. inl (record { scan = omega (arith, less); m = λ s. absurd (omega (arith, less, s)); from = λ s t. absurd (omega (arith, less, s)) }))
    (λ ge.
    ⊎_elim
    (λ less. inr (record { scan = ge; m = λ s. absurd (omega (arith, less, s)); from = λ s t. absurd (omega (arith, less, s)) }))
    (λ le. same_scan p q (omega (arith, ge, le)))
    (cases_lt q.scan p.scan))
    (cases_lt p.scan q.scan)

pub up_to-before : (p q r : Place) → IsUpTo p q → IsBefore q r → IsBefore p r
up_to-before p q r h k =
    let all = three p q r h (before-up_to q r k) in
    record { scan = all.scan; m = all.m; from = λ s t. let e = all.same s t in omega (arith, h.from e.0 e.1, k.from e.2 e.3) }

pub before-up_to-trans : (p q r : Place) → IsBefore p q → IsUpTo q r → IsBefore p r
before-up_to-trans p q r h k =
    let all = three p q r (before-up_to p q h) k in
    record { scan = all.scan; m = all.m; from = λ s t. let e = all.same s t in omega (arith, h.from e.0 e.1, k.from e.2 e.3) }
