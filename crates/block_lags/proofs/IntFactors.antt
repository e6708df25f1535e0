-- Products of signed numbers, their factors in another order.
use Rattle.std.proofs.Common.{◌≡◌, ℕ, ◌+◌, ◌*◌, ℤ, pos, neg_ℤ, ◌+ℤ◌, ◌-ℤ◌, ◌*ℤ◌, sym, ap, ap₂, ◌∙◌, arith}
use Rattle.std.proofs.Math.IntN.{*ℤ_comm, zero-*ℤ}
use Rattle.std.proofs.Math.Nat.{add-mul, mul-add, mul_assoc}
use Rattle.std.proofs.lemmas.Int.{ints}
use Rattle.byte_lags.proofs.IntProducts.{int_mul-add, int_add-mul}
use borrow.Author.Differences.{up, down, product_is, same_in}

pub int_mul-sub : (a b c : ℤ) → a *ℤ (b -ℤ c) ≡ a *ℤ b -ℤ a *ℤ c
int_mul-sub a b c =
    let back : b -ℤ c +ℤ c ≡ b = omega (arith, ints) in
    let whole = int_mul-add a (b -ℤ c) c in
    let same = ap (λ (x : ℤ). a *ℤ x) back in
    omega (arith, ints, whole, same)

pub int_sub-mul : (a b c : ℤ) → (a -ℤ b) *ℤ c ≡ a *ℤ c -ℤ b *ℤ c
int_sub-mul a b c = *ℤ_comm (a -ℤ b) c ∙ int_mul-sub c a b ∙ ap₂ (λ (x y : ℤ). x -ℤ y) (*ℤ_comm c a) (*ℤ_comm c b)

pub int_neg-mul : (a b : ℤ) → neg_ℤ a *ℤ b ≡ neg_ℤ (a *ℤ b)
int_neg-mul a b =
    let none : a +ℤ neg_ℤ a ≡ pos 0 = omega (arith, ints) in
    let whole = int_add-mul a (neg_ℤ a) b in
    let same = ap (λ (x : ℤ). x *ℤ b) none in
    omega (arith, ints, whole, same, zero-*ℤ b)

regrouped : (a b c d e f : ℕ) → (a * b + d * e) * c + (a * e + d * b) * f ≡ a * (b * c + e * f) + d * (b * f + e * c)
regrouped a b c d e f = simp (add-mul, mul-add, mul_assoc) (omega arith)

pub int_mul_assoc : (a b c : ℤ) → (a *ℤ b) *ℤ c ≡ a *ℤ (b *ℤ c)
int_mul_assoc a b c =
    let left = product_is (a *ℤ b) c in
    let right = product_is a (b *ℤ c) in
    let front = product_is a b in
    let back = product_is b c in
    let ups : up ((a *ℤ b) *ℤ c) ≡ up (a *ℤ (b *ℤ c)) =
    left.0 ∙ ap₂ (λ x y. x * up c + y * down c) front.0 front.1
    ∙ regrouped (up a) (up b) (up c) (down a) (down b) (down c)
    ∙ sym (right.0 ∙ ap₂ (λ x y. up a * x + down a * y) back.0 back.1) in
    let downs : down ((a *ℤ b) *ℤ c) ≡ down (a *ℤ (b *ℤ c)) =
    left.1 ∙ ap₂ (λ x y. x * down c + y * up c) front.0 front.1
    ∙ regrouped (up a) (up b) (down c) (down a) (down b) (up c)
    ∙ sym (right.1 ∙ ap₂ (λ x y. up a * y + down a * x) back.0 back.1) in
    same_in ((a *ℤ b) *ℤ c) (a *ℤ (b *ℤ c)) (omega arith)

pub int_mul_left_comm : (a b c : ℤ) → a *ℤ (b *ℤ c) ≡ b *ℤ (a *ℤ c)
int_mul_left_comm a b c =
    sym (int_mul_assoc a b c) ∙ ap (λ x. x *ℤ c) (*ℤ_comm a b) ∙ int_mul_assoc b a c

-- two products, their first factors together and their second ones
pub int_mul-mul : (a l c m : ℤ) → (a *ℤ l) *ℤ (c *ℤ m) ≡ (a *ℤ c) *ℤ (l *ℤ m)
int_mul-mul a l c m =
    int_mul_assoc a l (c *ℤ m) ∙ ap (λ (x : ℤ). a *ℤ x) (int_mul_left_comm l c m) ∙ sym (int_mul_assoc a c (l *ℤ m))
