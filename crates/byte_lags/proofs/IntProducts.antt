-- Products of signed numbers: a sum in a factor. A number z is read as up z - down z, of which one is 0.
use Rattle.std.proofs.Common.{◌≡◌, ℕ, ◌+◌, ◌*◌, ℤ, ◌+ℤ◌, ◌*ℤ◌, ap, ap₂, ◌∙◌, arith}
use Rattle.std.proofs.Math.IntN.{*ℤ_comm}
use Rattle.std.proofs.Math.Nat.{add-mul}
use Rattle.std.proofs.lemmas.Int.{ints}
use borrow.Author.Differences.{up, down, sum_is_lem}

three : (x y z u : ℕ) → (x + y + z) * u ≡ x * u + y * u + z * u
three x y z u = simp add-mul

pub int_add-mul : (a b c : ℤ) → (a +ℤ b) *ℤ c ≡ a *ℤ c +ℤ b *ℤ c
int_add-mul a b c =
    let e = sum_is_lem a b in
    let by_up = ap (λ n. n * up c) e in
    let by_down = ap (λ n. n * down c) e in
    omega (
      arith,
      ints,
      by_up,
      by_down,
      three (up (a +ℤ b)) (down a) (down b) (up c),
      three (down (a +ℤ b)) (up a) (up b) (up c),
      three (up (a +ℤ b)) (down a) (down b) (down c),
      three (down (a +ℤ b)) (up a) (up b) (down c),
    )

pub int_mul-add : (a b c : ℤ) → a *ℤ (b +ℤ c) ≡ a *ℤ b +ℤ a *ℤ c
int_mul-add a b c = *ℤ_comm a (b +ℤ c) ∙ int_add-mul b c a ∙ ap₂ (λ (x y : ℤ). x +ℤ y) (*ℤ_comm b a) (*ℤ_comm c a)
