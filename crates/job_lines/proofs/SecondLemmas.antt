-- Tests of seconds: what a test that fails says, and whether two seconds of the machine are one.
use Rattle.std.proofs.Common.{◌≡◌, Bool, true, false, refl, sym, ◌∙◌, ap, IsTrue, Decides, FitsSigned, eqb}
use Rattle.std.specs.Prelude.{ℤ, if◌then◌else◌}
use Rattle.std.specs.Ordering.{int_eq}
use Rattle.std.proofs.lemmas.Int.{to_z-of_z}
use mir.Val.{of_z, to_z}
use mir.Syntax.{w64}
use Rattle.std.proofs.lemmas.Bool.Decides.{Decides-int_eq, Decides-eqb, same_from_decides}

-- a test that a fact decides fails where the fact does not hold
pub fails : (b : Bool) (P : Type 0) → Decides b P → (P → ⊥) → b ≡ false
fails true P d lacks = absurd (lacks (d.0 refl))
fails false P d lacks = refl

pub passes : (b : Bool) (P : Type 0) → Decides b P → P → b ≡ true
passes b P d p = d.1 p

-- two that a test tells apart differ
pub differs : (b : Bool) (P : Type 0) → Decides b P → b ≡ false → P → ⊥
differs b P d off p = let on : b ≡ true = d.1 p in let odd : true ≡ false = sym on ∙ off in cc

-- whether two seconds of the machine are one
pub same_second : (x y : ℤ) → FitsSigned w64 x → FitsSigned w64 y → eqb (of_z w64 x) (of_z w64 y) ≡ int_eq x y
same_second x y f g =
    let one : to_z w64 (of_z w64 x) ≡ x = to_z-of_z w64 x f in
    let two : to_z w64 (of_z w64 y) ≡ y = to_z-of_z w64 y g in
    same_from_decides (eqb (of_z w64 x) (of_z w64 y)) (int_eq x y)
    (λ e. sym one ∙ ap (to_z w64) ((Decides-eqb (of_z w64 x) (of_z w64 y)).0 e) ∙ two, λ e. (Decides-eqb (of_z w64 x) (of_z w64 y)).1 (ap (of_z w64) e))
    (Decides-int_eq x y)

-- the first of two things, where the test holds
pub chosen : {A : Type 0} (b : Bool) (new x y : A) → IsTrue b → new ≡ (if b then x else y) → new ≡ x
chosen true new x y on h = h
chosen false new x y on h = absurd cc
