-- Things put under names.
use Rattle.std.proofs.Common.{◌≡◌, ℕ, Bool, true, false, cond, ◌||◌, List, [], ◌∷◌, ◌++◌, None, Some, refl, sym, ap, ◌∙◌, bytes_eq, is_some}
use Rattle.std.specs.Prelude.{Option}
use Rattle.std.specs.List.{list_any}
use Rattle.std.proofs.lemmas.Cmp.{nat_list_eq_equiv}
use Rattle.std.proofs.lemmas.Slice.Eq.{bytes_eq-Decides}
use Rattle.std.proofs.lemmas.List.{map_push}
use Rattle.named_list.specs.Named.{named, names, put}

pub same_name : (name : List ℕ) → bytes_eq name name ≡ true
same_name = nat_list_eq_equiv.refl

pub name_from : (a b : List ℕ) → bytes_eq a b ≡ true → a ≡ b
name_from a b h = (bytes_eq-Decides a b).0 h

module _ {A : Type 0} where
  -- a name that was not there goes last
  pub put-new : (xs : List (List ℕ × A)) (name : List ℕ) (thing : A) → named xs name ≡ None → put xs name thing ≡ xs ++ (name, thing) ∷ []
  put-new [] name thing none = refl
  put-new (x ∷ xs) name thing none = by (bytes_eq x.0 name) refl (put-new xs name thing)
    where
      by : (b : Bool) → bytes_eq x.0 name ≡ b → (named xs name ≡ None → put xs name thing ≡ xs ++ (name, thing) ∷ []) → put (x ∷ xs) name thing ≡ x ∷ (xs ++ (name, thing) ∷ [])
      by true e more = let odd : named (x ∷ xs) name ≡ Some x.1 = rw e refl in let both : Some x.1 ≡ None = sym odd ∙ none in absurd cc
      by false e more =
          let rest : named xs name ≡ None = (λ i. cond (sym e i) (Some x.1) (named xs name)) ∙ none in
          (λ i. cond (e i) ((x.0, thing) ∷ xs) (x ∷ put xs name thing)) ∙ ap (λ ys. x ∷ ys) (more rest)

  -- what is found behind one more thing
  abbrev pub or_at : Option A → Bool → A → Option A
  or_at (Some x) here thing = Some x
  or_at None here thing = cond here (Some thing) None

  pub named-push : (xs : List (List ℕ × A)) (name other : List ℕ) (thing : A) → named (xs ++ (name, thing) ∷ []) other ≡ or_at (named xs other) (bytes_eq name other) thing
  named-push [] name other thing = refl
  named-push (x ∷ xs) name other thing = by (bytes_eq x.0 other) refl (named-push xs name other thing)
    where
      by : (b : Bool) → bytes_eq x.0 other ≡ b → named (xs ++ (name, thing) ∷ []) other ≡ or_at (named xs other) (bytes_eq name other) thing
          → named (x ∷ (xs ++ (name, thing) ∷ [])) other ≡ or_at (named (x ∷ xs) other) (bytes_eq name other) thing
      by true e rest = rw e refl
      by false e rest = rw e rest

  -- whether a name is there behind one more
  pub is_some-push : (xs : List (List ℕ × A)) (name other : List ℕ) (thing : A) → is_some (named (xs ++ (name, thing) ∷ []) other) ≡ (is_some (named xs other) || bytes_eq name other)
  is_some-push xs name other thing = ap is_some (named-push xs name other thing) ∙ by (named xs other) (bytes_eq name other)
    where
      by : (o : Option A) (b : Bool) → is_some (or_at o b thing) ≡ (is_some o || b)
      by (Some x) b = refl
      by None true = refl
      by None false = refl

  -- whether a name is there is whether it is among the names
  pub among-names : (xs : List (List ℕ × A)) (name : List ℕ) → is_some (named xs name) ≡ list_any (λ other. bytes_eq other name) (names xs)
  among-names [] name = refl
  among-names (x ∷ xs) name = by (bytes_eq x.0 name) refl (among-names xs name)
    where
      by : (b : Bool) → bytes_eq x.0 name ≡ b → is_some (named xs name) ≡ list_any (λ other. bytes_eq other name) (names xs)
          → is_some (named (x ∷ xs) name) ≡ list_any (λ other. bytes_eq other name) (names (x ∷ xs))
      by true e rest = rw e refl
      by false e rest = rw e rest

  -- the names with a new one
  pub names-put : (xs : List (List ℕ × A)) (name : List ℕ) (thing : A) → named xs name ≡ None → names (put xs name thing) ≡ names xs ++ name ∷ []
  names-put xs name thing none = ap names (put-new xs name thing none) ∙ map_push (λ (x : List ℕ × A). x.0) xs (name, thing)

  -- whether something stands there tells whether nothing does
  pub named-none : (xs : List (List ℕ × A)) (name : List ℕ) → is_some (named xs name) ≡ false → named xs name ≡ None
  named-none xs name h = by (named xs name) h
    where
      by : (o : Option A) → is_some o ≡ false → o ≡ None
      by None e = refl
      by (Some x) e = absurd cc
