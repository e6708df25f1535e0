-- Things by their names, as the entries of a map.
use Rattle.std.proofs.Common.{◌≡◌, ◌≢◌, ℕ, Bool, true, false, cond, List, [], ◌∷◌, map, None, Some, ap, refl, sym, ◌∙◌, bytes_eq, is_some, slice_get}
use Rattle.std.specs.Prelude.{Option, option_map, IfSome, IfNone}
use Rattle.std.proofs.lemmas.Option.{slice_get-map}
use Rattle.std.specs.Global.{Vec}
use Rattle.std.specs.List.{IsDistinct, AllByRecursion, AllPairs}
use Rattle.std.specs.Map.{keys_of, lookup}
use Rattle.std.proofs.lemmas.Bool.{false≢true}
use Rattle.std.proofs.lemmas.Cmp.{nat_list_eq_equiv}
use Rattle.std.proofs.lemmas.Slice.Eq.{bytes_eq-Decides}
use Rattle.std.proofs.lemmas.Map.Made.{AllPairs-from_IsDistinct}
use Rattle.indexmap.specs.IndexMap.{insert_entry}
use Rattle.named_list.specs.Named.{named, names, put}

module _ {A : Type 0} where
  abbrev pub things : List (Vec ℕ × A) → List (List ℕ × A)
  things = map (λ entry. (entry.0.items, entry.1))

  -- the map's look-up by bytes finds what stands under the name
  pub lookup-things : (name : List ℕ) (es : List (Vec ℕ × A)) → lookup (λ k. bytes_eq name k.items) es ≡ named (things es) name
  lookup-things name [] = refl
  lookup-things name (e ∷ es) = λ i. cond (nat_list_eq_equiv.symm name e.0.items i) (Some e.1) (lookup-things name es i)

  values-things : (es : List (Vec ℕ × A)) → map (λ x. x.1) (things es) ≡ map (λ e. e.1) es
  values-things [] = refl
  values-things (e ∷ es) = ap (λ xs. e.1 ∷ xs) (values-things es)

  -- the map's value at a place is the thing there
  value_at : (es : List (Vec ℕ × A)) (i : ℕ) → option_map (λ x. x.1) (slice_get (things es) i) ≡ slice_get (map (λ e. e.1) es) i
  value_at es i = sym (slice_get-map (λ x. x.1) (things es) i) ∙ ap (λ xs. slice_get xs i) (values-things es)

  pub place-there : (name : List ℕ) (es : List (Vec ℕ × A)) (place : Option ℕ) → IfSome place (λ i. slice_get (map (λ e. e.1) es) i ≡ lookup (λ k. bytes_eq name k.items) es)
      → IfSome place (λ i. option_map (λ x. x.1) (slice_get (things es) i) ≡ named (things es) name)
  place-there name es None h = h
  place-there name es (Some i) h = value_at es i ∙ h ∙ lookup-things name es

  pub place-none : (name : List ℕ) (es : List (Vec ℕ × A)) (place : Option ℕ) → is_some place ≡ is_some (lookup (λ k. bytes_eq name k.items) es)
      → IfNone place (named (things es) name ≡ None)
  place-none name es (Some i) h = tt
  place-none name es None h = sym (lookup-things name es) ∙ nothing (lookup (λ k. bytes_eq name k.items) es) h
    where
      nothing : (o : Option A) → is_some {T = ℕ} None ≡ is_some o → o ≡ None
      nothing None e = refl
      nothing (Some x) e = absurd cc

  -- the map's `insert` puts the thing under the name
  pub things-insert_entry : (es : List (Vec ℕ × A)) (k : Vec ℕ) (thing : A) → things (insert_entry (λ x y. bytes_eq x.items y.items) es k thing) ≡ put (things es) k.items thing
  things-insert_entry [] k thing = refl
  things-insert_entry (e ∷ es) k thing =
      moved (bytes_eq k.items e.0.items)
      ∙ (λ i. cond (nat_list_eq_equiv.symm k.items e.0.items i) ((e.0.items, thing) ∷ things es) ((e.0.items, e.1) ∷ things-insert_entry es k thing i))
    where
      moved : (b : Bool) → things (cond b ((e.0, thing) ∷ es) (e ∷ insert_entry (λ x y. bytes_eq x.items y.items) es k thing)) ≡ cond b ((e.0.items, thing) ∷ things es) ((e.0.items, e.1) ∷ things (insert_entry (λ x y. bytes_eq x.items y.items) es k thing))
      moved true = refl
      moved false = refl

  behind : (k : Vec ℕ) (es : List (Vec ℕ × A)) → AllByRecursion (λ l. bytes_eq k.items l.items ≡ false) (keys_of es) → AllByRecursion (λ name. bytes_eq k.items name ≡ false) (names (things es))
  behind k [] h = h
  behind k (e ∷ es) h = (h.0, behind k es h.1)

  IsDistinct-names : (es : List (Vec ℕ × A)) → IsDistinct (λ x y. bytes_eq x.items y.items) (keys_of es) → IsDistinct bytes_eq (names (things es))
  unfolding IsDistinct
  IsDistinct-names [] h = h
  IsDistinct-names (e ∷ es) h = (behind e.0 es h.0, IsDistinct-names es h.1)

  -- the names differ, since the map's keys do
  pub names_differ : (es : List (Vec ℕ × A)) → IsDistinct (λ x y. bytes_eq x.items y.items) (keys_of es) → AllPairs (λ x y. x ≢ y) (names (things es))
  names_differ es h = AllPairs-from_IsDistinct bytes_eq-Decides (names (things es)) (IsDistinct-names es h)

same : (name : List ℕ) → bytes_eq name name ≡ true
same = nat_list_eq_equiv.refl

module _ {A : Type 0} where
  -- what was put under a name stands there
  pub named-put : (xs : List (List ℕ × A)) (name : List ℕ) (thing : A) → named (put xs name thing) name ≡ Some thing
  named-put [] name thing = λ i. cond (same name i) (Some thing) None
  named-put (x ∷ xs) name thing = by (bytes_eq x.0 name) refl (named-put xs name thing)
    where
      by : (b : Bool) → bytes_eq x.0 name ≡ b → named (put xs name thing) name ≡ Some thing → named (cond b ((x.0, thing) ∷ xs) (x ∷ put xs name thing)) name ≡ Some thing
      by true e rest = λ i. cond (e i) (Some thing) (named xs name)
      by false e rest = (λ i. cond (e i) (Some x.1) (named (put xs name thing) name)) ∙ rest

  -- what is put under a name twice is put there the second time
  pub put-put : (xs : List (List ℕ × A)) (name : List ℕ) (thing other : A) → put (put xs name thing) name other ≡ put xs name other
  put-put [] name thing other = λ i. cond (same name i) ((name, other) ∷ []) ((name, thing) ∷ (name, other) ∷ [])
  put-put (x ∷ xs) name thing other = by (bytes_eq x.0 name) refl (put-put xs name thing other)
    where
      by : (b : Bool) → bytes_eq x.0 name ≡ b → put (put xs name thing) name other ≡ put xs name other
          → put (cond b ((x.0, thing) ∷ xs) (x ∷ put xs name thing)) name other ≡ cond b ((x.0, other) ∷ xs) (x ∷ put xs name other)
      by true e rest = λ i. cond (e i) ((x.0, other) ∷ xs) ((x.0, thing) ∷ put xs name other)
      by false e rest = (λ i. cond (e i) ((x.0, other) ∷ put xs name thing) (x ∷ put (put xs name thing) name other)) ∙ ap (λ ys. x ∷ ys) rest

bytes_same : (x y : List ℕ) → bytes_eq x y ≡ true → x ≡ y
bytes_same x y e = (bytes_eq-Decides x y).0 e

-- what stands under a name once another or the same was put
pub named-put_at : {A : Type 0} (xs : List (List ℕ × A)) (name : List ℕ) (thing : A) (other : List ℕ) → named (put xs name thing) other ≡ cond (bytes_eq name other) (Some thing) (named xs other)
named-put_at [] name thing other = refl
named-put_at {A} (x ∷ xs) name thing other = by (bytes_eq x.0 name) refl (named-put_at xs name thing other)
  where
    first : (b c : Bool) → bytes_eq x.0 other ≡ b → bytes_eq name other ≡ c → bytes_eq x.0 name ≡ false → cond b (Some x.1) (cond c (Some thing) (named xs other)) ≡ cond c (Some thing) (cond b (Some x.1) (named xs other))
    first true true e f differ = absurd (let same : x.0 ≡ name = bytes_same x.0 other e ∙ sym (bytes_same name other f) in false≢true (sym differ ∙ (bytes_eq-Decides x.0 name).1 same))
    first true false e f differ = refl
    first false c e f differ = refl

    by : (b : Bool) → bytes_eq x.0 name ≡ b → named (put xs name thing) other ≡ cond (bytes_eq name other) (Some thing) (named xs other)
        → named (cond b ((x.0, thing) ∷ xs) (x ∷ put xs name thing)) other ≡ cond (bytes_eq name other) (Some thing) (named (x ∷ xs) other)
    by true e rest = rw (bytes_same x.0 name e) (again (bytes_eq name other))
      where
        again : (c : Bool) → cond c (Some thing) (named xs other) ≡ cond c (Some thing) (cond c (Some x.1) (named xs other))
        again true = refl
        again false = refl
    by false e rest = ap (λ o. cond (bytes_eq x.0 other) (Some x.1) o) rest ∙ first (bytes_eq x.0 other) (bytes_eq name other) refl refl e
