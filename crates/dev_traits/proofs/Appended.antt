-- Appending in turns.
use Rattle.std.proofs.Common.{◌≡◌, ℕ, ◌+◌, List, [], ◌++◌, length, take, drop, refl, ap, append_assoc, append-nil, arith, Option, Some, None, sym, ◌∙◌, length-append}
use Rattle.std.proofs.Math.Seq.{take-add, take-append-add, take-length}
use Rattle.std.proofs.lemmas.List.{take-append-le}
use Rattle.dev_traits.specs.Told.{more, PrefixMore}

pub more-more : (old : Option (List ℕ)) (a b : List ℕ) → more (more old a) b ≡ more old (a ++ b)
more-more None a b = refl
more-more (Some told) a b = ap Some (append_assoc told a b)

pub more-nil : (old : Option (List ℕ)) → more old [] ≡ old
more-nil None = refl
more-nil (Some told) = ap Some (append-nil told)

-- what was written so far, and then the front of the rest
pub more-take : (old now new : Option (List ℕ)) (bytes : List ℕ) (i n : ℕ) → now ≡ more old (take i bytes) → new ≡ more now (take n (drop i bytes)) → new ≡ more old (take (i + n) bytes)
more-take old now new bytes i n before after =
    after ∙ ap (λ t. more t (take n (drop i bytes))) before ∙ more-more old (take i bytes) (take n (drop i bytes)) ∙ ap (more old) (sym (take-add i n bytes))

-- nothing was appended
pub PrefixMore-none : (old new : Option (List ℕ)) (a : List ℕ) → new ≡ old → PrefixMore old a new
PrefixMore-none old new a same = record {
  count = 0;
  within = omega arith;
  appended = same ∙ sym (more-nil old);
}

-- all of the bytes were appended
pub PrefixMore-all : (old new : Option (List ℕ)) (a : List ℕ) → new ≡ more old a → PrefixMore old a new
PrefixMore-all old new a all = record {
  count = length a;
  within = omega arith;
  appended = all ∙ ap (more old) (sym (take-length a));
}

-- a first part of `a` is a first part of `a ++ b`
pub PrefixMore-wider : (old new : Option (List ℕ)) (a b : List ℕ) → PrefixMore old a new → PrefixMore old (a ++ b) new
PrefixMore-wider old new a b part = record {
  count = part.count;
  within = let within = part.within in omega (arith, within, length-append a b);
  appended = part.appended ∙ ap (more old) (sym (take-append-le part.count a b part.within));
}

-- all of `a`, and then a first part of `b`
pub PrefixMore-after : (old new : Option (List ℕ)) (a b : List ℕ) → PrefixMore (more old a) b new → PrefixMore old (a ++ b) new
PrefixMore-after old new a b part = record {
  count = length a + part.count;
  within = let within = part.within in omega (arith, within, length-append a b);
  appended =
      part.appended ∙ more-more old a (take part.count b)
      ∙ ap (more old) (sym (take-append-add a b part.count));
}
