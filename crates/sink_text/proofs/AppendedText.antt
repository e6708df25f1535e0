-- Texts that are appended in turns.
use Rattle.std.proofs.Common.{◌≡◌, ℕ, List, ◌++◌, Option, Result, Ok, Err, subst, ap, sym, refl, ◌∙◌, arith}
use Rattle.std.specs.Result.{IsErr}
use Rattle.std.proofs.lemmas.Result.{on_ok_weaker, on_err_weaker}
use Rattle.dev_traits.specs.Fault.{Counts}
use Rattle.dev_traits.specs.Told.{more, PrefixMore}
use Rattle.dev_traits.proofs.Appended.{more-more, PrefixMore-after, PrefixMore-wider, PrefixMore-all}
use Rattle.sink_text.specs.Appends.{Appends}

-- a text that was appended
pub Appends-done : {T E : Type 0} {old new : Option (List ℕ)} {text : List ℕ} {before now : ℕ} (x : T)
    → new ≡ more old text
    → now ≡ before
    → Appends {T = T} {E = E} old new text before now (Ok x)
Appends-done {before = before} {now = now} x told kept = record {
  ok = told;
  prefix = tt;
  counts = record { kept = kept; risen = tt; no_fall = omega arith };
}

-- one text, and then another
pub Appends-then : {T U E : Type 0} {old mid new : Option (List ℕ)} {text a b : List ℕ}
    {before then now : ℕ} {x : U} {r : Result T E}
    → text ≡ a ++ b
    → Appends {T = U} {E = E} old mid a before then (Ok x)
    → Appends mid new b then now r
    → Appends old new text before now r
Appends-then {T = T} {U = U} {E = E} {old = old} {mid = mid} {new = new} {a = a} {b = b} {before = before} {then = then} {now = now} {r = r} whole first second =
    let both : Appends old new (a ++ b) before now r = record {
      ok = on_ok_weaker r (λ (told : new ≡ more mid b). told ∙ ap (λ t. more t b) first.ok ∙ more-more old a b) second.ok;
      prefix =
          on_err_weaker r
          (λ (part : PrefixMore mid b new). PrefixMore-after old new a b (subst (λ t. PrefixMore t b new) first.ok part))
          second.prefix;
      counts = subst (λ n. Counts n now r) first.counts.kept second.counts;
    } in subst (λ t. Appends old new t before now r) (sym whole) both

-- two texts, with no fault
pub Appends-both : {T U E : Type 0} {old mid new : Option (List ℕ)} {text a b : List ℕ}
    {before then now : ℕ} {x : U} {y : T}
    → text ≡ a ++ b
    → Appends {T = U} {E = E} old mid a before then (Ok x)
    → Appends {T = T} {E = E} mid new b then now (Ok y)
    → Appends {T = T} {E = E} old new text before now (Ok y)
Appends-both {y = y} whole first second = Appends-then {r = Ok y} whole first second

-- a text of which an earlier part failed
pub Appends-exit : {T U E F : Type 0} {old new : Option (List ℕ)} {text a : List ℕ} {before now : ℕ} {e : E}
    {r : Result T F} (b : List ℕ)
    → text ≡ a ++ b
    → IsErr r
    → Appends {T = U} {E = E} old new a before now (Err e)
    → Appends old new text before now r
Appends-exit {T = T} {F = F} {old = old} {new = new} {a = a} {before = before} {now = now} {r = r} b whole failed first =
    subst (λ t. Appends old new t before now r) (sym whole) (
    elim r as (λ r. IsErr r → Appends {T = T} {E = F} old new (a ++ b) before now r) [
      | Ok x ↦ λ ok. cc
      | Err d ↦ λ _. record {
        ok = tt;
        prefix = PrefixMore-wider old new a b first.prefix;
        counts = record { kept = tt; risen = first.counts.risen; no_fall = first.counts.no_fall };
      }
    ] failed
    )

-- the same for the fault itself
pub Appends-longer : {T E : Type 0} {old new : Option (List ℕ)} {a : List ℕ} {before now : ℕ} {e : E}
    (b : List ℕ)
    → Appends {T = T} {E = E} old new a before now (Err e)
    → Appends {T = T} {E = E} old new (a ++ b) before now (Err e)
Appends-longer b first = Appends-exit b refl refl first

-- with either answer a first part was appended
pub Appends-part : {T E : Type 0} {old new : Option (List ℕ)} {text : List ℕ} {before now : ℕ} (r : Result T E)
    → Appends old new text before now r
    → PrefixMore old text new
Appends-part {old = old} {new = new} {text = text} (Ok x) all = PrefixMore-all old new text all.ok
Appends-part (Err e) part = part.prefix
