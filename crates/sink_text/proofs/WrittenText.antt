-- Texts that are put on their way in turns.
use Rattle.std.proofs.Common.{◌≡◌, ◌≤◌, ◌<◌, ◌+◌, ℕ, true, false, List, [], ◌∷◌, ◌++◌, length, take, get_or, Option, Result, Ok, Err, subst, ap, sym, refl, ◌∙◌, arith, append_assoc, append-nil}
use Rattle.std.specs.Prelude.{OnOk, OnErr}
use Rattle.std.specs.Result.{is_err}
use Rattle.std.specs.List.{flat_map}
use Rattle.std.proofs.lemmas.List.{take_more, take_all}
use Rattle.std.proofs.lemmas.Grind.{flat_map-append}
use Rattle.dev_traits.specs.Fault.{Counts, HasRisen}
use Rattle.dev_traits.specs.Told.{more, PrefixMore}
use Rattle.dev_traits.proofs.Appended.{more-more, more-nil, PrefixMore-after, PrefixMore-wider}
use Rattle.sink_text.specs.Appends.{Appends}
use Rattle.sink_text.specs.Written.{StretchState, IsGoing, IsWritten, Puts, Ends}

-- nothing is on its way
pub IsWritten-nothing : (told : Option (List ℕ)) (faults : ℕ)
    → IsWritten told faults [] (record { held = []; failed = false }) told faults
IsWritten-nothing told faults = record {
  going = λ _. record { front = []; parts = refl; appended = sym (more-nil told) };
  kept = λ _. refl;
  part = λ failed. cc;
  risen = λ failed. cc;
  no_fall = omega arith;
}

-- one text, and then another
pub Puts-then : {a b text : List ℕ} {s₀ s₁ s₂ : StretchState} {t₀ t₁ t₂ : Option (List ℕ)} {f₀ f₁ f₂ : ℕ}
    → text ≡ a ++ b
    → Puts a s₀ s₁ t₀ t₁ f₀ f₁
    → Puts b s₁ s₂ t₁ t₂ f₁ f₂
    → Puts text s₀ s₂ t₀ t₂ f₀ f₂
Puts-then {a = a} {b = b} {s₀ = s₀} {s₂ = s₂} {t₀ = t₀} {t₂ = t₂} {f₀ = f₀} {f₂ = f₂} whole first second =
    let both : Puts (a ++ b) s₀ s₂ t₀ t₂ f₀ f₂ = record {
      then = λ from before text written.
          subst (λ t. IsWritten from before t s₂ t₂ f₂) (append_assoc text a b)
          (second.then from before (text ++ a) (first.then from before text written));
    } in subst (λ t. Puts t s₀ s₂ t₀ t₂ f₀ f₂) (sym whole) both

-- nothing is put
pub Puts-nothing : (s : StretchState) (t : Option (List ℕ)) (f : ℕ) → Puts [] s s t t f f
Puts-nothing s t f = record {
  then = λ from before text written. subst (λ x. IsWritten from before x s t f) (sym (append-nil text)) written;
}

-- the texts of the first things, and of one more
pub flat_map-next : {A : Type 0} (text : A → List ℕ) (things : List A) (i : ℕ) (d : A) → i < length things
    → flat_map text (take (i + 1) things) ≡ flat_map text (take i things) ++ text (get_or things i d)
flat_map-next text things i d within =
    ap (flat_map text) (take_more things i d within)
    ∙ flat_map-append text (take i things) (get_or things i d ∷ [])
    ∙ ap (λ (t : List ℕ). flat_map text (take i things) ++ t) (append-nil (text (get_or things i d)))

pub Puts-next : {A : Type 0} {s₀ s₁ s₂ : StretchState} {t₀ t₁ t₂ : Option (List ℕ)} {f₀ f₁ f₂ : ℕ}
    (text : A → List ℕ) (things : List A) (i : ℕ) (d : A) → i < length things
    → Puts (flat_map text (take i things)) s₀ s₁ t₀ t₁ f₀ f₁
    → Puts (text (get_or things i d)) s₁ s₂ t₁ t₂ f₁ f₂
    → Puts (flat_map text (take (i + 1) things)) s₀ s₂ t₀ t₂ f₀ f₂
Puts-next text things i d within first next = Puts-then (flat_map-next text things i d within) first next

pub Puts-all : {A : Type 0} {s₀ s₁ : StretchState} {t₀ t₁ : Option (List ℕ)} {f₀ f₁ : ℕ}
    (text : A → List ℕ) (things : List A) (i : ℕ) → length things ≤ i
    → Puts (flat_map text (take i things)) s₀ s₁ t₀ t₁ f₀ f₁
    → Puts (flat_map text things) s₀ s₁ t₀ t₁ f₀ f₁
Puts-all {s₀ = s₀} {s₁ = s₁} {t₀ = t₀} {t₁ = t₁} {f₀ = f₀} {f₁ = f₁} text things i all puts =
    subst (λ (x : List _). Puts (flat_map text x) s₀ s₁ t₀ t₁ f₀ f₁) (take_all i things all) puts

-- the bytes are held
pub Puts-held : (bytes : List ℕ) (old new : StretchState) (t : Option (List ℕ)) (f : ℕ)
    → new.held ≡ old.held ++ bytes
    → new.failed ≡ old.failed
    → Puts bytes old new t t f f
Puts-held bytes old new t f held failed = record {
  then = λ from before text written. record {
    going = λ ok. going from text (written.going (sym failed ∙ ok));
    kept = λ ok. written.kept (sym failed ∙ ok);
    part = λ bad. PrefixMore-wider from t text bytes (written.part (sym failed ∙ bad));
    risen = λ bad. written.risen (sym failed ∙ bad);
    no_fall = written.no_fall;
  };
}
  where
    going : (from : Option (List ℕ)) (text : List ℕ) → IsGoing from t text old.held → IsGoing from t (text ++ bytes) new.held
    going from text g = record {
      front = g.front;
      parts = ap (λ x. x ++ bytes) g.parts ∙ append_assoc g.front old.held bytes ∙ ap (λ h. g.front ++ h) (sym held);
      appended = g.appended;
    }

-- The sink has failed before and is not called.
pub Puts-failed : (bytes : List ℕ) (old new : StretchState) (t : Option (List ℕ)) (f : ℕ)
    → old.failed ≡ true
    → new.failed ≡ true
    → Puts bytes old new t t f f
Puts-failed bytes old new t f was is = record {
  then = λ from before text written. record {
    going = λ ok. cc;
    kept = λ ok. cc;
    part = λ bad. PrefixMore-wider from t text bytes (written.part was);
    risen = λ bad. written.risen was;
    no_fall = written.no_fall;
  };
}

-- what is held and these bytes are all handed over
pub Puts-handed : (bytes : List ℕ) (old new : StretchState) (t t' : Option (List ℕ)) (f f' : ℕ)
    → old.failed ≡ false
    → new.failed ≡ false
    → new.held ≡ []
    → t' ≡ more t (old.held ++ bytes)
    → f' ≡ f
    → Puts bytes old new t t' f f'
Puts-handed bytes old new t t' f f' was is empty told kept = record {
  then = λ from before text written. record {
    going = λ ok. going from text (written.going was);
    kept = λ ok. kept ∙ written.kept was;
    part = λ bad. cc;
    risen = λ bad. cc;
    no_fall = let w = written.no_fall in omega (arith, w, kept);
  };
}
  where
    going : (from : Option (List ℕ)) (text : List ℕ) → IsGoing from t text old.held → IsGoing from t' (text ++ bytes) new.held
    going from text g = record {
      front = text ++ bytes;
      parts = sym (append-nil (text ++ bytes)) ∙ ap (λ h. (text ++ bytes) ++ h) (sym empty);
      appended =
          told ∙ ap (λ x. more x (old.held ++ bytes)) g.appended ∙ more-more from g.front (old.held ++ bytes)
          ∙ ap (more from) (sym (append_assoc g.front old.held bytes) ∙ ap (λ x. x ++ bytes) (sym g.parts));
    }

-- the sink fails while it takes them
pub Puts-broken : (bytes : List ℕ) (old new : StretchState) (t t' : Option (List ℕ)) (f f' : ℕ)
    → old.failed ≡ false
    → new.failed ≡ true
    → PrefixMore t (old.held ++ bytes) t'
    → HasRisen f f'
    → f ≤ f'
    → Puts bytes old new t t' f f'
Puts-broken bytes old new t t' f f' was is part risen later = record {
  then = λ from before text written. record {
    going = λ ok. cc;
    kept = λ ok. cc;
    part = λ bad. first_part from text (written.going was);
    risen = λ bad. subst (λ n. HasRisen n f') (written.kept was) risen;
    no_fall = let w = written.no_fall in omega (arith, w, later);
  };
}
  where
    first_part : (from : Option (List ℕ)) (text : List ℕ) → IsGoing from t text old.held → PrefixMore from (text ++ bytes) t'
    first_part from text g =
        let whole : g.front ++ (old.held ++ bytes) ≡ text ++ bytes =
        sym (append_assoc g.front old.held bytes) ∙ ap (λ x. x ++ bytes) (sym g.parts) in
        subst (λ x. PrefixMore from x t') whole
        (PrefixMore-after from t' g.front (old.held ++ bytes) (subst (λ x. PrefixMore x (old.held ++ bytes) t') g.appended part))

-- the sink is called with what is held and these bytes, and answers
pub Puts-sent : {T E : Type 0} (r : Result T E) (bytes sent : List ℕ) (old new : StretchState)
    (t t' : Option (List ℕ)) (f f' : ℕ)
    → old.failed ≡ false
    → new.failed ≡ is_err r
    → new.held ≡ []
    → sent ≡ old.held ++ bytes
    → OnOk r (t' ≡ more t sent)
    → OnErr r (PrefixMore t sent t')
    → Counts f f' r
    → Puts bytes old new t t' f f'
Puts-sent (Ok x) bytes sent old new t t' f f' was is empty whole ok prefix counts =
    Puts-handed bytes old new t t' f f' was is empty (ok ∙ ap (more t) whole) counts.kept
Puts-sent (Err e) bytes sent old new t t' f f' was is empty whole ok prefix counts =
    Puts-broken bytes old new t t' f f' was is (subst (λ x. PrefixMore t x t') whole prefix) counts.risen counts.no_fall

-- all is handed over
pub Ends-ok : {T E : Type 0} (x : T) (s s' : StretchState) (t t' : Option (List ℕ)) (f f' : ℕ)
    → Puts [] s s' t t' f f'
    → s'.held ≡ []
    → s'.failed ≡ false
    → Ends {T = T} {E = E} s t t' f f' (Ok x)
Ends-ok x s s' t t' f f' puts empty going = record {
  appends = λ from before text written.
      let all = subst (λ x. IsWritten from before x s' t' f') (append-nil text) (puts.then from before text written) in
      let g = all.going going in record {
        ok = g.appended ∙ ap (more from) (sym (append-nil g.front) ∙ ap (λ h. g.front ++ h) (sym empty) ∙ sym g.parts);
        prefix = tt;
        counts = record { kept = all.kept going; risen = tt; no_fall = all.no_fall };
      };
}

pub Ends-err : {T E : Type 0} (e : E) (s s' : StretchState) (t t' : Option (List ℕ)) (f f' : ℕ)
    → Puts [] s s' t t' f f'
    → s'.failed ≡ true
    → Ends {T = T} {E = E} s t t' f f' (Err e)
Ends-err e s s' t t' f f' puts bad = record {
  appends = λ from before text written.
      let all = subst (λ x. IsWritten from before x s' t' f') (append-nil text) (puts.then from before text written) in record {
        ok = tt;
        prefix = all.part bad;
        counts = record { kept = tt; risen = all.risen bad; no_fall = all.no_fall };
      };
}

-- a text that was put from nothing, and finished
pub Appends-written : {T E : Type 0} {text : List ℕ} {s₀ s : StretchState} {t₀ t₁ t₂ : Option (List ℕ)} {f₀ f₁ f₂ : ℕ}
    {r : Result T E}
    → s₀ ≡ record { held = []; failed = false }
    → Puts text s₀ s t₀ t₁ f₀ f₁
    → Ends s t₁ t₂ f₁ f₂ r
    → Appends t₀ t₂ text f₀ f₂ r
Appends-written {text = text} {s₀ = s₀} {t₀ = t₀} {f₀ = f₀} new puts ends =
    let start : IsWritten t₀ f₀ [] s₀ t₀ f₀ = subst (λ s. IsWritten t₀ f₀ [] s t₀ f₀) (sym new) (IsWritten-nothing t₀ f₀) in
    ends.appends t₀ f₀ text (puts.then t₀ f₀ [] start)

-- an answer of another kind that is a fault where the first is one
pub Ends-alike : {T E F : Type 0} {s : StretchState} {t t' : Option (List ℕ)} {f f' : ℕ} {r : Result T E} {r' : Result T F}
    → is_err r' ≡ is_err r
    → Ends s t t' f f' r
    → Ends s t t' f f' r'
Ends-alike {s = s} {t = t} {t' = t'} {f = f} {f' = f'} {r = r} {r' = r'} same ends = record {
  appends = λ from before text written. alike r r' same (ends.appends from before text written);
}
  where
    alike : {T E F : Type 0} {from told : Option (List ℕ)} {text : List ℕ} {before now : ℕ} (r : Result T E) (r' : Result T F)
        → is_err r' ≡ is_err r → Appends from told text before now r → Appends from told text before now r'
    alike (Ok x) (Ok y) same a = record {
      ok = a.ok;
      prefix = tt;
      counts = record { kept = a.counts.kept; risen = tt; no_fall = a.counts.no_fall };
    }
    alike (Err e) (Err d) same a = record {
      ok = tt;
      prefix = a.prefix;
      counts = record { kept = tt; risen = a.counts.risen; no_fall = a.counts.no_fall };
    }
    alike (Ok x) (Err d) same a = cc
    alike (Err e) (Ok y) same a = cc

-- the texts of the first things, and of a thing that is the next of them
pub Puts-item : {A : Type 0} {s₀ s₁ s₂ : StretchState} {t₀ t₁ t₂ : Option (List ℕ)} {f₀ f₁ f₂ : ℕ}
    (text : A → List ℕ) (things : List A) (i : ℕ) (x : A) → i < length things
    → x ≡ get_or things i x
    → Puts (flat_map text (take i things)) s₀ s₁ t₀ t₁ f₀ f₁
    → Puts (text x) s₁ s₂ t₁ t₂ f₁ f₂
    → Puts (flat_map text (take (i + 1) things)) s₀ s₂ t₀ t₂ f₀ f₂
Puts-item {s₁ = s₁} {s₂ = s₂} {t₁ = t₁} {t₂ = t₂} {f₁ = f₁} {f₂ = f₂} text things i x within same first next =
    Puts-next text things i x within first (subst (λ y. Puts (text y) s₁ s₂ t₁ t₂ f₁ f₂) same next)
