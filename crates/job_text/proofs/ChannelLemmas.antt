-- The names of the stations' channels.
use Rattle.std.proofs.Common.{◌≡◌, ℕ, zero, suc, ◌<◌, Bool, true, false, cond, ◌||◌, List, [], ◌∷◌, ◌++◌, length, get_or, set, ◌-◌, ◌^◌, Option, Some, None, is_some, option_to_list, refl, sym, ap, subst, ◌∙◌, arith, bytes_eq}
use Rattle.std.specs.Prelude.{IfSome}
use Rattle.std.specs.List.{All}
use Rattle.std.proofs.lemmas.List.Folds.{list_any-append}
use Rattle.std.proofs.lemmas.List.Elements.{All-head, All-tail, All-push, All-set}
use Rattle.named_list.specs.Named.{named, put}
use Rattle.job_text.specs.declared.places.ChanPlace.{ChanPlace}
use Rattle.job_text.specs.declared.part.Part.{Part}
use Rattle.job_text.specs.declared.part.Part.TheVariants.{File, Chan, Clock, Poly}
use Rattle.job_text.specs.Values.{◌>>=◌, field, name_fits, number_within, chan_in}
use Rattle.job_text.specs.Job.{StationFields}
use Rattle.job_text.specs.Ranges.{IsName, IsStationOf, IsChanOf}
use Rattle.job_text.specs.Faults.{has_channel}
use Rattle.job_text.specs.Faults.{double_or_range, chan_fault, part_fault}
use Rattle.job_text.specs.Growing.{with_chan, with_part}
use Rattle.job_text.specs.Places.{AreIndexed, with_name}
use Rattle.job_text.proofs.NameLemmas.{name_from, is_some-push}
use Rattle.job_text.proofs.StationLemmas.{ArePlaces-set, ArePlaces-push}

or_false : (b : Bool) → (b || false) ≡ b
or_false true = refl
or_false false = refl

or_swap : (a b c : Bool) → ((a || b) || c) ≡ ((a || c) || b)
or_swap true b c = refl
or_swap false true true = refl
or_swap false true false = refl
or_swap false false true = refl
or_swap false false false = refl

or_assoc : (a b c : Bool) → (a || (b || c)) ≡ ((a || b) || c)
or_assoc true b c = refl
or_assoc false b c = refl

-- a channel's name among those of stations of which one is set
has_channel-set : (stations : List StationFields) (i : ℕ) (s d : StationFields) (x : List ℕ) (b : Bool) → i < length stations
    → is_some (named s.chans x) ≡ (is_some (named (get_or stations i d).chans x) || b) → has_channel (set stations i s) x ≡ (has_channel stations x || b)
has_channel-set [] i s d x b less same = absurd (omega arith)
has_channel-set (t ∷ ts) zero s d x b less same = ap (λ c. c || has_channel ts x) same ∙ or_swap (is_some (named t.chans x)) b (has_channel ts x)
has_channel-set (t ∷ ts) (suc i) s d x b less same = ap (λ c. is_some (named t.chans x) || c) (has_channel-set ts i s d x b (omega arith) same) ∙ or_assoc (is_some (named t.chans x)) (has_channel ts x) b

-- whether a name is there behind what is put under one
is_some-put : {A : Type 0} (xs : List (List ℕ × A)) (name other : List ℕ) (thing : A) → is_some (named (put xs name thing) other) ≡ (is_some (named xs other) || bytes_eq name other)
is_some-put {A} [] name other thing = by (bytes_eq name other)
  where
    by : (b : Bool) → is_some (cond b (Some thing) None) ≡ (is_some {T = A} None || b)
    by true = refl
    by false = refl
is_some-put {A} (x ∷ xs) name other thing = by (bytes_eq x.0 name) refl (bytes_eq x.0 other) refl (is_some-put xs name other thing)
  where
    by : (b : Bool) → bytes_eq x.0 name ≡ b → (c : Bool) → bytes_eq x.0 other ≡ c → is_some (named (put xs name thing) other) ≡ (is_some (named xs other) || bytes_eq name other)
        → is_some (named (put (x ∷ xs) name thing) other) ≡ (is_some (named (x ∷ xs) other) || bytes_eq name other)
    by true e true f rest = rw (e, f) refl
    by true e false f rest =
        let same : bytes_eq name other ≡ false = ap (λ n. bytes_eq n other) (sym (name_from x.0 name e)) ∙ f in
        rw (e, f, same) (sym (or_false (is_some (named xs other))))
    by false e true f rest = rw (e, f) refl
    by false e false f rest = rw (e, f) rest

-- the name of a channel that a line says
chan_in-name : (chans : ℕ) (fields : List (List ℕ)) → IfSome (chan_in chans fields) (λ (c : List ℕ × ChanPlace). c.0 ≡ field fields 1)
unfolding chan_in
chan_in-name chans fields = by (number_within 0 1023 (field fields 2)) (number_within 0 (chans - 1) (field fields 3)) (name_fits (field fields 1))
  where
    by : (a o : Option ℕ) (b : Bool) → IfSome (a >>= (λ thread. o >>= (λ index. cond b (Some (field fields 1, record { thread = thread; index = index })) None))) (λ (c : List ℕ × ChanPlace). c.0 ≡ field fields 1)
    by None o b = tt
    by (Some thread) None b = tt
    by (Some thread) (Some index) true = refl
    by (Some thread) (Some index) false = tt

module _ {T : Type 0} {stations : List StationFields} {places : List (List ℕ × ℕ)} {channels : List (List ℕ × T)} (h : AreIndexed stations places channels) where
  -- a station in the place of one of the same key and the same channels
  pub AreIndexed-set : (i : ℕ) (s d : StationFields) → i < length stations → s.key ≡ (get_or stations i d).key → IsStationOf s → s.chans ≡ (get_or stations i d).chans → AreIndexed (set stations i s) places channels
  AreIndexed-set i s d less key sound chans = record {
    at_places = ArePlaces-set h.at_places i s d less key;
    each = All-set IsStationOf stations i s sound h.each;
    has_names = λ x. h.has_names x
        ∙ sym (has_channel-set stations i s d x false less (ap (λ c. is_some (named c x)) chans ∙ sym (or_false (is_some (named (get_or stations i d).chans x)))) ∙ or_false (has_channel stations x));
  }

  -- one with one more channel
  pub AreIndexed-chan : (i : ℕ) (s d : StationFields) (name : List ℕ) (thing : T) (chan : List ℕ × ChanPlace) → i < length stations → s.key ≡ (get_or stations i d).key → IsStationOf s
      → chan.0 ≡ name → s.chans ≡ (get_or stations i d).chans ++ chan ∷ [] → AreIndexed (set stations i s) places (put channels name thing)
  AreIndexed-chan i s d name thing chan less key sound is chans = record {
    at_places = ArePlaces-set h.at_places i s d less key;
    each = All-set IsStationOf stations i s sound h.each;
    has_names = λ x. is_some-put channels name x thing
        ∙ ap (λ b. b || bytes_eq name x) (h.has_names x)
        ∙ sym (has_channel-set stations i s d x (bytes_eq name x) less
        (ap (λ c. is_some (named c x)) chans ∙ is_some-push (get_or stations i d).chans chan.0 x chan.1 ∙ ap (λ n. is_some (named (get_or stations i d).chans x) || bytes_eq n x) is));
  }

  -- one with what a line says of its channels
  AreIndexed-with_chan : (fields : List (List ℕ)) (i : ℕ) (s d : StationFields) (thing : T) → i < length stations → d ≡ get_or stations i d → (chan_fault fields d ≡ None) × (s ≡ with_chan fields d) → IsStationOf s
      → AreIndexed (set stations i s) places (put channels (field fields 1) thing)
  unfolding chan_fault
  AreIndexed-with_chan fields i s d thing less old taken sound = by (chan_in (2 ^ d.chans_log2) fields) (chan_in-name (2 ^ d.chans_log2) fields) (is_some (named d.chans (field fields 1))) taken.0 taken.1
    where
      by : (o : Option (List ℕ × ChanPlace)) → IfSome o (λ (c : List ℕ × ChanPlace). c.0 ≡ field fields 1) → (again : Bool) → double_or_range again o ≡ None → s ≡ record d { chans = d.chans ++ option_to_list o }
          → AreIndexed (set stations i s) places (put channels (field fields 1) thing)
      by (Some chan) name again free is = AreIndexed-chan i s d (field fields 1) thing chan less (ap (λ s. s.key) is ∙ ap (λ s. s.key) old) sound name (ap (λ s. s.chans) is ∙ ap (λ s. s.chans ++ chan ∷ []) old)
      by None name true free is = absurd cc
      by None name false free is = absurd cc

  -- one with what a line says of a part
  pub AreIndexed-part : (part : Part) (fields : List (List ℕ)) (i : ℕ) (s d : StationFields) (thing : T) → i < length stations → d ≡ get_or stations i d
      → (part_fault part fields d ≡ None) × (s ≡ with_part part fields d) → IsStationOf s → AreIndexed (set stations i s) places (with_name part (field fields 1) thing channels)
  AreIndexed-part Chan fields i s d thing less old taken sound = AreIndexed-with_chan fields i s d thing less old taken sound
  AreIndexed-part File fields i s d thing less old taken sound = AreIndexed-set i s d less (ap (λ s. s.key) taken.1 ∙ ap (λ s. s.key) old) sound (ap (λ s. s.chans) taken.1 ∙ ap (λ s. s.chans) old)
  AreIndexed-part Clock fields i s d thing less old taken sound = AreIndexed-set i s d less (ap (λ s. s.key) taken.1 ∙ ap (λ s. s.key) old) sound (ap (λ s. s.chans) taken.1 ∙ ap (λ s. s.chans) old)
  AreIndexed-part Poly fields i s d thing less old taken sound = AreIndexed-set i s d less (ap (λ s. s.key) taken.1 ∙ ap (λ s. s.key) old) sound (ap (λ s. s.chans) taken.1 ∙ ap (λ s. s.chans) old)

  -- one more station, without channels
  pub AreIndexed-push : (s : StationFields) → named places s.key ≡ None → s.chans ≡ [] → IsStationOf s → AreIndexed (stations ++ s ∷ []) (put places s.key (length stations)) channels
  AreIndexed-push s new bare sound = record {
    at_places = ArePlaces-push h.at_places s new;
    each = All-push IsStationOf stations s h.each sound;
    has_names = λ x. h.has_names x
        ∙ sym (list_any-append (λ (t : StationFields). is_some (named t.chans x)) stations (s ∷ [])
        ∙ ap (λ b. has_channel stations x || b) (ap (λ c. is_some (named c x) || false) bare) ∙ or_false (has_channel stations x));
  }

-- what stands under a name has what all have
named-All : {A : Type 0} (P : List ℕ × A → Type 0) (xs : List (List ℕ × A)) (name : List ℕ) → All P xs → is_some (named xs name) ≡ true → (thing : A) × P (name, thing)
named-All P [] name each some = absurd cc
named-All {A} P (x ∷ xs) name each some = by (bytes_eq x.0 name) refl (λ rest. named-All P xs name (All-tail P x xs each) rest)
  where
    by : (b : Bool) → bytes_eq x.0 name ≡ b → (is_some (named xs name) ≡ true → (thing : A) × P (name, thing)) → (thing : A) × P (name, thing)
    by true e rest = (x.1, let is : x.0 ≡ name = name_from x.0 name e in subst (λ (n : List ℕ). P (n, x.1)) is (All-head P x xs each))
    by false e rest = rest ((λ i. is_some (cond (sym e i) (Some x.1) (named xs name))) ∙ some)

-- a channel of a station has a name that the records can hold
pub has_channel-name : (stations : List StationFields) (x : List ℕ) → All IsStationOf stations → has_channel stations x ≡ true → IsName x
has_channel-name [] x each some = absurd cc
has_channel-name (s ∷ ss) x each some = by (is_some (named s.chans x)) refl (λ rest. has_channel-name ss x (All-tail IsStationOf s ss each) rest)
  where
    by : (b : Bool) → is_some (named s.chans x) ≡ b → (has_channel ss x ≡ true → IsName x) → IsName x
    by true e rest =
        let sound : IsStationOf s = All-head IsStationOf s ss each in
        (named-All (IsChanOf s) s.chans x sound.chans e).1.0
    by false e rest = rest (ap (λ b. b || has_channel ss x) (sym e) ∙ some)
