-- Stations by their keys and by their places.
use Rattle.std.proofs.Common.{◌≡◌, ◌≢◌, ℕ, zero, suc, ◌+◌, ◌-◌, ◌<◌, ◌≤◌, Bool, true, false, cond, List, [], ◌∷◌, ◌++◌, length, map, get_or, set, slice_get, Option, Some, None, refl, sym, ap, ◌∙◌, arith, bytes_eq, eqb, ltb, is_some, inl, inr, ◌⊎◌}
use Rattle.std.specs.List.{AllPairs}
use Rattle.std.proofs.lemmas.List.{get_or-set_same, get_or-set_other, length-set, get_or_append_left, get_or-append_right, get_or_default, length-append, length-map}
use Rattle.std.proofs.lemmas.Bool.Decides.{Decides-eqb}
use borrow.Author.Tests.{ltb-true, ltb-false}
use Rattle.std.proofs.lemmas.Slice.Eq.{bytes_eq-Decides}
use Rattle.named_list.specs.Named.{named, names, put}
use Rattle.std.specs.Prelude.{IfSome, IfNone}
use Rattle.std.proofs.lemmas.List.{get_or-map}
use Rattle.std.proofs.lemmas.List.Elements.{All-push}
use Rattle.num_time.specs.Times.{IsSecond}
use Rattle.delay_poly.specs.declared.entry.PolyEntry.{PolyEntry}
use Rattle.station_clock.specs.declared.entry.ClockEntry.{ClockEntry}
use Rattle.job_text.specs.declared.places.ChanPlace.{ChanPlace}
use Rattle.std.specs.Str.{IsUtf8}
use Rattle.std.specs.List.{list_any}
use Rattle.std.proofs.lemmas.List.{map_push}
use Rattle.std.proofs.lemmas.List.Folds.{list_any_at}
use Rattle.std.proofs.lemmas.List.Quantifiers.{all_pairs_push}
use Rattle.corr_model.specs.Delay.{IsClock}
use Rattle.job_text.specs.Job.{StationFields}
use Rattle.job_text.specs.Ranges.{AreDistinct, IsStationOf, IsChanOf}
use Rattle.std.specs.Option.{option_map_or}
use Rattle.std.proofs.lemmas.Option.{slice_get-get_or}
use Rattle.job_text.specs.declared.fault.JobKind.{JobKind}
use Rattle.job_text.specs.declared.fault.JobKind.TheVariants.{Unknown, Memory}
use Rattle.job_text.specs.Values.{field}
use Rattle.job_text.specs.Faults.{station_with, station_fault}
use Rattle.job_text.specs.Growing.{changed}
use Rattle.job_text.specs.Places.{ArePlaces}
use Rattle.job_lines.proofs.SecondLemmas.{fails, differs}
use Rattle.job_text.proofs.NameLemmas.{same_name, name_from, named-push, or_at, put-new, among-names}

-- the first station of a key stands where no earlier one has it
find-at : (stations : List StationFields) (k : ℕ) (key : List ℕ) (d : StationFields) → k < length stations → bytes_eq (get_or stations k d).key key ≡ true
    → ((j : ℕ) → j < k → bytes_eq (get_or stations j d).key key ≡ false) → station_with stations key ≡ slice_get stations k
find-at [] k key d less here earlier = absurd (omega arith)
find-at (s ∷ ss) zero key d less here earlier = rw here refl
find-at (s ∷ ss) (suc k) key d less here earlier =
    let first : bytes_eq s.key key ≡ false = earlier 0 (omega arith) in
    rw first (find-at ss k key d (omega arith) here (λ j h. earlier (suc j) (omega (arith, h))))

find-none : (stations : List StationFields) (key : List ℕ) (d : StationFields) → ((j : ℕ) → j < length stations → bytes_eq (get_or stations j d).key key ≡ false) → station_with stations key ≡ None
find-none [] key d each = refl
find-none (s ∷ ss) key d each =
    let first : bytes_eq s.key key ≡ false = each 0 (omega arith) in
    rw first (find-none ss key d (λ j h. each (suc j) (omega (arith, h))))

changed-none : (stations : List StationFields) (key : List ℕ) (f : StationFields → StationFields) (d : StationFields) → ((j : ℕ) → j < length stations → bytes_eq (get_or stations j d).key key ≡ false) → changed stations key f ≡ stations
changed-none [] key f d each = refl
changed-none (s ∷ ss) key f d each =
    let first : bytes_eq s.key key ≡ false = each 0 (omega arith) in
    rw first (ap (λ xs. s ∷ xs) (changed-none ss key f d (λ j h. each (suc j) (omega (arith, h)))))

changed-set : (stations : List StationFields) (k : ℕ) (key : List ℕ) (f : StationFields → StationFields) (d : StationFields) → k < length stations → bytes_eq (get_or stations k d).key key ≡ true
    → ((j : ℕ) → j < length stations → j ≢ k → bytes_eq (get_or stations j d).key key ≡ false) → changed stations key f ≡ set stations k (f (get_or stations k d))
changed-set [] k key f d less here others = absurd (omega arith)
changed-set (s ∷ ss) zero key f d less here others =
    rw here (ap (λ xs. f s ∷ xs) (changed-none ss key f d (λ j h. others (suc j) (omega (arith, h)) (omega arith))))
changed-set (s ∷ ss) (suc k) key f d less here others =
    let first : bytes_eq s.key key ≡ false = others 0 (omega arith) (omega arith) in
    rw first (ap (λ xs. s ∷ xs) (changed-set ss k key f d (omega arith) here (λ j h apart. others (suc j) (omega (arith, h)) (omega (arith, apart)))))

module _ {stations : List StationFields} {places : List (List ℕ × ℕ)} (h : ArePlaces stations places) where
  -- a station elsewhere has another key
  other_key : (key : List ℕ) (k j : ℕ) (d : StationFields) → named places key ≡ Some k → j < length stations → j ≢ k → bytes_eq (get_or stations j d).key key ≡ false
  other_key key k j d here less apart =
      fails (bytes_eq (get_or stations j d).key key) ((get_or stations j d).key ≡ key) (bytes_eq-Decides (get_or stations j d).key key)
      (λ same.
      let mine : named places key ≡ Some j = ap (named places) (sym same) ∙ h.at j d less in
      let both : Some j ≡ Some k = sym mine ∙ here in
      let equal : j ≡ k = cc in
      apart equal)

  here_key : (key : List ℕ) (k : ℕ) (d : StationFields) → named places key ≡ Some k → bytes_eq (get_or stations k d).key key ≡ true
  here_key key k d here = (bytes_eq-Decides (get_or stations k d).key key).1 (h.there key k d here)

  pub place-there : (key : List ℕ) (k : ℕ) (d : StationFields) → named places key ≡ Some k → slice_get stations k ≡ station_with stations key
  place-there key k d here =
      sym (find-at stations k key d (h.within key k here) (here_key key k d here)
      (λ j less. other_key key k j d here (let within : k < length stations = h.within key k here in omega arith) (omega arith)))

  pub place-none : (key : List ℕ) (d : StationFields) → named places key ≡ None → station_with stations key ≡ None
  place-none key d none = find-none stations key d (λ j less.
      fails (bytes_eq (get_or stations j d).key key) ((get_or stations j d).key ≡ key) (bytes_eq-Decides (get_or stations j d).key key)
      (λ same.
      let mine : named places key ≡ Some j = ap (named places) (sym same) ∙ h.at j d less in
      let both : Some j ≡ None = sym mine ∙ none in cc))

  -- the station of a key changed is the one at its place set
  pub set-changed : (key : List ℕ) (k : ℕ) (d : StationFields) (f : StationFields → StationFields) → named places key ≡ Some k → set stations k (f (get_or stations k d)) ≡ changed stations key f
  set-changed key k d f here =
      sym (changed-set stations k key f d (h.within key k here) (here_key key k d here) (λ j less apart. other_key key k j d here less apart))

  -- no two stations have one key
  pub keys-differ : (i j : ℕ) (d : StationFields) → i < j → j < length stations → (get_or stations i d).key ≢ (get_or stations j d).key
  keys-differ i j d less within same =
      let one : named places (get_or stations i d).key ≡ Some i = h.at i d (omega arith) in
      let two : named places (get_or stations j d).key ≡ Some j = h.at j d within in
      let both : Some i ≡ Some j = sym one ∙ ap (named places) same ∙ two in
      let equal : i ≡ j = cc in
      omega arith

  -- a station of the same key in the place of another
  pub ArePlaces-set : (k : ℕ) (s d : StationFields) → k < length stations → s.key ≡ (get_or stations k d).key → ArePlaces (set stations k s) places
  ArePlaces-set k s d less same = record {
    at = λ j e within. key_set j e (let long : length (set stations k s) ≡ length stations = length-set stations k s in omega (arith, within, long));
    within = λ key j here. let long : length (set stations k s) ≡ length stations = length-set stations k s in omega (arith, h.within key j here, long);
    there = λ key j e here. keys_same j e (h.within key j here) ∙ h.there key j d here;
  }
    where
      keys_same : (j : ℕ) (e : StationFields) → j < length stations → (get_or (set stations k s) j e).key ≡ (get_or stations j d).key
      keys_same j e within = by (eqb j k) refl
        where
          by : (b : Bool) → eqb j k ≡ b → (get_or (set stations k s) j e).key ≡ (get_or stations j d).key
          by true one =
              let eq : j ≡ k = (Decides-eqb j k).0 one in
              let now : get_or (set stations k s) k e ≡ s = get_or-set_same stations k s e less in
              rw (eq, now) same
          by false one =
              let ne : j ≢ k = differs (eqb j k) (j ≡ k) (Decides-eqb j k) one in
              ap (λ x. x.key) (get_or-set_other stations k j s e ne ∙ get_or_default stations j e d within)

      key_set : (j : ℕ) (e : StationFields) → j < length stations → named places (get_or (set stations k s) j e).key ≡ Some j
      key_set j e within = ap (named places) (keys_same j e within) ∙ h.at j d within

  -- one more station, whose key is new
  pub ArePlaces-push : (s : StationFields) → named places s.key ≡ None → ArePlaces (stations ++ s ∷ []) (put places s.key (length stations))
  ArePlaces-push s new = rw (put-new places s.key (length stations) new) (record {
    at = λ k d less. at_or k d less (ltb k (length stations)) refl;
    within = λ key k here. (found key k here (named places key) refl (bytes_eq s.key key) refl).0;
    there = λ key k d here. (found key k here (named places key) refl (bytes_eq s.key key) refl).1 d;
  })
    where
      n : ℕ
      n = length stations

      more : List (List ℕ × ℕ)
      more = places ++ (s.key, length stations) ∷ []

      last : (d : StationFields) → get_or (stations ++ s ∷ []) (length stations) d ≡ s
      last d = get_or-append_right stations (s ∷ []) (length stations) (length stations) d refl (omega arith) ∙ (let z : length stations - length stations ≡ 0 = omega arith in rw z refl)

      at_or : (k : ℕ) (d : StationFields) → k < length (stations ++ s ∷ []) → (b : Bool) → ltb k (length stations) ≡ b → named (places ++ (s.key, length stations) ∷ []) (get_or (stations ++ s ∷ []) k d).key ≡ Some k
      at_or k d less true in_front =
          let inside : k < length stations = ltb-true k (length stations) in_front in
          let here : named places (get_or stations k d).key ≡ Some k = h.at k d inside in
          rw (get_or_append_left stations (s ∷ []) d k inside, named-push places s.key (get_or stations k d).key (length stations), here) refl
      at_or k d less false behind =
          let long : length (stations ++ s ∷ []) ≡ length stations + 1 = length-append stations (s ∷ []) in
          let out : length stations ≤ k = ltb-false k (length stations) behind in
          let eq : k ≡ length stations = omega (arith, long, less, out) in
          let this : get_or (stations ++ s ∷ []) (length stations) d ≡ s = last d in
          let it : bytes_eq s.key s.key ≡ true = same_name s.key in
          rw (eq, this, named-push places s.key s.key (length stations), new, it) refl

      found : (key : List ℕ) (k : ℕ) → named (places ++ (s.key, length stations) ∷ []) key ≡ Some k → (o : Option ℕ) → named places key ≡ o → (b : Bool) → bytes_eq s.key key ≡ b
          → (k < length (stations ++ s ∷ [])) × ((d : StationFields) → (get_or (stations ++ s ∷ []) k d).key ≡ key)
      found key k here (Some j) was b equal =
          let long : length (stations ++ s ∷ []) ≡ length stations + 1 = length-append stations (s ∷ []) in
          let whole : or_at (Some j) (bytes_eq s.key key) (length stations) ≡ Some k = ap (λ o. or_at o (bytes_eq s.key key) (length stations)) (sym was) ∙ sym (named-push places s.key key (length stations)) ∙ here in
          let same : j ≡ k = cc in
          let inside : j < length stations = h.within key j was in
          (omega (arith, long, same, inside), λ d. rw (← same) (rw (get_or_append_left stations (s ∷ []) d j inside) (h.there key j d was)))
      found key k here None was true equal =
          let long : length (stations ++ s ∷ []) ≡ length stations + 1 = length-append stations (s ∷ []) in
          let whole : or_at None true (length stations) ≡ Some k = ap (λ o. or_at o true (length stations)) (sym was) ∙ ap (λ b. or_at (named places key) b (length stations)) (sym equal) ∙ sym (named-push places s.key key (length stations)) ∙ here in
          let same : length stations ≡ k = cc in
          (omega (arith, long, same), λ d. rw (← same) (rw (last d) (name_from s.key key equal)))
      found key k here None was false equal =
          let whole : or_at None false (length stations) ≡ Some k = ap (λ o. or_at o false (length stations)) (sym was) ∙ ap (λ b. or_at (named places key) b (length stations)) (sym equal) ∙ sym (named-push places s.key key (length stations)) ∙ here in
          absurd cc

-- some station of those that there are
some_station : (stations : List StationFields) → 0 < length stations → StationFields
some_station [] some = absurd (omega arith)
some_station (s ∷ ss) some = s

pub place_there : (stations : List StationFields) (places : List (List ℕ × ℕ)) (h : ArePlaces stations places) (key : List ℕ) (o : Option ℕ) → o ≡ named places key → IfSome o (λ i. slice_get stations i ≡ station_with stations key)
place_there stations places h key None is = tt
place_there stations places h key (Some k) is =
    place-there h key k (some_station stations (let inside : k < length stations = h.within key k (sym is) in omega arith)) (sym is)

pub place_none : (stations : List StationFields) (places : List (List ℕ × ℕ)) (h : ArePlaces stations places) (key : List ℕ) → named places key ≡ None → station_with stations key ≡ None
place_none [] places h key is = refl
place_none (s ∷ ss) places h key is = place-none h key s is

pub place_none_by : (stations : List StationFields) (places : List (List ℕ × ℕ)) (h : ArePlaces stations places) (key : List ℕ) (o : Option ℕ) → o ≡ named places key → IfNone o (station_with stations key ≡ None)
place_none_by stations places h key None is = place_none stations places h key (sym is)
place_none_by stations places h key (Some k) is = tt

there_get : (stations : List StationFields) (k : ℕ) → k < length stations → slice_get stations k ≡ None → ⊥
there_get [] k less none = absurd (omega arith)
there_get (s ∷ ss) zero less none = let odd : Some s ≡ None = none in cc
there_get (s ∷ ss) (suc k) less none = there_get ss k (omega arith) none

-- a key of no station has no place
pub new_key : (stations : List StationFields) (places : List (List ℕ × ℕ)) (h : ArePlaces stations places) (key : List ℕ) → station_with stations key ≡ None → named places key ≡ None
new_key stations places h key none = by (named places key) refl
  where
    by : (o : Option ℕ) → named places key ≡ o → o ≡ None
    by None is = refl
    by (Some k) is =
        let inside : k < length stations = h.within key k is in
        let at : slice_get stations k ≡ station_with stations key = place-there h key k (some_station stations (omega arith)) is in
        absurd (there_get stations k inside (at ∙ none))

pub keys_differ : (stations : List StationFields) (places : List (List ℕ × ℕ)) → ArePlaces stations places → AllPairs (λ x y. x ≢ y) (map (λ s. s.key) stations)
keys_differ [] places h = λ i j d less within same. absurd (omega arith)
keys_differ (s ∷ ss) places h = λ i j d less within same.
    let long : length (map (λ (s : StationFields). s.key) (s ∷ ss)) ≡ length (s ∷ ss) = simp length-map in
    let inside : j < length (s ∷ ss) = omega (arith, within, long) in
    keys-differ h i j s less inside
    (sym (get_or-map (λ (s : StationFields). s.key) (s ∷ ss) i s d (omega (arith, less, inside))) ∙ same ∙ get_or-map (λ (s : StationFields). s.key) (s ∷ ss) j s d inside)

-- one more thing of a station
pub IsStationOf-file : (s : StationFields) (file : List ℕ) → IsStationOf s → IsUtf8 file → IsStationOf (record s { files = s.files ++ file ∷ [] })
IsStationOf-file s file h new = record { key = h.key; shape = h.shape; bits = h.bits; files = All-push IsUtf8 s.files file h.files new; chans = h.chans; distinct = h.distinct; polys = h.polys; clocks = h.clocks }

-- a name that is not there differs from those that are
pub names-push : {A : Type 0} (xs : List (List ℕ × A)) (name : List ℕ) (thing : A) → named xs name ≡ None → AreDistinct (names xs) → AreDistinct (names (xs ++ (name, thing) ∷ []))
names-push {A} xs name thing none h =
    let apart : list_any (λ other. bytes_eq other name) (names xs) ≡ false = sym (among-names xs name) ∙ ap is_some none in
    rw (map_push (λ (x : List ℕ × A). x.0) xs (name, thing)) (all_pairs_push (λ x y. x ≢ y) (names xs) name h
    (λ k d less same.
    let odd : list_any (λ other. bytes_eq other name) (names xs) ≡ true = list_any_at (λ other. bytes_eq other name) (names xs) k d less ((bytes_eq-Decides (get_or (names xs) k d) name).1 same) in
    let both : true ≡ false = sym odd ∙ apart in cc))

pub IsStationOf-chan : (s : StationFields) (chan : List ℕ × ChanPlace) → IsStationOf s → named s.chans chan.0 ≡ None → IsChanOf s chan → IsStationOf (record s { chans = s.chans ++ chan ∷ [] })
IsStationOf-chan s chan h none new = record { key = h.key; shape = h.shape; bits = h.bits; files = h.files; chans = All-push (IsChanOf s) s.chans chan h.chans new; distinct = names-push s.chans chan.0 chan.1 none h.distinct; polys = h.polys; clocks = h.clocks }

pub IsStationOf-clock : (s : StationFields) (entry : ClockEntry) → IsStationOf s → IsClock entry → IsStationOf (record s { clocks = s.clocks ++ entry ∷ [] })
IsStationOf-clock s entry h new = record { key = h.key; shape = h.shape; bits = h.bits; files = h.files; chans = h.chans; distinct = h.distinct; polys = h.polys; clocks = All-push IsClock s.clocks entry h.clocks new }

pub IsStationOf-poly : (s : StationFields) (entry : PolyEntry) → IsStationOf s → IsSecond entry.second → IsStationOf (record s { polys = s.polys ++ entry ∷ [] })
IsStationOf-poly s entry h new = record { key = h.key; shape = h.shape; bits = h.bits; files = h.files; chans = h.chans; distinct = h.distinct; polys = All-push (λ (e : PolyEntry). IsSecond e.second) s.polys entry h.polys new; clocks = h.clocks }

find-passes : (stations : List StationFields) (key : List ℕ) (s : StationFields) → station_with stations key ≡ Some s → bytes_eq s.key key ≡ true
find-passes [] key s is = absurd cc
find-passes (t ∷ ts) key s is = by (bytes_eq t.key key) refl (find-passes ts key s)
  where
    by : (b : Bool) → bytes_eq t.key key ≡ b → (station_with ts key ≡ Some s → bytes_eq s.key key ≡ true) → bytes_eq s.key key ≡ true
    by true e rest =
        let first : station_with (t ∷ ts) key ≡ Some t = rw e refl in
        let both : Some t ≡ Some s = sym first ∙ is in
        let same : t ≡ s = cc in
        rw (← same) e
    by false e rest = rest ((λ i. cond (sym e i) (Some t) (station_with ts key)) ∙ is)

-- What follows at the place that was found for a key: `old` is the station there, and `new` stands in its place.
module _ {stations : List StationFields} {places : List (List ℕ × ℕ)} (h : ArePlaces stations places) (fields : List (List ℕ)) (i : ℕ) (old : StationFields)
    (less : i < length stations) (there : slice_get stations i ≡ station_with stations (field fields 0)) (is : old ≡ get_or stations i old) where
  pub station-here : station_with stations (field fields 0) ≡ Some old
  station-here = sym there ∙ slice_get-get_or stations i old less ∙ ap Some (sym is)

  at-place : named places (field fields 0) ≡ Some i
  at-place =
      let key : old.key ≡ field fields 0 = name_from old.key (field fields 0) (find-passes stations (field fields 0) old station-here) in
      ap (named places) (sym key ∙ ap (λ s. s.key) is) ∙ h.at i old less

  pub fault-here : (fault : StationFields → Option JobKind) → station_fault stations fields fault ≡ fault old
  fault-here fault = ap (λ o. option_map_or fault o (Some Unknown)) station-here

  pub grown-here : (fault : StationFields → Option JobKind) (f : StationFields → StationFields) (new : StationFields) → (fault old ≡ None) × (new ≡ f old)
      → (station_fault stations fields fault ≡ None) × (set stations i new ≡ changed stations (field fields 0) f)
  grown-here fault f new taken =
      (fault-here fault ∙ taken.0, ap (set stations i) (taken.1 ∙ ap f is) ∙ set-changed h (field fields 0) i old f at-place)

  pub refused-here : (fault : StationFields → Option JobKind) (kind : JobKind) → (kind ≡ Memory) ⊎ (fault old ≡ Some kind) → (kind ≡ Memory) ⊎ (station_fault stations fields fault ≡ Some kind)
  refused-here fault kind (inl memory) = inl memory
  refused-here fault kind (inr refused) = inr (fault-here fault ∙ refused)
