-- The values of planes and of streams.
use Rattle.std.specs.Prelude.{int_le, int_lt, ◌&&◌, if◌then◌else◌, option_and_then, slice_get, IfSome}
use Rattle.std.proofs.Common.{◌≡◌, ℕ, zero, suc, ◌+◌, ◌^◌, ◌≤◌, ◌<◌, min, Bool, true, false, ℤ, pos, ◌-ℤ◌, unsigned_abs, List, [], ◌∷◌, ◌++◌, length, map, get_or, Option, Some, None, Vec, Global, inl, inr, refl, sym, ap, subst, ◌∙◌, arith}
use Rattle.std.specs.Vec.{with_items}
use Rattle.std.proofs.Math.Seq.{get_or-append_seam}
use Rattle.std.proofs.lemmas.Bool.{cases_lt}
use Rattle.std.proofs.lemmas.List.{get_or_past, get_or_append_left, length-append, length-map}
use Rattle.std.proofs.lemmas.Option.{slice_get-get_or, slice_get_past}
use Rattle.corr_model.specs.Cell.{Value}
use Rattle.bit_planes.specs.Planes.{PlanesFields, plane_value}
use Rattle.station_stream.specs.Stream.{StreamFields, AreLevelled, stream_value, windowed}
use Rattle.epoch_run.specs.Levelled.{AllLevelled, IsLevelled}
use Rattle.epoch_run.specs.Streamed.{streamed}
use Rattle.epoch_run.specs.Planes.{chans_value, planed, HoldStreams, HoldChans, HoldEach}
use Rattle.station_stream.proofs.ChansLemmas.{take-kept}
use Rattle.epoch_run.proofs.Streams.{streamed-there, streamed-past}

-- the value of planes that are there or not
abbrev value_of : ℤ → Option PlanesFields → Value
value_of n o = option_and_then (λ (p : PlanesFields). plane_value p n) o

abbrev pub no_planes : PlanesFields
no_planes = record { from = pos 0; to = pos 0; values = [] }

-- a window of a stream holds nothing before it and past it
pub windowed-before : (s : StreamFields) (chan : ℕ) (n : ℤ) → int_le s.from n ≡ false → windowed s chan n ≡ None
windowed-before s chan n before = ap (λ (b : Bool). if b && int_lt n s.to then stream_value s chan n else None) before

pub windowed-past : (s : StreamFields) (chan : ℕ) (n : ℤ) → int_lt n s.to ≡ false → windowed s chan n ≡ None
windowed-past s chan n past = ap (λ (b : Bool). if int_le s.from n && b then stream_value s chan n else None) past ∙ neither (int_le s.from n)
  where
    neither : (b : Bool) → (if b && false then stream_value s chan n else None) ≡ None
    neither true = refl
    neither false = refl

-- a channel that a stream lacks has no values
pub windowed-lacking : (s : StreamFields) (chan : ℕ) (n : ℤ) → length s.values ≤ chan → windowed s chan n ≡ None
windowed-lacking s chan n lacks =
    ap (λ (values : List Value). if int_le s.from n && int_lt n s.to then get_or values (unsigned_abs (n -ℤ s.from)) None else None)
    (get_or_past s.values chan [] lacks)
    ∙ either (int_le s.from n && int_lt n s.to)
  where
    none : Value
    none = None

    either : (b : Bool) → (if b then none else none) ≡ none
    either true = refl
    either false = refl

-- one element more
pub each-more : {A : Type 0} (P : ℕ → A → Type 0) (xs : List A) (x : A) (count : ℕ) → length xs ≡ count
    → ((k : ℕ) (d : A) → k < count → P k (get_or xs k d)) → P count x
    → (k : ℕ) (d : A) → k < count + 1 → P k (get_or (xs ++ x ∷ []) k d)
each-more P xs x count long old new k d h =
    elim (cases_lt k count) [
      | inl q ↦ subst (P k) (sym (get_or_append_left xs (x ∷ []) d k (omega arith))) (old k d q)
      | inr q ↦
          let last : length xs ≡ k = omega arith in
          let here : count ≡ k = omega arith in
          let at : get_or (xs ++ x ∷ []) k d ≡ x = ap (λ j. get_or (xs ++ x ∷ []) j d) (sym last) ∙ get_or-append_seam xs x [] d in
          subst (P k) (sym at) (subst (λ j. P j x) here new)
    ]

-- the value of a channel that is there
pub chans_value-there : (chans : List PlanesFields) (chan : ℕ) (n : ℤ) (d : PlanesFields) → chan < length chans
    → chans_value chans chan n ≡ plane_value (get_or chans chan d) n
chans_value-there chans chan n d h = ap (value_of n) (slice_get-get_or chans chan d h)

-- past the last channel there is none
pub chans_value-past : (chans : List PlanesFields) (chan : ℕ) (n : ℤ) → length chans ≤ chan → chans_value chans chan n ≡ None
chans_value-past chans chan n past = ap (value_of n) (slice_get_past chans chan past)

-- one channel more
pub chans-more : (value : ℕ → ℤ → Value) (chans : List PlanesFields) (p : PlanesFields) (count : ℕ) → length chans ≡ count
    → ((k : ℕ) (n : ℤ) → k < count → chans_value chans k n ≡ value k n)
    → ((n : ℤ) → plane_value p n ≡ value count n)
    → (k : ℕ) (n : ℤ) → k < count + 1 → chans_value (chans ++ p ∷ []) k n ≡ value k n
chans-more value chans p count long old new k n h =
    let inside : k < length (chans ++ p ∷ []) = omega (arith, h, long, length-append chans (p ∷ [])) in
    chans_value-there (chans ++ p ∷ []) k n no_planes inside
    ∙ each-more (λ (j : ℕ) (x : PlanesFields). plane_value x n ≡ value j n) chans p count long
    (λ j d below. sym (chans_value-there chans j n d (omega (arith, below, long))) ∙ old j n below) (new n) k no_planes h

-- planes of each channel of a stream, as far as a channel's number goes
chans_value-held : (s : StreamFields) (chans : List PlanesFields) → HoldChans s chans
    → (chan : ℕ) (n : ℤ) → chan < 2 ^ 32 → chans_value chans chan n ≡ windowed s chan n
chans_value-held s chans hold chan n few =
    elim (cases_lt chan (length chans)) [
      | inl q ↦ hold.values chan n q
      | inr q ↦ chans_value-past chans chan n q ∙ sym (windowed-lacking s chan n (omega (arith, hold.count)))
    ]

-- planes of each stream, as far as a station's number goes
pub HoldStreams-each : (stations : List (List PlanesFields)) (streams : List StreamFields) (count : ℕ) → length stations ≡ count
    → min (length streams) (2 ^ 32) ≤ count
    → ((station chan : ℕ) (n : ℤ) → station < count → chan < 2 ^ 32 → planed stations station chan n ≡ streamed streams station chan n)
    → HoldStreams stations streams
HoldStreams-each stations streams count long all each station chan n small few =
    elim (cases_lt station count) [
      | inl q ↦ each station chan n q few
      | inr q ↦
          ap (λ (chans : List PlanesFields). chans_value chans chan n) (get_or_past stations station [] (omega arith))
          ∙ ap (value_of n) (slice_get_past [] chan (omega arith))
          ∙ sym (streamed-past streams station chan n (omega arith))
    ]

pub some_one : {A : Type 0} (x y : A) → Some x ≡ Some y → x ≡ y
some_one x y e = cc

-- a vector with other items, as many
pub kept_items : {A : Type 0} (v : Vec A Global) (xs : List A) → length xs ≡ length v.items → (with_items v xs).items ≡ xs
kept_items v xs same = take-kept v.items xs v.len v.ok.0 same

-- an element that is there, whatever stands for one that is not
pub there : {A : Type 0} (xs : List A) (i : ℕ) → i < length xs → (x : A) × ((d : A) → get_or xs i d ≡ x)
there [] i h = absurd (omega arith)
there (x ∷ xs) zero h = (x, λ d. refl)
there (x ∷ xs) (suc i) h = there xs i (omega arith)

pub mapped : {A B : Type 0} (f : A → B) (xs : List A) (i : ℕ) (x : A) (e : B) → i < length xs → ((d : A) → get_or xs i d ≡ x) → get_or (map f xs) i e ≡ f x
mapped f [] i x e h is = absurd (omega arith)
mapped f (y ∷ xs) zero x e h is = ap f (is x)
mapped f (y ∷ xs) (suc i) x e h is = mapped f xs i x e (omega arith) is

-- the stream of a station and its planes
HoldEach-at : (streams : List StreamFields) (stations : List (Vec PlanesFields Global)) → HoldEach streams stations
    → (station : ℕ) → station < length stations
    → (s : StreamFields) × (chans : List PlanesFields) × (slice_get streams station ≡ Some s)
    × (get_or (map (λ (v : Vec PlanesFields Global). v.items) stations) station [] ≡ chans) × HoldChans s chans
HoldEach-at streams stations hold station h =
    let few_streams : station < length streams = omega (arith, hold.count) in
    let v = there stations station h in
    let s = there streams station few_streams in
    let is : slice_get streams station ≡ Some s.0 = slice_get-get_or streams station s.0 few_streams ∙ ap Some (s.1 s.0) in
    let hold : HoldChans s.0 v.0.items = subst (λ (w : Vec PlanesFields Global). HoldChans s.0 w.items) (v.1 v.0) (hold.each station v.0 h s.0 is) in
    (s.0, v.0.items, is, mapped (λ (w : Vec PlanesFields Global). w.items) stations station v.0 [] h v.1, hold)

-- planes of every stream that hold the values of its channels
pub HoldEach-streams : (streams : List StreamFields) (stations : List (Vec PlanesFields Global)) → HoldEach streams stations
    → HoldStreams (map (λ (v : Vec PlanesFields Global). v.items) stations) streams
HoldEach-streams streams stations hold =
    HoldStreams-each (map items stations) streams (length stations) (length-map stations items) (omega (arith, hold.count)) each
  where
    items : Vec PlanesFields Global → List PlanesFields
    items v = v.items

    each : (station chan : ℕ) (n : ℤ) → station < length stations → chan < 2 ^ 32 → planed (map items stations) station chan n ≡ streamed streams station chan n
    each station chan n h few =
        let f = HoldEach-at streams stations hold station h in
        ap (λ (chans : List PlanesFields). chans_value chans chan n) f.3
        ∙ chans_value-held f.0 f.1 f.4 chan n few
        ∙ sym (streamed-there streams station chan n f.0 f.2)

-- planes of a stream whose values are levelled hold such values alone
levelled-chans : (s : StreamFields) (chans : List PlanesFields) → HoldChans s chans → IsLevelled s
    → (chan : ℕ) (n : ℤ) → IfSome (chans_value chans chan n) AreLevelled
levelled-chans s chans hold levelled chan n =
    elim (cases_lt chan (length chans)) [
      | inl q ↦
          subst (λ (v : Value). IfSome v AreLevelled) (sym (hold.values chan n q)) (levelled chan n)
      | inr q ↦ subst (λ (v : Value). IfSome v AreLevelled) (sym (chans_value-past chans chan n q)) tt
    ]

-- and so do those of all streams
pub HoldEach-levelled : (streams : List StreamFields) (stations : List (Vec PlanesFields Global)) → HoldEach streams stations
    → AllLevelled (streamed streams) → AllLevelled (planed (map (λ (v : Vec PlanesFields Global). v.items) stations))
HoldEach-levelled streams stations hold all station chan n =
    elim (cases_lt station (length stations)) [
      | inl q ↦
          let f = HoldEach-at streams stations hold station q in
          subst (λ (chans : List PlanesFields). IfSome (chans_value chans chan n) AreLevelled) (sym f.3)
          (levelled-chans f.0 f.1 f.4
          (λ c m. subst (λ (v : Value). IfSome v AreLevelled) (streamed-there streams station c m f.0 f.2) (all station c m)) chan n)
      | inr q ↦
          let past : length (map (λ (v : Vec PlanesFields Global). v.items) stations) ≤ station = omega (arith, length-map stations (λ (v : Vec PlanesFields Global). v.items)) in
          subst (λ (v : Value). IfSome v AreLevelled)
          (sym (ap (λ (chans : List PlanesFields). chans_value chans chan n) (get_or_past (map (λ (v : Vec PlanesFields Global). v.items) stations) station [] past)
          ∙ ap (value_of n) (slice_get_past [] chan (omega arith)))) tt
    ]
