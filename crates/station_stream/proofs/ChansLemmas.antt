-- The bytes of a station's channels, one channel after the other.
use Rattle.std.proofs.Common.{◌≡◌, ◌≢◌, refl, sym, ap, subst, ◌∙◌, ℕ, ◌<◌, List, [], ◌∷◌, length, take, drop, ◌++◌, get_or, map, Option, Some, None, option_and_then, Vec, Global, below_more, arith}
use Rattle.std.proofs.lemmas.List.{length-append, take-append-le, take_all, get_or-map, get_or_append_left, get_or_push}
use Rattle.std.proofs.lemmas.Option.{slice_get-get_or}
use Rattle.dev_traits.specs.Told.{WhereTold}
use Rattle.corr_model.specs.Cell.{Value}
use Rattle.frame_index.specs.Recording.{Shelved}
use Rattle.station_stream.specs.declared.chan.StationChan.{StationChan}
use Rattle.station_stream.specs.declared.part.StationPart.{StationPart}
use Rattle.station_stream.specs.declared.window.Window.{Window}
use Rattle.station_stream.specs.Part.{chan_at}
use Rattle.value_codes.specs.Codes.{value_of}
use Rattle.station_stream.specs.Filled.{AreFilled, AllFilled, AllValues}
use Rattle.station_stream.specs.Stream.{AreWhole}
use Rattle.station_stream.specs.Window.{AreValues}
use Rattle.station_stream.proofs.FillLemmas.{AreValues-filled}

-- the channel at a place that there is
pub chan_at-index : (chans : List (Option StationChan)) (i : ℕ) → i < length chans → chan_at chans i ≡ get_or chans i None
chan_at-index chans i h = ap (option_and_then (λ c. c)) (slice_get-get_or chans i None h)

-- what is told of each place is told of all
pub WhereTold-each : {A : Type 0} (told : Option A) (Q : ℕ → Type 0) (P : A → ℕ → Type 0)
    → ((k : ℕ) → Q k → WhereTold told (λ t. P t k)) → WhereTold told (λ t. (k : ℕ) → Q k → P t k)
WhereTold-each None Q P each = tt
WhereTold-each (Some t) Q P each = each

-- ---- the bytes of a window

-- one more channel
pub AllFilled-push : (told : Option Shelved) (part : StationPart) (w : Window) (upto : ℕ) (chans : List (Vec ℕ Global)) (codes : Vec ℕ Global)
    → AllFilled told part w upto chans → AreFilled told part (chan_at part.chans.now (length chans)) w upto codes.items
    → AllFilled told part w upto (chans ++ codes ∷ [])
AllFilled-push told part w upto chans codes are one = λ i d h.
    below_more (λ j. (e : Vec ℕ Global) → AreFilled told part (chan_at part.chans.now j) w upto (get_or (chans ++ codes ∷ []) j e).items) (length chans)
    (λ j under e. subst (λ (v : Vec ℕ Global). AreFilled told part (chan_at part.chans.now j) w upto v.items) (sym (get_or_append_left chans (codes ∷ []) e j under)) (are j e under))
    (λ e. subst (λ (v : Vec ℕ Global). AreFilled told part (chan_at part.chans.now (length chans)) w upto v.items) (sym (get_or_push chans codes e (length chans) refl)) one)
    i (omega (arith, h, length-append chans (codes ∷ []))) d

-- lists behind which nothing of the old ones is kept
pub take-kept : {X : Type 0} (old new : List X) (n : ℕ) → n ≡ length old → length new ≡ length old → take n (new ++ drop (length new) old) ≡ new
take-kept old new n e f =
    take-append-le n new (drop (length new) old) (omega (arith, e, f)) ∙ take_all n new (omega (arith, e, f))

-- ---- a byte for each sample, where there are bytes

-- those of a channel that was filled
whole-filled : (told : Option Shelved) (part : StationPart) (chan : Option StationChan) (w : Window) (upto : ℕ) (codes : List ℕ)
    → AreFilled told part chan w upto codes → length codes ≢ 0 → length codes ≡ w.count
whole-filled told part None w upto codes filled some = absurd (some (ap length filled))
whole-filled told part (Some chan) w upto codes filled some = filled.blank.long

-- and those of each
pub AreWhole-filled : (told : Option Shelved) (part : StationPart) (w : Window) (upto : ℕ) (chans : List (Vec ℕ Global))
    → AllFilled told part w upto chans → AreWhole w.count chans
AreWhole-filled told part w upto chans filled = λ i d h.
    whole-filled told part (chan_at part.chans.now i) w upto (get_or chans i d).items (filled i d h)

-- ---- the values of each channel that is filled up to the part's end

item_of : (chans : List (Vec ℕ Global)) (i : ℕ) → i < length chans → Vec ℕ Global
item_of [] i h = absurd (omega (arith, h))
item_of (codes ∷ _) i h = codes

pub AllValues-filled : (told : Option Shelved) (part : StationPart) (w : Window) (chans : List (Vec ℕ Global))
    → length chans ≡ length part.chans.now → AllFilled told part w part.to chans → WhereTold told (λ t. AllValues t part w.from w.count chans)
AllValues-filled told part w chans each filled =
    WhereTold-each told (λ i. i < length part.chans.now)
    (λ t i. AreValues t part (chan_at part.chans.now i) w.from w.count (get_or (map (λ codes. map value_of codes.items) chans) i []))
    (λ i h.
    let there : i < length chans = omega (arith, each, h) in
    let d : Vec ℕ Global = item_of chans i there in
    subst (λ (values : List Value). WhereTold told (λ t. AreValues t part (chan_at part.chans.now i) w.from w.count values))
    (sym (get_or-map (λ (codes : Vec ℕ Global). map value_of codes.items) chans i d [] there))
    (AreValues-filled told part (chan_at part.chans.now i) w (get_or chans i d).items (filled i d there)))
