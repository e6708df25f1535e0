-- The bytes of a channel in a window: empty, and filled sweep by sweep.
use Rattle.std.proofs.Common.{◌≡◌, ◌∙◌, sym, ap, ℕ, ◌+◌, ◌-◌, ◌≤◌, ◌<◌, ⊎_elim, inl, inr, min, max, List, [], length, get_or, map, Option, Some, None, arith}
use Rattle.std.proofs.lemmas.Bool.{cases_lt}
use Rattle.std.proofs.lemmas.List.{get_or_past, get_or-map}
use borrow.Rule.Slice.PartMut.{put_mid}
use Rattle.dev_traits.specs.Told.{WhereTold}
use Rattle.corr_model.specs.Cell.{Value}
use Rattle.frame_index.specs.Recording.{Shelved}
use Rattle.frame_index.proofs.ToldLemmas.{WhereTold-weaker, WhereTold-always}
use Rattle.station_stream.specs.declared.chan.StationChan.{StationChan}
use Rattle.station_stream.specs.declared.part.StationPart.{StationPart}
use Rattle.station_stream.specs.declared.window.Window.{Window}
use Rattle.value_codes.specs.Codes.{value_of}
use Rattle.station_stream.specs.Filled.{AreValuesBefore, IsBlank, AreFilled}
use Rattle.station_stream.specs.Window.{AreValues}
use Rattle.station_stream.proofs.PartLemmas.{get_or-before, get_or-inside, get_or-behind, length-written}
use Rattle.station_stream.proofs.ValueLemmas.{value_in-inside, value_in-outside, value_in-lacking}

-- ---- filled

-- the bytes from place `at` up to place `to` are others
pub record IsPut (at to : ℕ) (old mid new : List ℕ) : Type 0 where
  pub long : length new ≡ length old
  pub count : at + length mid ≡ to
  pub under : (k : ℕ) → k < at → get_or new k 0 ≡ get_or old k 0
  pub between : (k : ℕ) → at ≤ k → k < to → get_or new k 0 ≡ get_or mid (k - at) 0
  pub behind : (k : ℕ) → to ≤ k → get_or new k 0 ≡ get_or old k 0

-- as a write of a part of a list puts them
pub IsPut-of : (at to : ℕ) (old mid : List ℕ) → at ≤ to → to ≤ length old → length mid ≡ to - at → IsPut at to old mid (put_mid at (to - at) old mid)
IsPut-of at to old mid order inside long =
    let begun : at ≤ length old = omega (arith, order, inside) in
    record {
      long = length-written old mid at (to - at) long (omega (arith, order, inside));
      count = omega (arith, order, long);
      under = λ k h. get_or-before old mid at (to - at) k 0 h begun;
      between = λ k low high.
          let place : at + (k - at) ≡ k = omega (arith, low) in
          ap (λ (i : ℕ). get_or (put_mid at (to - at) old mid) i 0) (sym place) ∙ get_or-inside old mid at (to - at) (k - at) 0 (omega (arith, long, low, high)) begun;
      behind = λ k h. get_or-behind old mid at (to - at) k 0 long (omega (arith, order, h)) begun;
    }

-- ---- blank

-- the bytes of a part of a list that was set to 0
pub IsBlank-cleared : (part : StationPart) (w : Window) (at to : ℕ) (codes cleared new : List ℕ)
    → length codes ≡ w.count → w.from + at ≡ min (max part.from w.from) (w.from + w.count) → w.from + to ≡ min (max part.to w.from) (w.from + w.count)
    → part.from ≤ part.to → length new ≡ length codes
    → ((k : ℕ) → k < at → get_or cleared k 0 ≡ 0)
    → ((k : ℕ) → to ≤ k → k < length new → get_or new k 0 ≡ 0)
    → ((k : ℕ) → k < to → get_or new k 0 ≡ get_or cleared k 0)
    → IsBlank part w new
IsBlank-cleared part w at to codes cleared new long at_is to_is order same first last kept = record {
  long = same ∙ long;
  before = λ k h. ⊎_elim
      (λ (inside : k < length new).
      let under : k < at = omega (arith, at_is, h, inside, same, long) in
      kept k (omega (arith, at_is, to_is, under, order)) ∙ first k under)
      (λ (past : length new ≤ k). get_or_past new k 0 past)
      (cases_lt k (length new));
  behind = λ k h. ⊎_elim
      (λ (inside : k < length new). last k (omega (arith, to_is, h, inside)) inside)
      (λ (past : length new ≤ k). get_or_past new k 0 past)
      (cases_lt k (length new));
}

-- ---- filled up to the part's end

-- the byte 0 is none
value_of-zero : (code : ℕ) → code ≡ 0 → value_of code ≡ None
value_of-zero code e = ap value_of e

-- the values of a channel
pub AreValues-filled : (told : Option Shelved) (part : StationPart) (chan : Option StationChan) (w : Window) (codes : List ℕ)
    → AreFilled told part chan w part.to codes → WhereTold told (λ t. AreValues t part chan w.from w.count (map value_of codes))
AreValues-filled told part None w codes filled =
    WhereTold-always told (λ t. AreValues t part None w.from w.count (map value_of codes))
    (λ t k inside.
    ap (λ (xs : List ℕ). get_or (map value_of xs) k None) filled ∙ get_or_past {X = Value} [] k None (omega arith) ∙ sym (value_in-lacking t part (w.from + k)))
AreValues-filled told part (Some chan) w codes filled =
    WhereTold-weaker told (λ t. AreValuesBefore t part chan w.from part.to codes) (λ t. AreValues t part (Some chan) w.from w.count (map value_of codes))
    (λ t values k inside.
    let there : k < length codes = omega (arith, filled.blank.long, inside) in
    get_or-map value_of codes k 0 None there
    ∙ ⊎_elim
    (λ (under : w.from + k < part.from).
    value_of-zero (get_or codes k 0) (filled.blank.before k under) ∙ sym (value_in-outside t part (Some chan) (w.from + k) (inl under)))
    (λ (begun : part.from ≤ w.from + k). ⊎_elim
    (λ (before : w.from + k < part.to). values k there begun before ∙ sym (value_in-inside t part chan (w.from + k) begun before))
    (λ (past : part.to ≤ w.from + k).
    value_of-zero (get_or codes k 0) (filled.blank.behind k past) ∙ sym (value_in-outside t part (Some chan) (w.from + k) (inr past)))
    (cases_lt (w.from + k) part.to))
    (cases_lt (w.from + k) part.from))
    filled.values

-- bytes that are all 0 are those of a channel that the station lacks
pub AreValues-lacking : (told : Option Shelved) (part : StationPart) (w : Window) (codes : List ℕ)
    → length codes ≡ w.count → ((k : ℕ) → k < length codes → get_or codes k 0 ≡ 0)
    → WhereTold told (λ t. AreValues t part None w.from w.count (map value_of codes))
AreValues-lacking told part w codes long zero =
    WhereTold-always told (λ t. AreValues t part None w.from w.count (map value_of codes))
    (λ t k inside.
    let there : k < length codes = omega (arith, long, inside) in
    get_or-map value_of codes k 0 None there ∙ value_of-zero (get_or codes k 0) (zero k there) ∙ sym (value_in-lacking t part (w.from + k)))
