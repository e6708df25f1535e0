-- The value of a channel in a part, and in the frames of its thread.
use Rattle.std.proofs.Common.{◌≡◌, ℕ, ◌+◌, ◌≤◌, ◌<◌, ◌⊎◌, Bool, true, false, ℤ, pos, List, get_or, Option, Some, None, option_map, option_and_then, ap, sym, ◌∙◌, cond, nat_le, nat_lt, refl, arith}
use Rattle.std.proofs.lemmas.Bool.Decides.{nat_tests}
use Rattle.std.proofs.lemmas.Int.{ints}
use Rattle.dev_traits.specs.Told.{WhereTold}
use Rattle.corr_model.specs.Cell.{Value}
use Rattle.corr_model.specs.Delay.{delay_at}
use Rattle.corr_model.specs.Rotated.{value_at, turned, band_sector}
use Rattle.delay_track.specs.Track.{model_of}
use Rattle.frame_index.specs.Recording.{Shelved}
use Rattle.frame_index.proofs.ToldLemmas.{WhereTold-weaker}
use Rattle.job_plan.specs.Values.{is_within}
use Rattle.station_stream.specs.declared.chan.StationChan.{StationChan}
use Rattle.station_stream.specs.declared.part.StationPart.{StationPart}
use Rattle.station_stream.specs.declared.thread_frames.ThreadFrames.{ThreadFrames}
use Rattle.station_stream.specs.Ranges.{IsChanOf}
use Rattle.station_stream.specs.Part.{chan_sample, chan_value}
use Rattle.station_stream.specs.Sweep.{recorded_at, LieIn}
use Rattle.station_stream.specs.ThreadFrames.{level_in_frames, value_in_frames}
use Rattle.station_stream.specs.Threads.{AreThreadSamples, AreFramesOf}
use Rattle.station_stream.specs.Window.{value_in}
use Rattle.value_codes.specs.Codes.{value_of}

-- ---- in a part

is_within-inside : (n from to : ℕ) → from ≤ n → n < to → is_within (pos n) from to ≡ true
is_within-inside n from to begun before =
    let not_under : nat_le from n ≡ true = grind (arith, nat_tests) in
    let under : nat_lt n to ≡ true = grind (arith, nat_tests) in
    simp (not_under, under) refl

-- inside the part
pub value_in-inside : (told : Shelved) (p : StationPart) (c : StationChan) (n : ℕ) → p.from ≤ n → n < p.to → value_in told p (Some c) n ≡ chan_value told p c n
value_in-inside told p c n begun before = ap (λ (b : Bool). cond b (chan_value told p c n) None) (is_within-inside n p.from p.to begun before)

-- there is no value outside the part
pub value_in-outside : (told : Shelved) (p : StationPart) (chan : Option StationChan) (n : ℕ) → (n < p.from) ⊎ (p.to ≤ n) → value_in told p chan n ≡ None
value_in-outside told p chan n out =
    ap (λ (b : Bool). cond b (option_and_then (λ c. chan_value told p c n) chan) None) (no out)
  where
    no : (n < p.from) ⊎ (p.to ≤ n) → is_within (pos n) p.from p.to ≡ false
    no h = grind (arith, ints, nat_tests)

-- and none of a channel that the station lacks
pub value_in-lacking : (told : Shelved) (p : StationPart) (n : ℕ) → value_in told p None n ≡ None
value_in-lacking told p n = none (is_within (pos n) p.from p.to)
  where
    none : (b : Bool) → cond {A = Value} b None None ≡ None
    none true = refl
    none false = refl

-- ---- in the frames of its thread

-- the level there, turned by the sector of the delay
pub value_in_frames-level : (p : StationPart) (c : StationChan) (f : ThreadFrames) (n : ℕ)
    → option_map (λ l. turned l (band_sector (record { hertz = c.hertz; upper = c.upper }) p.track.rate (delay_at (model_of p.track) n)))
    (level_in_frames p.shape f c.index (recorded_at p.track n))
    ≡ value_in_frames p c f n
unfolding value_at
value_in_frames-level p c f n = refl

-- it is that of the recording whose level is the same
value_in_frames-sample : (told : Shelved) (p : StationPart) (c : StationChan) (f : ThreadFrames) (n : ℕ)
    → chan_sample told p c (recorded_at p.track n) ≡ level_in_frames p.shape f c.index (recorded_at p.track n)
    → value_in_frames p c f n ≡ chan_value told p c n
unfolding value_at
value_in_frames-sample told p c f n same =
    ap (option_map (λ l. turned l (band_sector (record { hertz = c.hertz; upper = c.upper }) p.track.rate (delay_at (model_of p.track) n)))) (sym same)

-- the bytes of values in the frames of a sweep are those of the recording
pub value_of-frames : (told : Option Shelved) (p : StationPart) (c : StationChan) (f : ThreadFrames) (first last : ℤ) (from count : ℕ) (codes : List ℕ)
    → IsChanOf p.shape c → LieIn p.track from (from + count) first last → AreFramesOf told p first last c.thread f
    → ((k : ℕ) → k < count → value_of (get_or codes k 0) ≡ value_in_frames p c f (from + k))
    → WhereTold told (λ t. (k : ℕ) → k < count → value_of (get_or codes k 0) ≡ chan_value t p c (from + k))
value_of-frames told p c f first last from count codes is lie frames values =
    WhereTold-weaker told (λ t. AreThreadSamples t p first last c.thread f) (λ t. (k : ℕ) → k < count → value_of (get_or codes k 0) ≡ chan_value t p c (from + k))
    (λ t samples k h.
    let there = lie (from + k) (omega arith) (omega (arith, h)) in
    values k h ∙ value_in_frames-sample t p c f (from + k) (samples c is refl (recorded_at p.track (from + k)) there.0 there.1))
    frames.samples
