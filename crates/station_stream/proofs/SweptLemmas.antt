-- The frames of sweeps, and the bytes that are taken from them.
use Rattle.std.proofs.Common.{◌≡◌, ◌∙◌, refl, sym, ap, subst, ℕ, ◌+◌, ◌-◌, ◌≤◌, ◌<◌, ◌⊎◌, ⊎_elim, inl, inr, min, max, List, [], ◌∷◌, ◌++◌, length, get_or, slice_index, Option, Some, None, option_and_then, below_more, arith}
use Rattle.std.specs.List.{Contains}
use Rattle.std.specs.Option.{ForSome}
use Rattle.std.proofs.lemmas.Bool.{cases_lt}
use Rattle.std.proofs.lemmas.List.{length-append, get_or_append_left, get_or_push, get_or_default}
use Rattle.std.proofs.lemmas.Option.{slice_get_past}
use Rattle.dev_traits.specs.Told.{WhereTold}
use Rattle.frame_index.specs.Recording.{Shelved}
use Rattle.frame_index.proofs.ToldLemmas.{WhereTold-weaker, WhereTold-both}
use Rattle.value_codes.specs.Codes.{value_of}
use Rattle.station_stream.specs.declared.chan.StationChan.{StationChan}
use Rattle.station_stream.specs.declared.part.StationPart.{StationPart}
use Rattle.station_stream.specs.declared.threads.Threads.{Threads}
use Rattle.station_stream.specs.declared.window.Window.{Window}
use Rattle.station_stream.specs.declared.thread_frames.ThreadFrames.{ThreadFrames}
use Rattle.station_stream.specs.Part.{chan_at, chan_value}
use Rattle.station_stream.specs.Ranges.{IsChanOf}
use Rattle.station_stream.specs.Threads.{AreFramesOf, AreThreads}
use Rattle.station_stream.specs.Filled.{IsBlank, IsFilled}
use Rattle.station_stream.specs.Swept.{IsIn, IsSwept, IsInOne, AreSwept}
use Rattle.station_stream.proofs.ChansLemmas.{chan_at-index}
use Rattle.station_stream.proofs.FillLemmas.{IsPut}

-- ---- a channel of the part

-- it can stand in the part's frames
pub IsChanOf-at : (part : StationPart) (chan : ℕ) (c : StationChan) → chan_at part.chans.now chan ≡ Some c → IsChanOf part.shape c
IsChanOf-at part chan c at =
    ⊎_elim
    (λ there. part.sound.each chan None there c (sym (chan_at-index part.chans.now chan there) ∙ at))
    (λ past. let none : chan_at part.chans.now chan ≡ None = ap (option_and_then (λ d. d)) (slice_get_past part.chans.now chan past) in absurd (cc))
    (cases_lt chan (length part.chans.now))

-- the frames of its thread
pub AreFramesOf-at : (told : Option Shelved) (part : StationPart) (t : Threads) (thread place : ℕ) (f : ThreadFrames) → AreThreads told part t
    → place < length t.numbers.items → slice_index t.numbers.items place ≡ thread → f ≡ get_or t.frames.items place f
    → AreFramesOf told part t.sweep.first t.sweep.last thread f
AreFramesOf-at told part t thread place f are there number is =
    subst (λ (n : ℕ). AreFramesOf told part t.sweep.first t.sweep.last n f) number
    (subst (λ (g : ThreadFrames). AreFramesOf told part t.sweep.first t.sweep.last (slice_index t.numbers.items place) g) (sym is)
    (are.frames place f (omega (arith, there, are.each))))

-- the threads of all channels
pub Contains-each : (part : StationPart) (count : ℕ) (numbers : List ℕ) → length part.chans.now ≤ count
    → ((k : ℕ) → k < count → ForSome (get_or part.chans.now k None) (λ c. Contains numbers c.thread))
    → (chan : ℕ) (c : StationChan) → chan_at part.chans.now chan ≡ Some c → Contains numbers c.thread
Contains-each part count numbers all there chan c at =
    ⊎_elim
    (λ inside. there chan (omega (arith, all, inside)) c (sym (chan_at-index part.chans.now chan inside) ∙ at))
    (λ past. let none : chan_at part.chans.now chan ≡ None = ap (option_and_then (λ d. d)) (slice_get_past part.chans.now chan past) in absurd (cc))
    (cases_lt chan (length part.chans.now))

-- ---- sweeps that are read one behind the other

-- a sample that lies in a sweep lies in it also where one more stands behind
IsInOne-push : (sweeps : List Threads) (t : Threads) (n : ℕ) → IsInOne sweeps n → IsInOne (sweeps ++ t ∷ []) n
IsInOne-push sweeps t n one = record {
  place = one.place;
  there = omega (arith, one.there, length-append sweeps (t ∷ []));
  lies = λ d. subst (IsIn n) (sym (get_or_append_left sweeps (t ∷ []) d one.place one.there)) (one.lies d);
}

IsInOne-last : (sweeps : List Threads) (t : Threads) (n : ℕ) → IsIn n t → IsInOne (sweeps ++ t ∷ []) n
IsInOne-last sweeps t n in_last = record {
  place = length sweeps;
  there = omega (arith, length-append sweeps (t ∷ []));
  lies = λ d. subst (IsIn n) (sym (get_or_push sweeps t d (length sweeps) refl)) in_last;
}

-- one more sweep
pub AreSwept-push : (told : Option Shelved) (part : StationPart) (from at : ℕ) (sweeps : List Threads) (t : Threads)
    → AreSwept told part from at sweeps → IsSwept told part t → t.sweep.from ≡ at
    → AreSwept told part from t.sweep.to (sweeps ++ t ∷ [])
AreSwept-push told part from at sweeps t are one begins = record {
  each = λ i d h. below_more (λ j. (e : Threads) → IsSwept told part (get_or (sweeps ++ t ∷ []) j e)) (length sweeps)
      (λ j under e. subst (IsSwept told part) (sym (get_or_append_left sweeps (t ∷ []) e j under)) (are.each j e under))
      (λ e. subst (IsSwept told part) (sym (get_or_push sweeps t e (length sweeps) refl)) one)
      i (omega (arith, h, length-append sweeps (t ∷ []))) d;
  cover = λ n begun before low high. ⊎_elim
      (λ under. IsInOne-push sweeps t n (are.cover n begun before low under))
      (λ late. IsInOne-last sweeps t n (omega (arith, begins, late), high))
      (cases_lt n at);
}

-- all samples of the part in the window lie before the part's end there
pub AreSwept-all : (told : Option Shelved) (part : StationPart) (from at to : ℕ) (sweeps : List Threads)
    → min (max part.to from) to ≤ at → from ≤ to → AreSwept told part from at sweeps → AreSwept told part from to sweeps
AreSwept-all told part from at to sweeps ends order are = record {
  each = are.each;
  cover = λ n begun before low high. are.cover n begun before low (omega (arith, ends, before, low, high));
}

-- before the part's first sample in the window there is none
pub AreSwept-none : (told : Option Shelved) (part : StationPart) (from at : ℕ) → at ≤ max part.from from → AreSwept told part from at []
AreSwept-none told part from at first = record {
  each = λ i d h. absurd (omega (arith, h));
  cover = λ n begun before low high. absurd (omega (arith, first, begun, low, high));
}

-- sweeps of a window are those of one inside it
pub AreSwept-within : (told : Option Shelved) (part : StationPart) (from to at upto : ℕ) (sweeps : List Threads)
    → from ≤ at → upto ≤ to → AreSwept told part from to sweeps → AreSwept told part at upto sweeps
AreSwept-within told part from to at upto sweeps begun ends are = record {
  each = are.each;
  cover = λ n first before low high. are.cover n first before (omega (arith, begun, low)) (omega (arith, ends, high));
}

-- ---- the bytes of a window

-- the bytes of a sweep, put into those of a window
pub values-put : (told : Option Shelved) (part : StationPart) (chan : StationChan) (w : Window) (t : Threads) (first last at : ℕ) (old mid new : List ℕ)
    → w.from + first ≡ at → at ≡ min (max t.sweep.from w.from) (w.from + w.count) → w.from + last ≡ min (max t.sweep.to w.from) (w.from + w.count)
    → length old ≡ w.count → IsPut first last old mid new
    → WhereTold told (λ c. (k : ℕ) → k < length mid → value_of (get_or mid k 0) ≡ chan_value c part chan (at + k))
    → WhereTold told (λ c. (k : ℕ) → k < length old → IsIn (w.from + k) t → value_of (get_or new k 0) ≡ chan_value c part chan (w.from + k))
values-put told part chan w t first last at old mid new first_is at_is last_is long put values =
    WhereTold-weaker told (λ c. (k : ℕ) → k < length mid → value_of (get_or mid k 0) ≡ chan_value c part chan (at + k))
    (λ c. (k : ℕ) → k < length old → IsIn (w.from + k) t → value_of (get_or new k 0) ≡ chan_value c part chan (w.from + k))
    (λ c are k inside lies.
    let begun : first ≤ k = omega (arith, first_is, at_is, lies.0) in
    let under : k < last = omega (arith, last_is, lies.1, long, inside) in
    let place : at + (k - first) ≡ w.from + k = omega (arith, first_is, begun) in
    ap value_of (put.between k begun under) ∙ are (k - first) (omega (arith, put.count, begun, under)) ∙ ap (chan_value c part chan) place)
    values

-- outside a sweep the bytes stay
pub beside-put : (w : Window) (t : Threads) (first last at : ℕ) (old mid new : List ℕ)
    → w.from + first ≡ at → at ≡ min (max t.sweep.from w.from) (w.from + w.count) → w.from + last ≡ min (max t.sweep.to w.from) (w.from + w.count)
    → length old ≡ w.count → t.sweep.from ≤ t.sweep.to → IsPut first last old mid new
    → (k : ℕ) → (w.from + k < t.sweep.from) ⊎ (t.sweep.to ≤ w.from + k) → get_or new k 0 ≡ get_or old k 0
beside-put w t first last at old mid new first_is at_is last_is long order put k out =
    ⊎_elim
    (λ under. put.under k under)
    (λ late. ⊎_elim
    (λ (before : k < last). absurd (⊎_elim (λ a. omega (arith, first_is, at_is, last_is, late, before, a)) (λ a. omega (arith, first_is, at_is, last_is, late, before, a)) out))
    (λ (past : last ≤ k). put.behind k past)
    (cases_lt k last))
    (cases_lt k first)

-- the values at the samples of the first so many sweeps are there
abbrev pub AreThere : Shelved → StationPart → StationChan → Window → List Threads → ℕ → List ℕ → Type 0
AreThere c part chan w sweeps count codes =
    (j k : ℕ) (d : Threads) → j < count → k < length codes → IsIn (w.from + k) (get_or sweeps j d)
    → value_of (get_or codes k 0) ≡ chan_value c part chan (w.from + k)

-- and those of one more
pub AreThere-more : (told : Option Shelved) (part : StationPart) (chan : StationChan) (w : Window) (sweeps : List Threads) (i : ℕ) (t : Threads) (old new : List ℕ)
    → t ≡ get_or sweeps i t → i < length sweeps → length new ≡ length old
    → ((k : ℕ) → (w.from + k < t.sweep.from) ⊎ (t.sweep.to ≤ w.from + k) → get_or new k 0 ≡ get_or old k 0)
    → WhereTold told (λ c. AreThere c part chan w sweeps i old)
    → WhereTold told (λ c. (k : ℕ) → k < length old → IsIn (w.from + k) t → value_of (get_or new k 0) ≡ chan_value c part chan (w.from + k))
    → WhereTold told (λ c. AreThere c part chan w sweeps (i + 1) new)
AreThere-more told part chan w sweeps i t old new at there same beside were are =
    WhereTold-both told (λ c. AreThere c part chan w sweeps i old)
    (λ c. (k : ℕ) → k < length old → IsIn (w.from + k) t → value_of (get_or new k 0) ≡ chan_value c part chan (w.from + k))
    (λ c. AreThere c part chan w sweeps (i + 1) new)
    (λ c was is j k d h inside lies.
    let long : k < length old = omega (arith, inside, same) in
    below_more (λ m. IsIn (w.from + k) (get_or sweeps m d) → value_of (get_or new k 0) ≡ chan_value c part chan (w.from + k)) i
    (λ m before lies. ⊎_elim
    (λ (under : w.from + k < t.sweep.from). ap value_of (beside k (inl under)) ∙ was m k d before long lies)
    (λ (begun : t.sweep.from ≤ w.from + k). ⊎_elim
    (λ (in_it : w.from + k < t.sweep.to). is k long (begun, in_it))
    (λ (past : t.sweep.to ≤ w.from + k). ap value_of (beside k (inr past)) ∙ was m k d before long lies)
    (cases_lt (w.from + k) t.sweep.to))
    (cases_lt (w.from + k) t.sweep.from))
    (λ last. is k long (subst (IsIn (w.from + k)) (get_or_default sweeps i d t there ∙ sym at) last))
    j h lies)
    were are

-- outside the part the bytes stay 0
pub IsBlank-beside : (part : StationPart) (w : Window) (t : Threads) (old new : List ℕ)
    → part.from ≤ t.sweep.from → t.sweep.to ≤ part.to → length new ≡ length old
    → ((k : ℕ) → (w.from + k < t.sweep.from) ⊎ (t.sweep.to ≤ w.from + k) → get_or new k 0 ≡ get_or old k 0)
    → IsBlank part w old → IsBlank part w new
IsBlank-beside part w t old new begun ends same beside blank = record {
  long = same ∙ blank.long;
  before = λ k h. beside k (inl (omega (arith, begun, h))) ∙ blank.before k h;
  behind = λ k h. beside k (inr (omega (arith, ends, h))) ∙ blank.behind k h;
}

item_of : (sweeps : List Threads) (i : ℕ) → i < length sweeps → Threads
item_of [] i h = absurd (omega (arith, h))
item_of (t ∷ _) i h = t

-- so all of the part's samples in the window are
pub IsFilled-all : (told : Option Shelved) (part : StationPart) (chan : StationChan) (w : Window) (sweeps : List Threads) (count : ℕ) (codes : List ℕ)
    → count ≡ length sweeps → AreSwept told part w.from (w.from + w.count) sweeps → IsBlank part w codes
    → WhereTold told (λ c. AreThere c part chan w sweeps count codes)
    → IsFilled told part chan w part.to codes
IsFilled-all told part chan w sweeps count codes all swept blank there = record {
  blank = blank;
  values = WhereTold-weaker told (λ c. AreThere c part chan w sweeps count codes) _
      (λ c are k inside begun before.
      let one = swept.cover (w.from + k) begun before (omega arith) (omega (arith, inside, blank.long)) in
      are one.place k (item_of sweeps one.place one.there) (omega (arith, all, one.there)) inside (one.lies (item_of sweeps one.place one.there)))
      there;
}
