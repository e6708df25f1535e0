-- Frames of a station's part of a scan, whichever way the part is put together.
use Rattle.std.proofs.Common.{◌≡◌, ◌∙◌, refl, sym, ap, subst, ℕ, ℤ, ◌+◌, ◌≤◌, ◌<◌, pos, ◌+ℤ◌, ◌≤ℤ◌, ◌<ℤ◌, List, length, get_or, map, Option, Some, None, arith}
use Rattle.std.specs.List.{slice_get}
use Rattle.std.proofs.lemmas.List.{get_or-map}
use Rattle.std.proofs.lemmas.Option.{slice_get_read}
use Rattle.dev_traits.specs.Told.{WhereTold}
use Rattle.corr_model.specs.Sample.{Timing, sample_of}
use Rattle.corr_model.specs.Delay.{DelayModel, whole_at}
use Rattle.vdif_frame.specs.Shape.{ShapeFields}
use Rattle.delay_track.specs.Track.{model_of}
use Rattle.frame_index.specs.declared.recording.FileRef.{FileRef}
use Rattle.frame_index.specs.Recording.{Shelved, bytes_on}
use Rattle.frame_index.proofs.ToldLemmas.{WhereTold-weaker}
use Rattle.job_plan.specs.declared.plan.StationPlan.{StationPlan}
use Rattle.job_plan.specs.declared.plan.StayPlan.{StayPlan}
use Rattle.job_plan.specs.declared.plan.ScanPlan.{ScanPlan}
use Rattle.job_plan.specs.declared.plan.Plan.{Plan}
use Rattle.job_plan.specs.Values.{stay_value}
use Rattle.value_codes.specs.Codes.{value_of}
use Rattle.station_stream.specs.declared.chan.StationChan.{StationChan}
use Rattle.station_stream.specs.declared.part.StationPart.{StationPart}
use Rattle.station_stream.specs.declared.recording.Recording.{Recording}
use Rattle.station_stream.specs.declared.thread_frames.ThreadFrames.{ThreadFrames}
use Rattle.station_stream.specs.declared.threads.Threads.{Threads}
use Rattle.station_stream.specs.Part.{IsIndexed, chan_at, chan_sample, part_value, timing_of}
use Rattle.station_stream.specs.Ranges.{IsChanOf}
use Rattle.station_stream.specs.StayParts.{IsPartOf}
use Rattle.station_stream.specs.declared.stay_frames.StayFrames.{StayFrames}
use Rattle.station_stream.specs.Recorded.{AreNamed, AreRecorded}
use Rattle.station_stream.specs.StayFrames.{HoldFrames, HoldPart, HoldStay, IsPartOfStay}
use Rattle.station_stream.specs.Swept.{IsSwept, AreSwept}
use Rattle.station_stream.specs.ThreadFrames.{Reach, level_in_frames}
use Rattle.station_stream.specs.Threads.{AreThreadSamples, AreFramesOf, AreThreads}
use Rattle.station_stream.specs.Window.{AreValues}
use Rattle.station_stream.proofs.StayPartLemmas.{IsIndexed-part, part_value-stay_value}

-- ---- parts that are alike

-- two parts of the same files, frames, delays, samples and channels
pub record AreAlike (p q : StationPart) : Type 0 where
  pub files : p.files.now ≡ q.files.now
  pub shape : p.shape ≡ q.shape
  pub model : model_of p.track ≡ model_of q.track
  pub from : p.from ≡ q.from
  pub to : p.to ≡ q.to
  pub chans : (chan : ℕ) → chan_at p.chans.now chan ≡ chan_at q.chans.now chan

pub AreAlike-of : (plan : Plan) (scan : ScanPlan) (s : StationPlan) (stay : StayPlan) (r : Recording) (p q : StationPart)
    → IsPartOf plan scan s stay r p → IsPartOf plan scan s stay r q → AreAlike p q
AreAlike-of plan scan s stay r p q a b = record {
  files = a.files ∙ sym b.files;
  shape = a.shape ∙ sym b.shape;
  model = a.model ∙ sym b.model;
  from = a.from ∙ sym b.from;
  to = a.to ∙ sym b.to;
  chans = λ chan. a.chans chan ∙ sym (b.chans chan);
}

-- the frames of both are seen from the scan at the same times
timing_of-alike : (p q : StationPart) → AreAlike p q → timing_of p ≡ timing_of q
timing_of-alike p q alike =
    ap (λ (s : ShapeFields). record { shape = s; start = p.track.second; rate = p.track.rate }) alike.shape
    ∙ ap (λ (m : DelayModel). record { shape = q.shape; start = m.start; rate = m.rate }) alike.model

chan_sample-alike : (told : Shelved) (p q : StationPart) (c : StationChan) (n : ℤ) → AreAlike p q → chan_sample told p c n ≡ chan_sample told q c n
chan_sample-alike told p q c n alike =
    ap (λ (t : Timing). sample_of t (record { thread = c.thread; index = c.index }) (bytes_on told p.files.now) n) (timing_of-alike p q alike)
    ∙ ap (λ (files : List FileRef). sample_of (timing_of q) (record { thread = c.thread; index = c.index }) (bytes_on told files) n) alike.files

AreFramesOf-alike : (told : Option Shelved) (p q : StationPart) (first last : ℤ) (thread : ℕ) (f : ThreadFrames) → AreAlike p q
    → AreFramesOf told p first last thread f → AreFramesOf told q first last thread f
AreFramesOf-alike told p q first last thread f alike are = record {
  reach = subst (λ (s : ShapeFields). Reach s first last f) alike.shape are.reach;
  samples = WhereTold-weaker told (λ t. AreThreadSamples t p first last thread f) (λ t. AreThreadSamples t q first last thread f)
      (λ t samples chan is same n low high.
      sym (chan_sample-alike t p q chan n alike)
      ∙ samples chan (subst (λ (s : ShapeFields). IsChanOf s chan) (sym alike.shape) is) same n low high
      ∙ ap (λ (s : ShapeFields). level_in_frames s f chan.index n) alike.shape)
      are.samples;
}

AreThreads-alike : (told : Option Shelved) (p q : StationPart) (t : Threads) → AreAlike p q → AreThreads told p t → AreThreads told q t
AreThreads-alike told p q t alike are = record {
  each = are.each;
  frames = λ i d h. AreFramesOf-alike told p q t.sweep.first t.sweep.last _ _ alike (are.frames i d h);
}

IsSwept-alike : (told : Option Shelved) (p q : StationPart) (t : Threads) → AreAlike p q → IsSwept told p t → IsSwept told q t
IsSwept-alike told p q t alike is = record {
  begun = subst (λ (n : ℕ). n ≤ t.sweep.from) alike.from is.begun;
  order = is.order;
  ends = subst (λ (n : ℕ). t.sweep.to ≤ n) alike.to is.ends;
  lie = λ n low high.
      subst (λ (m : DelayModel). (t.sweep.first ≤ℤ (pos n +ℤ whole_at m n)) × ((pos n +ℤ whole_at m n) <ℤ t.sweep.last)) alike.model (is.lie n low high);
  threads = AreThreads-alike told p q t alike is.threads;
  each = λ chan c at. is.each chan c (alike.chans chan ∙ at);
}

pub AreSwept-alike : (told : Option Shelved) (p q : StationPart) (from to : ℕ) (sweeps : List Threads) → AreAlike p q
    → AreSwept told p from to sweeps → AreSwept told q from to sweeps
AreSwept-alike told p q from to sweeps alike are = record {
  each = λ i d h. IsSwept-alike told p q (get_or sweeps i d) alike (are.each i d h);
  cover = λ n begun before. are.cover n (subst (λ (m : ℕ). m ≤ n) (sym alike.from) begun) (subst (λ (m : ℕ). n < m) (sym alike.to) before);
}

-- ---- frames of which nothing is told

AreThreads-untold : (told : Option Shelved) (p : StationPart) (t : Threads) → AreThreads told p t → AreThreads None p t
AreThreads-untold told p t are = record {
  each = are.each;
  frames = λ i d h. record { reach = (are.frames i d h).reach; samples = tt };
}

IsSwept-untold : (told : Option Shelved) (p : StationPart) (t : Threads) → IsSwept told p t → IsSwept None p t
IsSwept-untold told p t is = record {
  begun = is.begun;
  order = is.order;
  ends = is.ends;
  lie = is.lie;
  threads = AreThreads-untold told p t is.threads;
  each = is.each;
}

-- frames that are those of what is told reach as far where nothing is
pub AreSwept-untold : (told : Option Shelved) (p : StationPart) (from to : ℕ) (sweeps : List Threads)
    → AreSwept told p from to sweeps → AreSwept None p from to sweeps
AreSwept-untold told p from to sweeps are = record {
  each = λ i d h. IsSwept-untold told p (get_or sweeps i d) (are.each i d h);
  cover = are.cover;
}

pub HoldStay-untold : (told : Option Shelved) (plan : Plan) (scan : ScanPlan) (stay : StayPlan) (recordings : List Recording) (f : StayFrames)
    → HoldStay told plan scan stay recordings f → HoldStay None plan scan stay recordings f
HoldStay-untold told plan scan stay recordings f held = record {
  of = λ s r at named. let own = held.of s r at named in record {
    each = own.each;
    chans = own.chans;
    ranges = own.ranges;
    swept = λ part is. AreSwept-untold told part f.from f.to f.sweeps.items (own.swept part is);
  };
}

-- ---- of one station and one recording

-- the item at a place of a list that is read
pub slice_get-item : {X : Type 0} (xs ys : List X) (i : ℕ) (x : X) → xs ≡ ys → i < length ys → x ≡ get_or xs i x → slice_get ys i ≡ Some x
slice_get-item xs ys i x same there is = slice_get_read ys (length ys) i x refl there (is ∙ ap (λ zs. get_or zs i x) same)

-- the station and the recording at a place
pub record StandAt (plan : Plan) (recordings : List Recording) (number : ℕ) (s : StationPlan) (r : Recording) : Type 0 where
  pub station : slice_get plan.stations number ≡ Some s
  pub recording : slice_get recordings number ≡ Some r

-- as they are read
pub StandAt-read : (plan : Plan) (recordings : List Recording) (number : ℕ) (s : StationPlan) (r : Recording) (stations : List StationPlan)
    → stations ≡ plan.stations → number < length plan.stations → AreNamed plan.stations recordings
    → s ≡ get_or stations number s → r ≡ get_or recordings number r → StandAt plan recordings number s r
StandAt-read plan recordings number s r stations same there named station recording = record {
  station = slice_get-item stations plan.stations number s same there station;
  recording = slice_get_read recordings _ number r refl (omega (arith, named.each, there)) recording;
}

-- the index of the recording is that of the files of the station's part
pub IsIndexed-stay : (told : Option Shelved) (plan : Plan) (scan : ScanPlan) (stay : StayPlan) (recordings : List Recording) (s : StationPlan) (r : Recording)
    (part : StationPart) → StandAt plan recordings stay.station s r → IsPartOf plan scan s stay r part
    → WhereTold told (λ files. AreRecorded files plan.stations recordings) → WhereTold told (λ files. IsIndexed files part r.index)
IsIndexed-stay told plan scan stay recordings s r part at is recorded =
    WhereTold-weaker told (λ files. AreRecorded files plan.stations recordings) (λ files. IsIndexed files part r.index)
    (λ files are. IsIndexed-part files plan scan s stay r part (are stay.station s r at.station at.recording) is)
    recorded

pub HoldStay-of : (told : Option Shelved) (plan : Plan) (scan : ScanPlan) (stay : StayPlan) (recordings : List Recording) (f : StayFrames) (s : StationPlan) (r : Recording)
    → slice_get plan.stations stay.station ≡ Some s → slice_get recordings stay.station ≡ Some r
    → HoldPart told plan scan s stay r f.from f.to f.chans.items f.sweeps.items → HoldStay told plan scan stay recordings f
HoldStay-of told plan scan stay recordings f s r at named held = record {
  of = λ s' r' at' named'.
      let same : s ≡ s' = cc in
      let same_r : r ≡ r' = cc in
      subst (λ (x : StationPlan). HoldPart told plan scan x stay r' f.from f.to f.chans.items f.sweeps.items) same
      (subst (λ (x : Recording). HoldPart told plan scan s stay x f.from f.to f.chans.items f.sweeps.items) same_r held);
}

pub IsPartOfStay-of : (plan : Plan) (scan : ScanPlan) (stay : StayPlan) (recordings : List Recording) (part : StationPart) (s : StationPlan) (r : Recording)
    → slice_get plan.stations stay.station ≡ Some s → slice_get recordings stay.station ≡ Some r → IsPartOf plan scan s stay r part
    → IsPartOfStay plan scan stay recordings part
IsPartOfStay-of plan scan stay recordings part s r at named is = record {
  of = λ s' r' at' named'.
      let same : s ≡ s' = cc in
      let same_r : r ≡ r' = cc in
      subst (λ (x : StationPlan). IsPartOf plan scan x stay r' part) same (subst (λ (x : Recording). IsPartOf plan scan s stay x part) same_r is);
}

-- frames of a station's part are those of the part
pub HoldFrames-stay : (told : Option Shelved) (plan : Plan) (scan : ScanPlan) (stay : StayPlan) (recordings : List Recording) (f : StayFrames) (part : StationPart)
    (s : StationPlan) (r : Recording) → slice_get plan.stations stay.station ≡ Some s → slice_get recordings stay.station ≡ Some r
    → IsPartOfStay plan scan stay recordings part → HoldStay told plan scan stay recordings f → HoldFrames told part f
HoldFrames-stay told plan scan stay recordings f part s r at named is held = (held.of s r at named).swept part (is.of s r at named)

-- the values of a part
pub values-part : (told : Option Shelved) (part : StationPart) (chan from : ℕ) (codes : List ℕ)
    → WhereTold told (λ t. AreValues t part (chan_at part.chans.now chan) from (length codes) (map value_of codes))
    → WhereTold told (λ t. (k : ℕ) → k < length codes → value_of (get_or codes k 0) ≡ part_value t part chan (pos (from + k)))
values-part told part chan from codes values =
    WhereTold-weaker told (λ t. AreValues t part (chan_at part.chans.now chan) from (length codes) (map value_of codes)) _
    (λ t are k h. sym (get_or-map value_of codes k 0 None h) ∙ are k h)
    values

-- are those of the plan
pub part_value-stay : (files : Shelved) (plan : Plan) (scan : ScanPlan) (stay : StayPlan) (recordings : List Recording) (part : StationPart) (s : StationPlan) (r : Recording)
    → slice_get plan.stations stay.station ≡ Some s → slice_get recordings stay.station ≡ Some r → AreNamed plan.stations recordings
    → IsPartOfStay plan scan stay recordings part
    → (chan : ℕ) (n : ℤ) → part_value files part chan n ≡ stay_value plan files scan stay chan n
part_value-stay files plan scan stay recordings part s r at named names is =
    part_value-stay_value files plan scan s stay r part at (names.named stay.station s r at named) (is.of s r at named)
