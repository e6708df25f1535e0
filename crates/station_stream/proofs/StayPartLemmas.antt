-- A station's part in a scan has the channels, the files and the values of its plan.
use Rattle.std.proofs.Common.{◌≡◌, ℕ, ◌<◌, ℤ, pos, unsigned_abs, cond, List, [], ◌∷◌, length, map, get_or, Option, Some, None, option_and_then, refl, ap, subst, sym, ◌∙◌, ⊎_elim, arith}
use Rattle.std.specs.List.{slice_get}
use Rattle.std.specs.Option.{ForSome}
use Rattle.std.proofs.lemmas.Bool.{cases_lt}
use Rattle.std.proofs.lemmas.List.{get_or_past}
use Rattle.std.proofs.lemmas.Option.{slice_get-get_or, slice_get_past}
use Rattle.vdif_frame.specs.Shape.{ShapeFields}
use Rattle.corr_model.specs.Sample.{Timing, sample_of}
use Rattle.corr_model.specs.Delay.{DelayModel}
use Rattle.corr_model.specs.Cell.{Value}
use Rattle.corr_model.specs.Files.{Files, bytes_under}
use Rattle.corr_model.specs.Rotated.{value_at}
use Rattle.delay_track.specs.Track.{model_of}
use Rattle.dev_traits.specs.Files.{bytes_of}
use Rattle.frame_index.specs.Recording.{Shelved, AreOnShelf, bytes_on, slots_on}
use Rattle.frame_index.specs.Indexed.{IsIndexOf}
use Rattle.frame_index.specs.declared.recording.FileRef.{FileRef}
use Rattle.job_plan.specs.declared.plan.Recorded.{Recorded}
use Rattle.job_plan.specs.declared.plan.Band.{Band}
use Rattle.job_plan.specs.declared.plan.StationPlan.{StationPlan}
use Rattle.job_plan.specs.declared.plan.StayPlan.{StayPlan}
use Rattle.job_plan.specs.declared.plan.ScanPlan.{ScanPlan}
use Rattle.job_plan.specs.declared.plan.Plan.{Plan}
use Rattle.job_plan.specs.Ranges.{IsRecorded, IsBand}
use Rattle.job_plan.specs.Values.{is_within, recorded_at, band_at, timing_of, model_of as model_in, station_value, stay_value}
use Rattle.station_stream.specs.declared.chan.StationChan.{StationChan}
use Rattle.station_stream.specs.declared.part.StationPart.{StationPart}
use Rattle.station_stream.specs.declared.recording.Recording.{Recording}
use Rattle.station_stream.specs.Part.{chan_at, part_value, timing_of as part_timing, IsIndexed, IsRecordingOf, IsNamedBy}
use Rattle.station_stream.specs.Ranges.{IsChanOf}
use Rattle.station_stream.specs.StayParts.{chan_with, chan_of, IsPartOf}

-- an item that may be none, none past the list's end
abbrev item_at : {X : Type 0} → List (Option X) → ℕ → Option X
item_at items i = option_and_then (λ item. item) (slice_get items i)

item_at-get_or : {X : Type 0} (items : List (Option X)) (i : ℕ) → item_at items i ≡ get_or items i None
item_at-get_or items i =
    ⊎_elim
    (λ there. ap (option_and_then (λ item. item)) (slice_get-get_or items i None there))
    (λ past. ap (option_and_then (λ item. item)) (slice_get_past items i past) ∙ sym (get_or_past items i None past))
    (cases_lt i (length items))

-- the channels of lists, place by place
pub chan_at-lists : (recorded : List (Option Recorded)) (bands : List (Option Band)) (chans : List (Option StationChan))
    → length chans ≡ length recorded
    → ((k : ℕ) → k < length recorded → get_or chans k None ≡ chan_of (get_or recorded k None) (get_or bands k None))
    → (chan : ℕ) → chan_at chans chan ≡ chan_of (item_at recorded chan) (item_at bands chan)
chan_at-lists recorded bands chans count each chan =
    item_at-get_or chans chan
    ∙ ⊎_elim
    (λ there. each chan there)
    (λ past. get_or_past chans chan None (omega arith) ∙ ap (λ r. chan_of r (get_or bands chan None)) (sym (get_or_past recorded chan None past)))
    (cases_lt chan (length recorded))
    ∙ ap (λ r. chan_of r (get_or bands chan None)) (sym (item_at-get_or recorded chan))
    ∙ ap (chan_of (item_at recorded chan)) (sym (item_at-get_or bands chan))

-- a channel that is recorded in frames of the shape, with a frequency in its range
pub ForSome-chan_of : (shape : ShapeFields) (recorded : Option Recorded) (band : Option Band)
    → IsRecorded shape recorded → IsBand band → ForSome (chan_of recorded band) (IsChanOf shape)
ForSome-chan_of shape None band in_frame in_range = λ c is. absurd (cc)
ForSome-chan_of shape (Some r) None in_frame in_range = λ c is. absurd (cc)
ForSome-chan_of shape (Some r) (Some b) in_frame in_range =
    λ c is. let same : chan_with r b ≡ c = cc in subst (IsChanOf shape) same (in_frame.0, (in_frame.1, in_range))

-- the bytes of a file, read or looked up
bytes_of-bytes_under : (files : Files) (name : List ℕ) → bytes_of (files name) ≡ bytes_under files name
bytes_of-bytes_under files name = under (files name) refl
  where
    under : (file : Option (List ℕ)) → files name ≡ file → bytes_of (files name) ≡ bytes_under files name
    under None is = rw is refl
    under (Some bytes) is = rw is refl

-- the bytes of a recording's files are those under their names
bytes_on-names : (files : Files) (refs : List FileRef) → bytes_on files refs ≡ map (bytes_under files) (map (λ (f : FileRef). f.name) refs)
bytes_on-names files [] = refl
bytes_on-names files (f ∷ refs) =
    ap (λ (rest : List (List ℕ)). bytes_of (files f.name) ∷ rest) (bytes_on-names files refs)
    ∙ ap (λ (bytes : List ℕ). bytes ∷ map (bytes_under files) (map (λ (g : FileRef). g.name) refs)) (bytes_of-bytes_under files f.name)

-- the value of a channel from its samples and delays
abbrev value_by : Timing → DelayModel → List (List ℕ) → ℕ → StationChan → Value
value_by t m bytes n c =
    value_at (sample_of t (record { thread = c.thread; index = c.index }) bytes) m (record { hertz = c.hertz; upper = c.upper }) n

-- the value of a channel from where it is recorded and its band
station_value-chan_of : (f : StationChan → Value) (recorded : Option Recorded) (band : Option Band)
    → option_and_then f (chan_of recorded band) ≡ option_and_then (λ r. option_and_then (λ b. f (chan_with r b)) band) recorded
station_value-chan_of f None band = refl
station_value-chan_of f (Some r) None = refl
station_value-chan_of f (Some r) (Some b) = refl

-- the frames of the part are those of the station
timing_of-part : (plan : Plan) (scan : ScanPlan) (s : StationPlan) (stay : StayPlan) (r : Recording) (part : StationPart)
    → IsPartOf plan scan s stay r part → part_timing part ≡ timing_of plan scan s
timing_of-part plan scan s stay r part is =
    let start : part.track.second ≡ pos scan.second = ap (λ (m : DelayModel). m.start) is.model in
    let rate : part.track.rate ≡ plan.rate = ap (λ (m : DelayModel). m.rate) is.model in
    let shape : part.shape ≡ s.shape = is.shape in
    ap (λ (x : ShapeFields). let t : Timing = record { shape = x; start = part.track.second; rate = part.track.rate } in t) shape
    ∙ ap (λ (x : ℤ). let t : Timing = record { shape = s.shape; start = x; rate = part.track.rate } in t) start
    ∙ ap (λ (x : ℕ). let t : Timing = record { shape = s.shape; start = pos scan.second; rate = x } in t) rate

-- the bytes of the part's files are those under the station's names
bytes_on-part : (files : Files) (plan : Plan) (scan : ScanPlan) (s : StationPlan) (stay : StayPlan) (r : Recording) (part : StationPart)
    → IsNamedBy s r → IsPartOf plan scan s stay r part → bytes_on files part.files.now ≡ map (bytes_under files) s.files
bytes_on-part files plan scan s stay r part named is =
    ap (bytes_on files) is.files ∙ bytes_on-names files r.files ∙ ap (map (bytes_under files)) named.names

-- the value of a channel of the part
part_value-by : (files : Files) (plan : Plan) (scan : ScanPlan) (s : StationPlan) (stay : StayPlan) (r : Recording) (part : StationPart)
    → IsNamedBy s r → IsPartOf plan scan s stay r part
    → (chan : ℕ) (n : ℤ) → part_value files part chan n
    ≡ cond (is_within n stay.from stay.to)
    (option_and_then (value_by (timing_of plan scan s) (model_in plan scan s) (map (bytes_under files) s.files) (unsigned_abs n)) (chan_of (recorded_at s chan) (band_at stay chan)))
    None
part_value-by files plan scan s stay r part named is chan n =
    ap (λ (t : Timing). cond (is_within n part.from part.to) (option_and_then (value_by t (model_of part.track) (bytes_on files part.files.now) (unsigned_abs n)) (chan_at part.chans.now chan)) None)
    (timing_of-part plan scan s stay r part is)
    ∙ ap (λ (m : DelayModel). cond (is_within n part.from part.to) (option_and_then (value_by (timing_of plan scan s) m (bytes_on files part.files.now) (unsigned_abs n)) (chan_at part.chans.now chan)) None)
    is.model
    ∙ ap (λ (bytes : List (List ℕ)). cond (is_within n part.from part.to) (option_and_then (value_by (timing_of plan scan s) (model_in plan scan s) bytes (unsigned_abs n)) (chan_at part.chans.now chan)) None)
    (bytes_on-part files plan scan s stay r part named is)
    ∙ ap (λ (c : Option StationChan). cond (is_within n part.from part.to) (option_and_then (value_by (timing_of plan scan s) (model_in plan scan s) (map (bytes_under files) s.files) (unsigned_abs n)) c) None)
    (is.chans chan)
    ∙ ap (λ (from : ℕ). cond (is_within n from part.to) (option_and_then (value_by (timing_of plan scan s) (model_in plan scan s) (map (bytes_under files) s.files) (unsigned_abs n)) (chan_of (recorded_at s chan) (band_at stay chan))) None)
    is.from
    ∙ ap (λ (to : ℕ). cond (is_within n stay.from to) (option_and_then (value_by (timing_of plan scan s) (model_in plan scan s) (map (bytes_under files) s.files) (unsigned_abs n)) (chan_of (recorded_at s chan) (band_at stay chan))) None)
    is.to

-- the values of the part are those of the station in its part of the scan
pub part_value-stay_value : (files : Files) (plan : Plan) (scan : ScanPlan) (s : StationPlan) (stay : StayPlan) (r : Recording) (part : StationPart)
    → slice_get plan.stations stay.station ≡ Some s → IsNamedBy s r → IsPartOf plan scan s stay r part
    → (chan : ℕ) (n : ℤ) → part_value files part chan n ≡ stay_value plan files scan stay chan n
part_value-stay_value files plan scan s stay r part at named is chan n =
    part_value-by files plan scan s stay r part named is chan n
    ∙ ap (λ (value : Value). cond (is_within n stay.from stay.to) value None)
    (station_value-chan_of (value_by (timing_of plan scan s) (model_in plan scan s) (map (bytes_under files) s.files) (unsigned_abs n)) (recorded_at s chan) (band_at stay chan)
    ∙ ap (option_and_then (λ (found : StationPlan). station_value plan files scan stay found chan (unsigned_abs n))) (sym at))

-- the files of the part stand on the shelf, and the index is theirs
pub IsIndexed-part : (files : Shelved) (plan : Plan) (scan : ScanPlan) (s : StationPlan) (stay : StayPlan) (r : Recording) (part : StationPart)
    → IsRecordingOf files s r → IsPartOf plan scan s stay r part → IsIndexed files part r.index
IsIndexed-part files plan scan s stay r part recorded is =
    let shelved : AreOnShelf part.files.now files = subst (λ (refs : List FileRef). AreOnShelf refs files) (sym is.files) recorded.shelved in
    let own : IsIndexOf s.shape (slots_on files s.shape part.files.now) r.index =
    subst (λ (refs : List FileRef). IsIndexOf s.shape (slots_on files s.shape refs) r.index) (sym is.files) recorded.index in
    (shelved, subst (λ (shape : ShapeFields). IsIndexOf shape (slots_on files shape part.files.now) r.index) (sym is.shape) own)
