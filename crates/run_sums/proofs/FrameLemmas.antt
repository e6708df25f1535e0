-- Rows of codes that are made out of the frames of an epoch, and the planes of them.
use Rattle.std.specs.Prelude.{slice_get, option_and_then}
use Rattle.std.proofs.Common.{◌≡◌, ◌∙◌, ℕ, ◌+◌, ◌-◌, ◌*◌, ◌/◌, ◌%◌, ◌<◌, ◌≤◌, ℤ, pos, ◌-ℤ◌, ◌≤ℤ◌, ◌<ℤ◌, unsigned_abs, Bool, true, false, cond, ⊎_elim, List, length, map, get_or, Option, Some, None, Vec, Global, refl, sym, ap, subst, arith}
use Rattle.std.proofs.Math.Nat.{mul-zero, div-lt_iff_lt-mul}
use Rattle.std.proofs.lemmas.Bool.{cases_lt}
use Rattle.std.proofs.lemmas.Int.{ints}
use Rattle.std.proofs.lemmas.List.{get_or-map}
use Rattle.std.proofs.lemmas.Nat.{div-mul-add, mod-mul-add, mul-le}
use Rattle.std.proofs.lemmas.Option.{slice_get-get_or, slice_get_past, slice_get_within, get_or_from_slice_get}
use Rattle.dev_traits.specs.Told.{WhereTold}
use Rattle.corr_model.specs.Cell.{Value}
use Rattle.corr_model.specs.Files.{Files}
use Rattle.frame_index.proofs.ToldLemmas.{WhereTold-weaker}
use Rattle.value_codes.specs.Codes.{value_of}
use Rattle.packed_values.specs.From.{value_from}
use Rattle.bit_planes.specs.Planes.{PlanesFields}
use Rattle.piece_plan.specs.declared.epoch.EpochPlan.{EpochPlan}
use Rattle.job_plan.specs.declared.plan.Band.{Band}
use Rattle.job_plan.specs.declared.plan.Recorded.{Recorded}
use Rattle.job_plan.specs.declared.plan.StationPlan.{StationPlan}
use Rattle.job_plan.specs.declared.plan.StayPlan.{StayPlan}
use Rattle.job_plan.specs.declared.plan.ScanPlan.{ScanPlan}
use Rattle.job_plan.specs.declared.plan.Plan.{Plan}
use Rattle.job_plan.specs.Ranges.{IsPlan, IsScanPlan, IsStay}
use Rattle.job_plan.specs.Values.{band_at, band_value, is_within, recorded_at, station_value, stay_value}
use Rattle.station_stream.specs.declared.part.StationPart.{StationPart}
use Rattle.station_stream.specs.declared.recording.Recording.{Recording}
use Rattle.station_stream.specs.declared.stay_frames.StayFrames.{StayFrames}
use Rattle.station_stream.specs.Part.{part_value}
use Rattle.station_stream.specs.Recorded.{AreNamed}
use Rattle.station_stream.specs.StayFrames.{HoldFrames, IsPartOfStay}
use Rattle.station_stream.proofs.StayFramesLemmas.{HoldFrames-stay, HoldStay-untold, part_value-stay, slice_get-item}
use Rattle.epoch_run.specs.Planes.{planed}
use Rattle.epoch_run.specs.Rows.{HoldRows}
use Rattle.epoch_run.proofs.PlaneValues.{there}
use Rattle.epoch_run.proofs.RowPlanes.{row_value-there, rows_end}
use Rattle.run_sums.specs.declared.frames.EpochFrames.{EpochFrames}
use Rattle.run_sums.specs.declared.making.Making.{Making}
use Rattle.run_sums.specs.declared.values.EpochValues.{EpochValues}
use Rattle.run_sums.specs.Frames.{AreAllMade, AreFrames, AreRows, AreRowsMade, HoldsFrames, IsMaking, made_value, rows_in}
use Rattle.run_sums.specs.Pairs.{pairs_in}
use Rattle.run_sums.proofs.PlaceLemmas.{stays-few}
use Rattle.run_sums.specs.Reach.{reach_from, reach_to, AreReached, HoldsEpoch}

-- ---- frames of which nothing is told

AreFrames-untold : (told : Option Files) (plan : Plan) (scan : ScanPlan) (recordings : List Recording) (from to : ℕ) (frames : List StayFrames)
    → AreFrames told plan scan recordings from to frames → AreFrames None plan scan recordings from to frames
AreFrames-untold told plan scan recordings from to frames are = record {
  count = are.count;
  window = are.window;
  held = λ place stay d is. HoldStay-untold told plan scan stay recordings (get_or frames place d) (are.held place stay d is);
}

pub HoldsFrames-untold : (told : Option Files) (plan : Plan) (recordings : List Recording) (scan : ScanPlan) (e : EpochPlan) (v : EpochFrames)
    → HoldsFrames told plan recordings scan e v → HoldsFrames None plan recordings scan e v
HoldsFrames-untold told plan recordings scan e v holds = record {
  pairs = holds.pairs;
  rows = holds.rows;
  frames = AreFrames-untold told plan scan recordings (reach_from e) (reach_to e scan.samples) v.stations.items holds.frames;
}

-- ---- the station and the channel of a row

pub some_chans : (row stations chans : ℕ) → row < stations * chans → 0 < chans
some_chans row stations chans h =
    ⊎_elim
    (λ (some : 0 < chans). some)
    (λ (none : chans ≤ 0).
    let zero_is : chans ≡ 0 = omega (arith, none) in
    let no : stations * chans ≡ 0 = ap (λ (n : ℕ). stations * n) zero_is ∙ mul-zero stations in
    absurd (omega (arith, no, h)))
    (cases_lt 0 chans)

-- they are not many
pub rows_few : (told : Option Files) (m : Making) → IsMaking told m → rows_in m ≤ 2048
rows_few told m making =
    let stays : length m.scan.now.stays ≤ 32 = stays-few m.plan.now m.scan.now making.plan making.scan in
    mul-le (length m.scan.now.stays) (length m.plan.now.channels) 32 64 stays making.plan.few_channels

pub place_below : (row stations chans : ℕ) → row < stations * chans → row / chans < stations
place_below row stations chans h = (div-lt_iff_lt-mul {k = chans} {x = row} {y = stations} (some_chans row stations chans h)).1 h

-- the station of a row
pub record IsRowOf (m : Making) (place : ℕ) (stay : StayPlan) : Type 0 where
  pub inside : place < length m.scan.now.stays
  pub at : slice_get m.scan.now.stays place ≡ Some stay

-- as it is read
pub IsRowOf-read : (m : Making) (row chans : ℕ) (stays : List StayPlan) (stay : StayPlan) → row < rows_in m → chans ≡ length m.plan.now.channels
    → stays ≡ m.scan.now.stays → stay ≡ get_or stays (row / chans) stay → IsRowOf m (row / chans) stay
IsRowOf-read m row chans stays stay below same stays_are is =
    let inside : row / chans < length m.scan.now.stays =
    subst (λ (n : ℕ). row / n < length m.scan.now.stays) (sym same) (place_below row (length m.scan.now.stays) (length m.plan.now.channels) below) in
    record { inside = inside; at = slice_get-item stays m.scan.now.stays (row / chans) stay stays_are inside is }

-- ---- the part of a row's station

slice_there : {X : Type 0} (xs : List X) (i : ℕ) (h : i < length xs) → slice_get xs i ≡ Some (there xs i h).0
slice_there xs i h = let x = there xs i h in slice_get-get_or xs i x.0 h ∙ ap Some (x.1 x.0)

-- it is one of the scan's
pub IsStay-made : (told : Option Files) (m : Making) (place : ℕ) (stay : StayPlan) → IsMaking told m → slice_get m.scan.now.stays place ≡ Some stay
    → IsStay m.plan.now m.scan.now stay
IsStay-made told m place stay making at =
    subst (IsStay m.plan.now m.scan.now) (get_or_from_slice_get m.scan.now.stays place stay stay at)
    (making.scan.stays place stay (slice_get_within m.scan.now.stays place stay at))

-- its station and its recording
record OwnFiles (m : Making) (stay : StayPlan) : Type 0 where
  pub station : StationPlan
  pub recording : Recording
  pub at : slice_get m.plan.now.stations stay.station ≡ Some station
  pub named : slice_get m.recordings.now stay.station ≡ Some recording

recorded-made : (told : Option Files) (m : Making) (place : ℕ) (stay : StayPlan) → IsMaking told m → slice_get m.scan.now.stays place ≡ Some stay → OwnFiles m stay
recorded-made told m place stay making at =
    let inside : stay.station < length m.plan.now.stations = (IsStay-made told m place stay making at).station in
    let named : stay.station < length m.recordings.now = omega (arith, inside, making.named.each) in record {
      station = (there m.plan.now.stations stay.station inside).0;
      recording = (there m.recordings.now stay.station named).0;
      at = slice_there m.plan.now.stations stay.station inside;
      named = slice_there m.recordings.now stay.station named;
    }

-- its frames
pub HoldFrames-made : (told : Option Files) (m : Making) (place : ℕ) (stay : StayPlan) (d : StayFrames) (part : StationPart) → IsMaking told m
    → slice_get m.scan.now.stays place ≡ Some stay → IsPartOfStay m.plan.now m.scan.now stay m.recordings.now part
    → HoldFrames told part (get_or m.frames.now place d)
HoldFrames-made told m place stay d part making at part_is =
    let r = recorded-made told m place stay making at in
    HoldFrames-stay told m.plan.now m.scan.now stay m.recordings.now (get_or m.frames.now place d) part r.station r.recording r.at r.named part_is
    (making.frames.held place stay d at)

-- its samples
pub samples-made : (told : Option Files) (m : Making) (place : ℕ) (stay : StayPlan) (part : StationPart) → IsMaking told m
    → slice_get m.scan.now.stays place ≡ Some stay → IsPartOfStay m.plan.now m.scan.now stay m.recordings.now part
    → part.track.samples ≡ m.scan.now.samples
samples-made told m place stay part making at is =
    let r = recorded-made told m place stay making at in (is.of r.station r.recording r.at r.named).samples

-- and its values
pub part_value-made : (told : Option Files) (files : Files) (m : Making) (place : ℕ) (stay : StayPlan) (part : StationPart) → IsMaking told m
    → slice_get m.scan.now.stays place ≡ Some stay → IsPartOfStay m.plan.now m.scan.now stay m.recordings.now part
    → (chan : ℕ) (n : ℤ) → part_value files part chan n ≡ stay_value m.plan.now files m.scan.now stay chan n
part_value-made told files m place stay part making at is chan n =
    let r = recorded-made told m place stay making at in
    part_value-stay files m.plan.now m.scan.now stay m.recordings.now part r.station r.recording r.at r.named making.named is chan n

-- ---- planes of rows that are made

-- past the job's channels there is no value
stay_value-past : (plan : Plan) (files : Files) (scan : ScanPlan) (stay : StayPlan) (chan : ℕ) (n : ℤ) → IsPlan plan → length plan.channels ≤ chan
    → stay_value plan files scan stay chan n ≡ None
stay_value-past plan files scan stay chan n ranges past = within (is_within n stay.from stay.to)
  where
    no : (b : Bool) → cond {A = Value} b None None ≡ None
    no true = refl
    no false = refl

    of : (o : Option StationPlan) → slice_get plan.stations stay.station ≡ o → option_and_then (λ s. station_value plan files scan stay s chan (unsigned_abs n)) o ≡ None
    of None is = refl
    of (Some s) is =
        let own = get_or_from_slice_get plan.stations stay.station s s is in
        let station = subst (λ (x : StationPlan). length x.chans ≡ length plan.channels) own
        (ranges.stations stay.station s (slice_get_within plan.stations stay.station s is)).chans in
        let none : recorded_at s chan ≡ None = ap (option_and_then (λ r. r)) (slice_get_past s.chans chan (omega (arith, past, station))) in
        ap (option_and_then (λ (r : Recorded). option_and_then (λ (band : Band). band_value plan files scan s r band (unsigned_abs n)) (band_at stay chan))) none

    within : (b : Bool) → cond b (option_and_then (λ s. station_value plan files scan stay s chan (unsigned_abs n)) (slice_get plan.stations stay.station)) None ≡ None
    within b = ap (λ (v : Value). cond b v None) (of (slice_get plan.stations stay.station) refl) ∙ no b

-- the codes of each row are those of its values from a sample on
abbrev pub AllMade : Plan → ScanPlan → ℕ → List (Vec ℕ Global) → Files → Type 0
AllMade plan scan from rows files =
    (row : ℕ) (d : Vec ℕ Global) → row < length rows → (k : ℕ) → k < length (get_or rows row d).items
    → value_of (get_or (get_or rows row d).items k 0)
    ≡ option_and_then (λ (stay : StayPlan). stay_value plan files scan stay (row % length plan.channels) (pos (from + k))) (slice_get scan.stays (row / length plan.channels))

planed-here : (plan : Plan) (scan : ScanPlan) (files : Files) (from to : ℕ) (rows : List (Vec ℕ Global)) (planes : List (List PlanesFields))
    → AreRows (length scan.stays) (length plan.channels) (to - from) rows → HoldRows from (length plan.channels) rows planes → length planes ≡ length scan.stays
    → AllMade plan scan from rows files
    → (place chan : ℕ) (stay : StayPlan) (n : ℤ) → slice_get scan.stays place ≡ Some stay → pos from ≤ℤ n → n <ℤ pos to → chan < length plan.channels
    → planed planes place chan n ≡ stay_value plan files scan stay chan n
planed-here plan scan files from to rows planes are hold count made place chan stay n is begun under small =
    let chans = length plan.channels in
    let i = place * chans + chan in
    let inside : place < length scan.stays = slice_get_within scan.stays place stay is in
    let there_is : i < length rows = omega (arith, are.count, rows_end place (length scan.stays) chans inside, small) in
    let x = there rows i there_is in
    let row = x.0 in
    let same : get_or rows i row ≡ row = x.1 row in
    let k = unsigned_abs (n -ℤ pos from) in
    let offset : n -ℤ pos from ≡ pos k = omega (arith, ints, begun) in
    let sample : pos (from + k) ≡ n = omega (arith, ints, begun) in
    let long : length row.items ≡ to - from = subst (λ (r : Vec ℕ Global). length r.items ≡ to - from) same (are.long i row there_is) in
    let in_row : k < length row.items = omega (arith, ints, long, begun, under) in
    let station : i / chans ≡ place = div-mul-add place chans chan small in
    let channel : i % chans ≡ chan = mod-mul-add place chans chan small in
    let value = λ (p : ℕ) (c : ℕ) (m : ℤ). option_and_then (λ (s : StayPlan). stay_value plan files scan s c m) (slice_get scan.stays p) in
    hold.here place chan n (omega (arith, count, inside)) small
    ∙ sym (row_value-there from rows i row n there_is (sym same))
    ∙ ap (value_from (map value_of row.items)) offset
    ∙ get_or-map value_of row.items k 0 None in_row
    ∙ subst (λ (r : Vec ℕ Global). value_of (get_or r.items k 0) ≡ value (i / chans) (i % chans) (pos (from + k))) same
    (made i row there_is k (subst (λ (r : Vec ℕ Global). k < length r.items) (sym same) in_row))
    ∙ ap (λ (p : ℕ). value p (i % chans) (pos (from + k))) station
    ∙ ap (λ (c : ℕ). value place c (pos (from + k))) channel
    ∙ ap (value place chan) sample
    ∙ ap (option_and_then (λ (s : StayPlan). stay_value plan files scan s chan n)) is

-- at the samples from `from` up to, not including, `to` the planes have the values of each station's part
planed-made : (plan : Plan) (scan : ScanPlan) (files : Files) (from to : ℕ) (rows : List (Vec ℕ Global)) (planes : List (List PlanesFields))
    → IsPlan plan → AreRows (length scan.stays) (length plan.channels) (to - from) rows → HoldRows from (length plan.channels) rows planes → length planes ≡ length scan.stays
    → AllMade plan scan from rows files
    → (place chan : ℕ) (stay : StayPlan) (n : ℤ) → slice_get scan.stays place ≡ Some stay → pos from ≤ℤ n → n <ℤ pos to
    → planed planes place chan n ≡ stay_value plan files scan stay chan n
planed-made plan scan files from to rows planes ranges are hold count made place chan stay n is begun under =
    ⊎_elim
    (λ small. planed-here plan scan files from to rows planes are hold count made place chan stay n is begun under small)
    (λ past. hold.past place chan n past ∙ sym (stay_value-past plan files scan stay chan n ranges past))
    (cases_lt chan (length plan.channels))

-- ---- an epoch that is made

-- what the threads know
pub IsMaking-of : (told : Option Files) (plan : Plan) (recordings : List Recording) (scan : ScanPlan) (e : EpochPlan) (v : EpochFrames) (m : Making)
    → m.plan.now ≡ plan → m.scan.now ≡ scan → m.recordings.now ≡ recordings → m.frames.now ≡ v.stations.items → m.from ≡ reach_from e → m.to ≡ reach_to e scan.samples
    → IsPlan plan → IsScanPlan plan scan → AreNamed plan.stations recordings
    → HoldsFrames told plan recordings scan e v → IsMaking told m
IsMaking-of told plan recordings scan e v m plan_is scan_is recordings_is frames_is from_is to_is ranges of_scan named holds = record {
  plan = subst IsPlan (sym plan_is) ranges;
  scan = subst (λ (p : Plan). IsScanPlan p m.scan.now) (sym plan_is) (subst (IsScanPlan plan) (sym scan_is) of_scan);
  named = subst (λ (p : Plan). AreNamed p.stations m.recordings.now) (sym plan_is) (subst (AreNamed plan.stations) (sym recordings_is) named);
  inside = omega (arith, to_is, ap (λ (s : ScanPlan). s.samples) scan_is);
  frames =
      subst (λ (p : Plan). AreFrames told p m.scan.now m.recordings.now m.from m.to m.frames.now) (sym plan_is)
      (subst (λ (s : ScanPlan). AreFrames told plan s m.recordings.now m.from m.to m.frames.now) (sym scan_is)
      (subst (λ (r : List Recording). AreFrames told plan scan r m.from m.to m.frames.now) (sym recordings_is)
      (subst (λ (a : ℕ). AreFrames told plan scan recordings a m.to m.frames.now) (sym from_is)
      (subst (λ (b : ℕ). AreFrames told plan scan recordings (reach_from e) b m.frames.now) (sym to_is)
      (subst (AreFrames told plan scan recordings (reach_from e) (reach_to e scan.samples)) (sym frames_is) holds.frames)))));
}

-- the values of the epoch
pub HoldsEpoch-made : (told : Option Files) (plan : Plan) (scan : ScanPlan) (e : EpochPlan) (from to : ℕ) (rows : List (Vec ℕ Global)) (v : EpochValues)
    → IsPlan plan → from ≡ reach_from e → to ≡ reach_to e scan.samples → v.pairs.items ≡ pairs_in plan scan → length v.planes ≡ length scan.stays
    → AreRows (length scan.stays) (length plan.channels) (to - from) rows → HoldRows from (length plan.channels) rows v.planes
    → WhereTold told (AllMade plan scan from rows)
    → HoldsEpoch told plan scan e v
HoldsEpoch-made told plan scan e from to rows v ranges begin end pairs count are hold made = record {
  pairs = pairs;
  count = count;
  values = WhereTold-weaker told (AllMade plan scan from rows) (AreReached plan scan e v.planes)
      (λ files all place chan stay n is begun under.
      planed-made plan scan files from to rows v.planes ranges are hold count all place chan stay n is
      (subst (λ (a : ℕ). pos a ≤ℤ n) (sym begin) begun) (subst (λ (b : ℕ). n <ℤ pos b) (sym end) under))
      made;
}

-- rows that threads have made
AllMade-of : (told : Option Files) (m : Making) (plan : Plan) (rows : List (Vec ℕ Global)) → m.plan.now ≡ plan → WhereTold told (AreRowsMade m 0 rows)
    → WhereTold told (AllMade plan m.scan.now m.from rows)
AllMade-of told m plan rows same made =
    WhereTold-weaker told (AreRowsMade m 0 rows) (AllMade plan m.scan.now m.from rows)
    (λ files each row d h k inside.
    let zero_row : 0 + row ≡ row = omega arith in
    subst (λ (p : Plan). value_of (get_or (get_or rows row d).items k 0)
    ≡ option_and_then (λ (stay : StayPlan). stay_value p files m.scan.now stay (row % length p.channels) (pos (m.from + k))) (slice_get m.scan.now.stays (row / length p.channels))) same
    (subst (λ (r : ℕ). value_of (get_or (get_or rows row d).items k 0) ≡ made_value m r (m.from + k) files) zero_row (each row d h k inside)))
    made

pub HoldsEpoch-all : (told : Option Files) (plan : Plan) (recordings : List Recording) (scan : ScanPlan) (e : EpochPlan) (f : EpochFrames) (m : Making) (rows : List (Vec ℕ Global)) (v : EpochValues)
    → m.plan.now ≡ plan → m.scan.now ≡ scan → m.recordings.now ≡ recordings → m.frames.now ≡ f.stations.items → m.from ≡ reach_from e → m.to ≡ reach_to e scan.samples
    → IsPlan plan → IsScanPlan plan scan → AreNamed plan.stations recordings
    → length rows ≡ length f.rows.items → v.pairs.items ≡ f.pairs.items → length v.planes ≡ length scan.stays → HoldRows m.from (length plan.channels) rows v.planes
    → AreAllMade m 0 rows → HoldsFrames told plan recordings scan e f → HoldsEpoch told plan scan e v
HoldsEpoch-all told plan recordings scan e f m rows v plan_is scan_is recordings_is frames_is from_is to_is ranges of_scan named many pairs count hold all holds =
    let making = IsMaking-of told plan recordings scan e f m plan_is scan_is recordings_is frames_is from_is to_is ranges of_scan named holds in
    let are : AreRows (length scan.stays) (length plan.channels) (m.to - m.from) rows = record {
      count = many ∙ holds.rows.count;
      long = λ i d h. let row = all.long i d h in omega (arith, row);
    } in
    let made : WhereTold told (AllMade plan scan m.from rows) =
    subst (λ (s : ScanPlan). WhereTold told (AllMade plan s m.from rows)) scan_is (AllMade-of told m plan rows plan_is (all.made told making)) in
    HoldsEpoch-made told plan scan e m.from m.to rows v ranges from_is to_is (pairs ∙ holds.pairs) count are hold made

-- ---- frames that are read

pub HoldsFrames-of : (told : Option Files) (plan plan' : Plan) (recordings recordings' : List Recording) (scan : ScanPlan) (e : EpochPlan) (from to : ℕ) (v : EpochFrames)
    → plan ≡ plan' → recordings ≡ recordings' → from ≡ reach_from e → to ≡ reach_to e scan.samples
    → v.pairs.items ≡ pairs_in plan scan → AreRows (length scan.stays) (length plan.channels) (to - from) v.rows.items
    → AreFrames told plan scan recordings from to v.stations.items
    → HoldsFrames told plan' recordings' scan e v
HoldsFrames-of told plan plan' recordings recordings' scan e from to v same same_r begin end pairs rows frames = record {
  pairs = subst (λ (p : Plan). v.pairs.items ≡ pairs_in p scan) same pairs;
  rows =
      subst (λ (p : Plan). AreRows (length scan.stays) (length p.channels) (reach_to e scan.samples - reach_from e) v.rows.items) same
      (subst (λ (a : ℕ). AreRows (length scan.stays) (length plan.channels) (reach_to e scan.samples - a) v.rows.items) begin
      (subst (λ (b : ℕ). AreRows (length scan.stays) (length plan.channels) (b - from) v.rows.items) end rows));
  frames =
      subst (λ (p : Plan). AreFrames told p scan recordings' (reach_from e) (reach_to e scan.samples) v.stations.items) same
      (subst (λ (r : List Recording). AreFrames told plan scan r (reach_from e) (reach_to e scan.samples) v.stations.items) same_r
      (subst (λ (a : ℕ). AreFrames told plan scan recordings a (reach_to e scan.samples) v.stations.items) begin
      (subst (λ (b : ℕ). AreFrames told plan scan recordings from b v.stations.items) end frames)));
}
