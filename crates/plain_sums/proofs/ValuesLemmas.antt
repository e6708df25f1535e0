-- The values of a scan by the place of the station are those by its number.
use Rattle.std.proofs.Common.{◌≡◌, ℕ, ◌+◌, ◌==◌, ◌≤◌, ℤ, pos, ◌≤ℤ◌, ◌<ℤ◌, int_le, int_lt, Bool, true, false, cond, ◌&&◌, ◌⊎◌, ⊎_elim, List, [], ◌∷◌, ◌++◌, length, map, take, Option, Some, None, option_and_then, refl, ap, subst, sym, ◌∙◌, arith}
use Rattle.std.specs.List.{All, slice_get, find, position}
use Rattle.std.proofs.lemmas.Int.{ints}
use Rattle.std.proofs.lemmas.List.{map_push, take_all}
use Rattle.std.proofs.lemmas.Option.{slice_get_within, get_or_from_slice_get}
use Rattle.dev_traits.specs.Told.{WhereTold}
use Rattle.corr_model.specs.Cell.{Value, Samples}
use Rattle.corr_model.specs.Files.{Files}
use Rattle.frame_index.proofs.ToldLemmas.{WhereTold-both, WhereTold-weaker}
use Rattle.job_plan.specs.declared.plan.Plan.{Plan}
use Rattle.job_plan.specs.declared.plan.StayPlan.{StayPlan}
use Rattle.job_plan.specs.declared.plan.ScanPlan.{ScanPlan}
use Rattle.job_plan.specs.Values.{stay_value, rotated}
use Rattle.station_stream.specs.Stream.{StreamFields, IsOfWindow, stream_value, windowed}
use Rattle.plain_sums.proofs.PlaceLemmas.{option_and_then-map, option_and_then-position, option_and_then-none, take-next}

-- the values of a scan's streams: those of the stations' numbers, in their order
abbrev pub values_in : List ℕ → List StreamFields → Samples
values_in stations streams station chan n =
    option_and_then (λ (i : ℕ). option_and_then (λ (s : StreamFields). windowed s chan n) (slice_get streams i))
    (position (λ (number : ℕ). number == station) stations)

-- the values of streams, station by station, are those of the stays
values_in-stays : (stays : List StayPlan) (streams : List StreamFields) (value : StayPlan → Value) (chan : ℕ) (n : ℤ)
    → map (λ (s : StreamFields). windowed s chan n) streams ≡ map value stays
    → (station : ℕ) → values_in (map (λ (stay : StayPlan). stay.station) stays) streams station chan n
    ≡ option_and_then value (find (λ (stay : StayPlan). stay.station == station) stays)
values_in-stays stays streams value chan n values station =
    option_and_then-position (λ (number : ℕ). number == station) (λ (stay : StayPlan). stay.station) (λ (i : ℕ). option_and_then (λ (s : StreamFields). windowed s chan n) (slice_get streams i)) value stays
    (λ i. sym (option_and_then-map (λ (s : StreamFields). windowed s chan n) streams i)
    ∙ ap (λ (all : List Value). option_and_then (λ (y : Value). y) (slice_get all i)) values
    ∙ option_and_then-map value stays i)

-- the values of a station are those of the stream at its place
pub values_in-place : (stations : List ℕ) (streams : List StreamFields) (station chan place : ℕ) (n : ℤ) (s : StreamFields)
    → position (λ (number : ℕ). number == station) stations ≡ Some place → slice_get streams place ≡ Some s
    → values_in stations streams station chan n ≡ windowed s chan n
values_in-place stations streams station chan place n s there at =
    ap (option_and_then (λ (i : ℕ). option_and_then (λ (t : StreamFields). windowed t chan n) (slice_get streams i))) there
    ∙ ap (option_and_then (λ (t : StreamFields). windowed t chan n)) at

-- outside of the window
cond-and_false : (b : Bool) (value : Value) → cond (b && false) value None ≡ None
cond-and_false true value = refl
cond-and_false false value = refl

windowed-before : (s : StreamFields) (from to : ℕ) (chan : ℕ) (n : ℤ) → IsOfWindow from to s → n <ℤ pos from → windowed s chan n ≡ None
windowed-before s from to chan n is before =
    let begins : s.from ≡ pos from = is.begin in
    let first : int_le s.from n ≡ false = grind (arith, ints) in
    ap (λ (b : Bool). cond (b && int_lt n s.to) (stream_value s chan n) None) first

windowed-past : (s : StreamFields) (from to : ℕ) (chan : ℕ) (n : ℤ) → IsOfWindow from to s → pos to ≤ℤ n → windowed s chan n ≡ None
windowed-past s from to chan n is past =
    let ends : s.to ≡ pos to = is.end in
    let last : int_lt n s.to ≡ false = grind (arith, ints) in
    ap (λ (b : Bool). cond (int_le s.from n && b) (stream_value s chan n) None) last
    ∙ cond-and_false (int_le s.from n) (stream_value s chan n)

pub values_in-outside : (stations : List ℕ) (streams : List StreamFields) (from to : ℕ)
    → All (IsOfWindow from to) streams
    → (station chan : ℕ) (n : ℤ) → (n <ℤ pos from) ⊎ (pos to ≤ℤ n) → values_in stations streams station chan n ≡ None
values_in-outside stations streams from to each station chan n outside =
    option_and_then-none (λ (i : ℕ). option_and_then (λ (s : StreamFields). windowed s chan n) (slice_get streams i))
    (position (λ (number : ℕ). number == station) stations)
    (λ i _. option_and_then-none (λ (s : StreamFields). windowed s chan n) (slice_get streams i)
    (λ s at. let is : IsOfWindow from to s = subst (IsOfWindow from to) (get_or_from_slice_get streams i s s at) (each i s (slice_get_within streams i s at)) in
    ⊎_elim (windowed-before s from to chan n is) (windowed-past s from to chan n is) outside))

-- the numbers of one stay more
pub stations-push : (stays : List StayPlan) (i : ℕ) (stay : StayPlan) (stations : List ℕ)
    → slice_get stays i ≡ Some stay → stations ≡ map (λ (s : StayPlan). s.station) (take i stays)
    → stations ++ stay.station ∷ [] ≡ map (λ (s : StayPlan). s.station) (take (i + 1) stays)
stations-push stays i stay stations at first =
    ap (λ (numbers : List ℕ). numbers ++ stay.station ∷ []) first
    ∙ sym (map_push (λ (s : StayPlan). s.station) (take i stays) stay)
    ∙ ap (map (λ (s : StayPlan). s.station)) (sym (take-next stays i stay at))

-- the numbers of all stays
pub stations-all : (stations : List ℕ) (stays all : List StayPlan) (i : ℕ) → stays ≡ all → length stays ≤ i
    → stations ≡ map (λ (stay : StayPlan). stay.station) (take i stays) → stations ≡ map (λ (stay : StayPlan). stay.station) all
stations-all stations stays all i same past numbers = numbers ∙ ap (map (λ (stay : StayPlan). stay.station)) (take_all i stays past ∙ same)

-- the values of these streams in a window are those of these stays
abbrev pub AreOfStays : Plan → ScanPlan → ℕ → ℕ → List StayPlan → List StreamFields → Files → Type 0
AreOfStays plan scan from to stays streams files =
    (chan : ℕ) (n : ℤ) → pos from ≤ℤ n → n <ℤ pos to
    → map (λ (s : StreamFields). windowed s chan n) streams ≡ map (λ (stay : StayPlan). stay_value plan files scan stay chan n) stays

AreOfStays-next : (plan : Plan) (scan : ScanPlan) (from to : ℕ) (stays : List StayPlan) (streams : List StreamFields) (i : ℕ) (stay : StayPlan) (stream : StreamFields) (files : Files)
    → slice_get stays i ≡ Some stay → AreOfStays plan scan from to (take i stays) streams files
    → ((chan : ℕ) (n : ℤ) → pos from ≤ℤ n → n <ℤ pos to → windowed stream chan n ≡ stay_value plan files scan stay chan n)
    → AreOfStays plan scan from to (take (i + 1) stays) (streams ++ stream ∷ []) files
AreOfStays-next plan scan from to stays streams i stay stream files at first last chan n begun under =
    let value = λ (s : StayPlan). stay_value plan files scan s chan n in
    map_push (λ (s : StreamFields). windowed s chan n) streams stream
    ∙ ap (λ (all : List Value). all ++ windowed stream chan n ∷ []) (first chan n begun under)
    ∙ ap (λ (one : Value). map value (take i stays) ++ one ∷ []) (last chan n begun under)
    ∙ sym (map_push value (take i stays) stay)
    ∙ ap (map value) (sym (take-next stays i stay at))

pub AreOfStays-push : (told : Option Files) (plan : Plan) (scan : ScanPlan) (from to : ℕ) (stays : List StayPlan) (streams : List StreamFields) (i : ℕ) (stay : StayPlan) (stream : StreamFields)
    → slice_get stays i ≡ Some stay → WhereTold told (AreOfStays plan scan from to (take i stays) streams)
    → WhereTold told (λ files. (chan : ℕ) (n : ℤ) → pos from ≤ℤ n → n <ℤ pos to → windowed stream chan n ≡ stay_value plan files scan stay chan n)
    → WhereTold told (AreOfStays plan scan from to (take (i + 1) stays) (streams ++ stream ∷ []))
AreOfStays-push told plan scan from to stays streams i stay stream at =
    WhereTold-both told (AreOfStays plan scan from to (take i stays) streams)
    (λ files. (chan : ℕ) (n : ℤ) → pos from ≤ℤ n → n <ℤ pos to → windowed stream chan n ≡ stay_value plan files scan stay chan n)
    (AreOfStays plan scan from to (take (i + 1) stays) (streams ++ stream ∷ []))
    (λ files. AreOfStays-next plan scan from to stays streams i stay stream files at)

-- the values are those of the plan's definition
values_in-stays-rotated : (plan : Plan) (scan : ScanPlan) (streams : List StreamFields) (from to : ℕ) (files : Files)
    → AreOfStays plan scan from to scan.stays streams files
    → (station chan : ℕ) (n : ℤ) → pos from ≤ℤ n → n <ℤ pos to
    → values_in (map (λ (stay : StayPlan). stay.station) scan.stays) streams station chan n ≡ rotated plan files scan station chan n
unfolding rotated
values_in-stays-rotated plan scan streams from to files are station chan n begun under =
    values_in-stays scan.stays streams (λ (stay : StayPlan). stay_value plan files scan stay chan n) chan n (are chan n begun under) station

pub values_in-rotated : (told : Option Files) (stations : List ℕ) (streams : List StreamFields) (plan : Plan) (scan : ScanPlan) (from to : ℕ) (stays : List StayPlan) (i : ℕ)
    → stays ≡ scan.stays → length stays ≤ i
    → stations ≡ map (λ (stay : StayPlan). stay.station) (take i stays)
    → WhereTold told (AreOfStays plan scan from to (take i stays) streams)
    → WhereTold told (λ files. (station chan : ℕ) (n : ℤ) → pos from ≤ℤ n → n <ℤ pos to → values_in stations streams station chan n ≡ rotated plan files scan station chan n)
values_in-rotated told stations streams plan scan from to stays i same past numbers are =
    let all : take i stays ≡ scan.stays = take_all i stays past ∙ same in
    let every : stations ≡ map (λ (stay : StayPlan). stay.station) scan.stays = stations-all stations stays scan.stays i same past numbers in
    WhereTold-weaker told (AreOfStays plan scan from to scan.stays streams)
    (λ files. (station chan : ℕ) (n : ℤ) → pos from ≤ℤ n → n <ℤ pos to → values_in stations streams station chan n ≡ rotated plan files scan station chan n)
    (λ files own station chan n begun under. ap (λ (items : List ℕ). values_in items streams station chan n) every ∙ values_in-stays-rotated plan scan streams from to files own station chan n begun under)
    (subst (λ (some : List StayPlan). WhereTold told (AreOfStays plan scan from to some streams)) all are)
