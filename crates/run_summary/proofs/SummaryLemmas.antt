-- The lines of stations are those of their files.
use Rattle.std.proofs.Common.{◌≡◌, ℕ, ◌+◌, ◌<◌, ◌≤◌, List, [], ◌∷◌, ◌++◌, length, map, take, get_or, Option, Some, None, refl, ap, subst, sym, ◌∙◌, append_assoc}
use Rattle.std.specs.List.{flat_map, slice_get}
use Rattle.std.specs.Prelude.{codes, decimal}
use Rattle.std.proofs.lemmas.List.{take_all}
use Rattle.std.proofs.lemmas.Simd.{map-map}
use Rattle.std.proofs.lemmas.Option.{slice_get-get_or}
use Rattle.corr_model.specs.Files.{Files, bytes_under}
use Rattle.corr_model.specs.Slots.{station_slots}
use Rattle.dev_traits.specs.Files.{bytes_of}
use Rattle.frame_index.specs.Counted.{counts_of}
use Rattle.frame_index.specs.Recording.{bytes_on}
use Rattle.frame_index.specs.declared.recording.FileRef.{FileRef}
use Rattle.job_plan.specs.declared.plan.StationPlan.{StationPlan}
use Rattle.job_plan.specs.declared.plan.Plan.{Plan}
use Rattle.job_epochs.specs.Sizes.{sizes_of}
use Rattle.piece_plan.specs.declared.epoch.EpochPlan.{EpochPlan}
use Rattle.piece_plan.specs.Epochs.{JobSizes}
use Rattle.piece_plan.specs.Order.{Place, job_start}
use Rattle.plan_places.specs.Walk.{IsWalk, AreLeft, epochs_by}
use Rattle.sink_text.specs.Written.{StretchState, Puts}
use Rattle.sink_text.proofs.WrittenText.{Puts-then, Puts-nothing, flat_map-next}
use Rattle.station_stream.specs.declared.recording.Recording.{Recording}
use Rattle.station_stream.specs.Part.{IsRecordingOf, IsNamedBy}
use Rattle.station_stream.specs.Recorded.{AreNamed}
use Rattle.run_summary.specs.Lines.{PutsLines}
use Rattle.run_summary.specs.Summaries.{counts_line, station_line, check_text}

-- the bytes of a file, read or looked up
bytes_of-bytes_under : (files : Files) (name : List ℕ) → bytes_of (files name) ≡ bytes_under files name
bytes_of-bytes_under files name = by (files name)
  where
    by : (o : Option (List ℕ)) → bytes_of o ≡ bytes_under (λ _. o) []
    by None = refl
    by (Some bytes) = refl

-- the bytes of a recording's files are those under their names
bytes_on-names : (files : Files) (refs : List FileRef) → bytes_on files refs ≡ map (bytes_under files) (map (λ (f : FileRef). f.name) refs)
bytes_on-names files refs =
    (λ i. map (λ (f : FileRef). bytes_of-bytes_under files f.name i) refs) ∙ sym (map-map (bytes_under files) (λ (f : FileRef). f.name) refs)

-- the line of a station's recording
counts_line-recorded : (files : Files) (s : StationPlan) (r : Recording) → IsNamedBy s r → IsRecordingOf files s r
    → counts_line s.key r.index.counts ≡ station_line files s
counts_line-recorded files s r named recorded =
    ap (counts_line s.key)
    (recorded.index.counts
    ∙ ap (λ (bytes : List (List ℕ)). counts_of s.shape (station_slots s.shape.frame_bytes bytes))
    (bytes_on-names files r.files ∙ ap (map (bytes_under files)) named.names))

-- no line
pub PutsLines-none : (stations : List StationPlan) (recordings : List Recording) (s : StretchState) (t : Option (List ℕ)) (f : ℕ)
    → PutsLines stations recordings (λ files. flat_map (station_line files) (take 0 stations)) s s t t f f
PutsLines-none stations recordings s t f = record { text = []; puts = Puts-nothing s t f; same = λ files recorded. refl }

-- one station more
pub PutsLines-next : (stations : List StationPlan) (recordings : List Recording) (i : ℕ) (s : StationPlan) (r : Recording)
    {s₀ s₁ s₂ : StretchState} {t₀ t₁ t₂ : Option (List ℕ)} {f₀ f₁ f₂ : ℕ}
    → AreNamed stations recordings
    → i < length stations
    → s ≡ get_or stations i s
    → i < length recordings
    → r ≡ get_or recordings i r
    → PutsLines stations recordings (λ files. flat_map (station_line files) (take i stations)) s₀ s₁ t₀ t₁ f₀ f₁
    → Puts (counts_line s.key r.index.counts) s₁ s₂ t₁ t₂ f₁ f₂
    → PutsLines stations recordings (λ files. flat_map (station_line files) (take (i + 1) stations)) s₀ s₂ t₀ t₂ f₀ f₂
PutsLines-next stations recordings i s r named within is within' is' so_far next =
    let line : List ℕ = counts_line s.key r.index.counts in
    let at : slice_get stations i ≡ Some s = slice_get-get_or stations i s within ∙ ap Some (sym is) in
    let at' : slice_get recordings i ≡ Some r = slice_get-get_or recordings i r within' ∙ ap Some (sym is') in
    record {
      text = so_far.text ++ line;
      puts = Puts-then refl so_far.puts next;
      same = λ files recorded.
          ap (λ (t : List ℕ). t ++ line) (so_far.same files recorded)
          ∙ ap (λ (t : List ℕ). flat_map (station_line files) (take i stations) ++ t)
          (counts_line-recorded files s r (named.named i s r at at') (recorded i s r at at') ∙ ap (station_line files) is)
          ∙ sym (flat_map-next (station_line files) stations i s within);
    }

-- all stations
pub PutsLines-all : (stations : List StationPlan) (recordings : List Recording) (i : ℕ)
    {s₀ s₁ : StretchState} {t₀ t₁ : Option (List ℕ)} {f₀ f₁ : ℕ}
    → length stations ≤ i
    → PutsLines stations recordings (λ files. flat_map (station_line files) (take i stations)) s₀ s₁ t₀ t₁ f₀ f₁
    → PutsLines stations recordings (λ files. flat_map (station_line files) stations) s₀ s₁ t₀ t₁ f₀ f₁
PutsLines-all stations recordings i all lines = record {
  text = lines.text;
  puts = lines.puts;
  same = λ files recorded.
      lines.same files recorded ∙ ap (λ (some : List StationPlan). flat_map (station_line files) some) (take_all i stations all);
}

-- the epochs that are left at the start of a job are those of the whole job
pub left-whole : (job : JobSizes) (epoch : ℕ) (due : Option Place) (count : ℕ)
    → ((epochs others : List EpochPlan) → IsWalk job epoch (job_start job) epochs → IsWalk job epoch (job_start job) others → epochs ≡ others)
    → IsWalk job epoch (job_start job) (epochs_by job epoch)
    → due ≡ job_start job
    → AreLeft job epoch due count
    → count ≡ length (epochs_by job epoch)
left-whole job epoch due count alone whole first left =
    left.many ∙ ap length (alone left.epochs (epochs_by job epoch) (subst (λ (d : Option Place). IsWalk job epoch d left.epochs) first left.walk) whole)

-- two lines and what stands behind them
pub append-head : (a m b n text : List ℕ) → a ++ m ++ 10 ∷ [] ++ b ++ n ++ 10 ∷ [] ++ text ≡ (a ++ m ++ 10 ∷ []) ++ (b ++ n ++ 10 ∷ []) ++ text
append-head a m b n text = simp append_assoc

-- the head and the stations' lines
pub check_text-lines : (plan : Plan) (epoch : ℕ) (files : Files) (scans epochs : ℕ) (text : List ℕ)
    → scans ≡ length plan.scans
    → epochs ≡ length (epochs_by (sizes_of plan) epoch)
    → text ≡ flat_map (station_line files) plan.stations
    → codes "scans " ++ decimal scans ++ 10 ∷ [] ++ codes "epochs " ++ decimal epochs ++ 10 ∷ [] ++ text ≡ check_text plan epoch files
unfolding check_text
check_text-lines plan epoch files scans epochs text many all lines = rw (many, all, lines) refl
