-- What the samples of a scan need at a station, and the first station that lacks it.
use Rattle.std.specs.Prelude.{ℕ, Bool, not, List, [], ◌∷◌, find, fold, max, Option, None, option_map, if◌then◌else◌}
use Rattle.std.specs.List.{list_all, range_with_len}
use Rattle.std.specs.Option.{option_or}
use Rattle.corr_model.specs.Delay.{DelayModel, is_modelled, is_clocked}
use Rattle.scan_list.specs.declared.scan.Scan.{Scan}
use Rattle.job_text.specs.Job.{JobFields}
use Rattle.job_join.specs.declared.reach.Need.{Need}
use Rattle.job_join.specs.declared.reach.Need.TheVariants.{Delay, Clock}
use Rattle.job_join.specs.Standing.{Stand}
use Rattle.job_join.specs.Spans.{end_sample}
use Rattle.job_join.specs.Modelled.{model_in, no_model, no_clock}
use Rattle.job_join.specs.Places.{Visit}

-- sample n has it
abbrev pub is_met : Need → DelayModel → ℕ → Bool
is_met Delay m n = is_modelled m n
is_met Clock m n = is_clocked m n

-- all samples of the scan have it
abbrev pub are_met : Need → DelayModel → ℕ → Bool
are_met need m samples = list_all (is_met need m) (range_with_len 0 samples)

-- the number of the first of some stations in a scan that lacks it at one of so many samples
abbrev pub lacking_of : Need → JobFields → ℕ → Scan → ℕ → List Stand → Option ℕ
lacking_of need job rate scan samples stands =
    option_map (λ (s : Stand). s.number) (find (λ (s : Stand). not (are_met need (model_in job rate scan s.station) samples)) stands)

-- as far as one of some stations goes
abbrev pub samples_among : ℕ → List Stand → ℕ
samples_among rate stands = fold (λ most (s : Stand). max most (end_sample rate s.pass)) 0 stands

-- that of its stations, where the scan is taken
abbrev pub lacking_in : Need → JobFields → ℕ → Visit → Option ℕ
lacking_in need job rate v =
    if v.taken then lacking_of need job rate v.scan (samples_among rate v.stands) v.stands else None

-- that of the first scan with such a station
abbrev pub lacking_among : Need → JobFields → ℕ → List Visit → Option ℕ
lacking_among need job rate [] = None
lacking_among need job rate (v ∷ visits) = option_or (lacking_in need job rate v) (lacking_among need job rate visits)

-- that of the first scan of a schedule that is taken and has such a station
abbrev pub lacking : Need → JobFields → List Scan → Option ℕ
lacking Delay job scans = no_model job scans
lacking Clock job scans = no_clock job scans
