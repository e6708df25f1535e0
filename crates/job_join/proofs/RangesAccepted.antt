-- What holds of a job and a schedule that are not refused.
use Rattle.std.specs.Int.{div_ceil}
use Rattle.std.specs.Prelude.{filter_map}
use Rattle.std.proofs.Common.{◌≡◌, ℕ, ◌*◌, ◌^◌, ◌≤◌, false, nat_lt, List, [], ◌∷◌, length, slice_get, All, Option, None, Some, refl, arith}
use Rattle.std.proofs.lemmas.Bool.{ltb-false}
use Rattle.std.proofs.lemmas.List.Elements.{All-nil, All-cons, All-weaker}
use Rattle.scan_list.specs.declared.scan.Scan.{Scan}
use Rattle.job_text.specs.Job.{JobFields}
use Rattle.job_join.specs.declared.fault.JoinFault.{JoinFault}
use Rattle.job_join.specs.declared.fault.Quantity.TheVariants.{Stations}
use Rattle.job_join.specs.Standing.{taken, rate_of, unknown_station}
use Rattle.job_join.specs.Channels.{channels_of}
use Rattle.job_join.specs.Differing.{frame_rate}
use Rattle.job_join.specs.Spans.{samples_of}
use Rattle.job_join.specs.Modelled.{no_model, no_clock}
use Rattle.job_join.specs.Limits.{Measure, measure, measures, past, baselines_in, limit}
use Rattle.job_join.specs.Joined.{first_there, refusal_of}
use Rattle.job_join.proofs.RangesLists.{option_map-none, find-None, filter_map-none, first-none, All-from_map}

nothing-there : (xs : List (Option JoinFault)) → first_there xs ≡ None → All (λ x. x ≡ None) xs
nothing-there [] none = All-nil (λ x. x ≡ None)
nothing-there (None ∷ xs) none = All-cons (λ x. x ≡ None) None xs refl (nothing-there xs none)
nothing-there (Some fault ∷ xs) none = absurd cc

-- the causes of which a plan's ranges speak
pub record IsAccepted (job : JobFields) (epoch : ℕ) (scans : List Scan) : Type 0 where
  pub stations : unknown_station job scans ≡ None
  pub frames : frame_rate job scans ≡ None
  pub models : no_model job scans ≡ None
  pub clocks : no_clock job scans ≡ None
  pub limits : limit job epoch scans ≡ None

parts-none : (a b c d e f g h i : Option JoinFault) → first_there (a ∷ b ∷ c ∷ d ∷ e ∷ f ∷ g ∷ h ∷ i ∷ []) ≡ None
    → (b ≡ None) × (f ≡ None) × (g ≡ None) × (h ≡ None) × (i ≡ None)
parts-none a b c d e f g h i none =
    let each : All (λ x. x ≡ None) (a ∷ b ∷ c ∷ d ∷ e ∷ f ∷ g ∷ h ∷ i ∷ []) = nothing-there (a ∷ b ∷ c ∷ d ∷ e ∷ f ∷ g ∷ h ∷ i ∷ []) none in
    (each 1 None (omega arith), each 5 None (omega arith), each 6 None (omega arith), each 7 None (omega arith), each 8 None (omega arith))

pub accepted : (job : JobFields) (epoch : ℕ) (scans : List Scan) → refusal_of job epoch scans ≡ None → IsAccepted job epoch scans
unfolding refusal_of
accepted job epoch scans none =
    let parts = parts-none _ _ _ _ _ _ _ _ _ none in
    record {
      stations = option_map-none _ _ parts.0;
      frames = option_map-none _ _ parts.1;
      models = option_map-none _ _ parts.2;
      clocks = option_map-none _ _ parts.3;
      limits = option_map-none _ _ parts.4;
    }

-- the sizes of a job that is within the limits
pub record IsWithin (job : JobFields) (rate : ℕ) (scans : List Scan) : Type 0 where
  pub stations : length job.stations ≤ 32
  pub products : length job.products ≤ 256
  pub channels : length (channels_of job) ≤ 64
  pub samples : All (λ scan. samples_of job rate scan ≤ 2 ^ 40) scans
  pub seconds : All (λ scan. div_ceil (samples_of job rate scan) rate ≤ 2 ^ 27) scans
  pub cells : All (λ scan. length (baselines_in job scan) * length job.products * job.lags ≤ 4194304) scans

abbrev pub IsHeld : Measure → Type 0
IsHeld m = All (λ value. value ≤ m.most) m.values

not_past : (m : Measure) → past m ≡ None → IsHeld m
not_past m none =
    All-weaker (λ value. nat_lt m.most value ≡ false) (λ value. value ≤ m.most) (λ value less. ltb-false m.most value less) m.values
    (find-None (λ value. nat_lt m.most value) m.values (option_map-none _ _ none))

pub held : (ms : List Measure) → slice_get (filter_map past ms) 0 ≡ None → All IsHeld ms
held ms none =
    All-weaker (λ m. past m ≡ None) IsHeld not_past ms (filter_map-none past ms (first-none (filter_map past ms) none))

pub within : (job : JobFields) (epoch : ℕ) (scans : List Scan) → limit job epoch scans ≡ None → IsWithin job (rate_of job scans) (taken job scans)
unfolding limit measures
within job epoch scans none =
    let each : All IsHeld (measures job epoch (rate_of job scans) (taken job scans)) = held (measures job epoch (rate_of job scans) (taken job scans)) none in
    let other : Measure = measure Stations 0 [] in
    record {
      stations = each 0 other (omega arith) 0 0 (omega arith);
      products = each 1 other (omega arith) 0 0 (omega arith);
      channels = each 2 other (omega arith) 0 0 (omega arith);
      samples = All-from_map (λ value. value ≤ 2 ^ 40) (samples_of job (rate_of job scans)) (taken job scans) (each 3 other (omega arith));
      seconds = All-from_map (λ value. value ≤ 2 ^ 27) (λ scan. div_ceil (samples_of job (rate_of job scans) scan) (rate_of job scans)) (taken job scans) (each 4 other (omega arith));
      cells = All-from_map (λ value. value ≤ 4194304) (λ scan. length (baselines_in job scan) * length job.products * job.lags) (taken job scans) (each 5 other (omega arith));
    }
