-- A job that goes together with its schedule has at most 2^32 epochs of the length in force.
use Rattle.std.specs.Prelude.{IfSome, flat_map, filter, fold, unwrap_or, if◌then◌else◌}
use Rattle.std.specs.List.{enumerate_from, sum_by}
use Rattle.std.proofs.Common.{◌≡◌, ℕ, ◌+◌, ◌-◌, ◌*◌, ◌<◌, ◌≤◌, ◌==◌, nat_lt, Bool, true, false, cond, List, [], ◌∷◌, length, map, All, Option, None, Some, Ok, Err, refl, subst, sym, ap, ◌∙◌, arith}
use Rattle.std.proofs.lemmas.Bool.Decides.{nat_tests}
use Rattle.std.proofs.lemmas.List.{length-append}
use Rattle.std.proofs.lemmas.List.Folds.{fold-map}
use Rattle.std.proofs.lemmas.List.Sums.{sum_by-cons}
use Rattle.scan_list.specs.declared.scan.Scan.{Scan}
use Rattle.piece_plan.specs.declared.job.ScanSize.{ScanSize}
use Rattle.piece_plan.specs.Epochs.{JobSizes, scan_epochs, epochs_of}
use Rattle.piece_plan.specs.Counts.{count_in}
use Rattle.piece_plan.proofs.CountLemmas.{length-scan_epochs}
use Rattle.plan_places.specs.Walk.{epochs_by}
use Rattle.job_plan.specs.declared.plan.ScanPlan.{ScanPlan}
use Rattle.job_plan.specs.declared.plan.Plan.{Plan}
use Rattle.job_plan.specs.Ranges.{IsPlan}
use Rattle.job_text.specs.Job.{JobFields}
use Rattle.job_join.specs.declared.fault.JoinFault.{JoinFault}
use Rattle.job_join.specs.declared.fault.Quantity.TheVariants.{Stations}
use Rattle.job_join.specs.Standing.{taken, rate_of}
use Rattle.job_join.specs.Channels.{channels_of}
use Rattle.job_join.specs.Spans.{samples_of}
use Rattle.job_join.specs.Limits.{measure, measures, baselines_in, epochs_in, limit, scan_epochs as taken_epochs}
use Rattle.job_join.specs.Joined.{refusal_of, scan_plan, plan_by, plan_of, joined}
use Rattle.job_join.proofs.RangesAccepted.{accepted, IsHeld, held}
use Rattle.job_epochs.specs.Sizes.{size_of, sizes_of}

-- ---- the number of epochs

-- how many things come of those that are kept
length-kept : {S P Z A : Type 0} (epochs : ℕ → Z → List A) (made : S → P) (size : P → Z) (keep : P → Bool) (count : S → ℕ)
    → ((n : ℕ) (s : S) → keep (made s) ≡ true → length (epochs n (size (made s))) ≡ count s)
    → ((s : S) → keep (made s) ≡ false → count s ≡ 0)
    → (n : ℕ) (ss : List S)
    → length (flat_map (λ (e : ℕ × Z). epochs e.0 e.1) (enumerate_from n (map size (filter keep (map made ss))))) ≡ sum_by count ss
length-kept epochs made size keep count kept dropped n [] = refl
length-kept {S} {P} {Z} {A} epochs made size keep count kept dropped n (s ∷ ss) =
    by (keep (made s)) refl (λ m. length-kept epochs made size keep count kept dropped m ss) ∙ sym (sum_by-cons count s ss)
  where
    by : (b : Bool) → keep (made s) ≡ b
        → ((m : ℕ) → length (flat_map (λ (e : ℕ × Z). epochs e.0 e.1) (enumerate_from m (map size (filter keep (map made ss))))) ≡ sum_by count ss)
        → length (flat_map (λ (e : ℕ × Z). epochs e.0 e.1) (enumerate_from n (map size (cond b (made s ∷ filter keep (map made ss)) (filter keep (map made ss)))))) ≡ count s + sum_by count ss
    by true is rest =
        omega (arith, length-append (epochs n (size (made s))) (flat_map (λ (e : ℕ × Z). epochs e.0 e.1) (enumerate_from (n + 1) (map size (filter keep (map made ss))))), kept n s is, rest (n + 1))
    by false is rest = omega (arith, rest n, dropped s is)

-- those of a plan's scans, of a length each, are those of the scans that are taken
length-epochs_by : (job : JobFields) (epoch rate : ℕ) (channels : List (List ℕ)) (scans : List Scan) → 0 < job.integration → 0 < epoch
    → length (epochs_by (sizes_of (plan_by job rate channels scans)) epoch) ≡ fold ◌+◌ 0 (map (taken_epochs job epoch rate) scans)
unfolding epochs_of
length-epochs_by job epoch rate channels scans some cut =
    let plan : Plan = plan_by job rate channels scans in
    let sizes : JobSizes = record (sizes_of plan) { epoch = epoch } in
    length-kept (scan_epochs sizes) (scan_plan job rate channels) (size_of plan) (λ (scan : ScanPlan). nat_lt 0 (length scan.baselines)) (taken_epochs job epoch rate)
    (λ n scan there.
    let none : (length (baselines_in job scan) == 0) ≡ false = grind (arith, nat_tests) in
    let size : ScanSize = size_of plan (scan_plan job rate channels scan) in
    let whole : size.samples - size.first * job.integration ≡ size.samples = omega arith in
    length-scan_epochs sizes n size some cut
    ∙ ap (λ (left : ℕ). count_in left job.integration epoch) whole
    ∙ sym (ap (λ (b : Bool). if b then 0 else epochs_in job epoch (samples_of job rate scan)) none))
    (λ scan past.
    let none : (length (baselines_in job scan) == 0) ≡ true = grind (arith, nat_tests) in
    ap (λ (b : Bool). if b then 0 else epochs_in job epoch (samples_of job rate scan)) none)
    0 scans
    ∙ sym (fold-map (λ (a b : ℕ). a + b) (taken_epochs job epoch rate) 0 scans)

-- ---- the limit

epochs-held : (job : JobFields) (epoch : ℕ) (scans : List Scan) → limit job epoch scans ≡ None
    → fold ◌+◌ 0 (map (taken_epochs job epoch (rate_of job scans)) (taken job scans)) ≤ 4294967296
unfolding limit measures
epochs-held job epoch scans none =
    let each : All IsHeld (measures job epoch (rate_of job scans) (taken job scans)) = held (measures job epoch (rate_of job scans) (taken job scans)) none in
    each 7 (measure Stations 0 []) (omega arith) 0 0 (omega arith)

-- what is joined is not refused
refusal-none : (job : JobFields) (epoch : ℕ) (scans : List Scan) (plan : Plan) → joined job epoch scans ≡ Ok plan → refusal_of job epoch scans ≡ None
refusal-none job epoch scans plan is = by (refusal_of job epoch scans) refl
  where
    by : (o : Option JoinFault) → refusal_of job epoch scans ≡ o → refusal_of job epoch scans ≡ None
    by None here = here
    by (Some fault) here =
        let refused : joined job epoch scans ≡ Err fault = rw here refl in
        absurd (cc)

joined-plan : (job : JobFields) (epoch : ℕ) (scans : List Scan) → refusal_of job epoch scans ≡ None → joined job epoch scans ≡ Ok (plan_of job scans)
joined-plan job epoch scans none = rw none refl

-- the length in force
some-epoch : (asked : Option ℕ) (own : ℕ) → IfSome asked (λ e. (1 ≤ e) × (e ≤ 4194304)) → 0 < own → 0 < unwrap_or asked own
some-epoch None own range some = some
some-epoch (Some e) own range some = omega (arith, range.0)

few_epochs : (job : JobFields) (asked : Option ℕ) (scans : List Scan) → IsPlan (plan_of job scans) → IfSome asked (λ e. (1 ≤ e) × (e ≤ 4194304))
    → limit job (unwrap_or asked job.epoch) scans ≡ None
    → length (epochs_by (sizes_of (plan_of job scans)) (unwrap_or asked (plan_of job scans).epoch)) ≤ 4294967296
unfolding plan_of
few_epochs job asked scans ranges range none =
    let epoch : ℕ = unwrap_or asked job.epoch in
    omega (
      arith,
      length-epochs_by job epoch (rate_of job scans) (channels_of job) (taken job scans) ranges.some_integration (some-epoch asked job.epoch range ranges.some_epoch),
      epochs-held job epoch scans none,
    )

-- a plan that is joined has at most 2^32 of them
pub few_epochs-joined : (job : JobFields) (asked : Option ℕ) (scans : List Scan) (plan : Plan) → IsPlan plan → IfSome asked (λ e. (1 ≤ e) × (e ≤ 4194304))
    → joined job (unwrap_or asked job.epoch) scans ≡ Ok plan → length (epochs_by (sizes_of plan) (unwrap_or asked plan.epoch)) ≤ 4294967296
few_epochs-joined job asked scans plan ranges range is =
    let epoch : ℕ = unwrap_or asked job.epoch in
    let none = refusal-none job epoch scans plan is in
    let same : plan_of job scans ≡ plan = let whole = sym (joined-plan job epoch scans none) ∙ is in cc in
    subst (λ (p : Plan). length (epochs_by (sizes_of p) (unwrap_or asked p.epoch)) ≤ 4294967296) same
    (few_epochs job asked scans (subst IsPlan (sym same) ranges) range (accepted job epoch scans none).limits)
