-- The stations of a plan are those of the job, and its scans are among those of the schedule.
use Rattle.std.proofs.Common.{◌≡◌, ◌≤◌, ◌<◌, ◌^◌, ℕ, Bool, true, false, cond, nat_lt, List, [], ◌∷◌, length, map, filter, Option, Some, None, Ok, Err, refl, subst, arith}
use Rattle.std.specs.Prelude.{IfSome, codes}
use Rattle.std.proofs.lemmas.List.{length-map}
use Rattle.std.specs.List.{All}
use Rattle.std.proofs.lemmas.List.Elements.{All-map}
use Rattle.vex_reader.specs.declared.file.Block.{Block}
use Rattle.vex_reader.specs.declared.file.VexFile.{VexFile}
use Rattle.vex_reader.specs.Counts.{HasAtMostScans}
use Rattle.named_list.specs.Named.{named}
use Rattle.vex_schedule.specs.declared.fault.SchedKind.TheVariants.{NoSched}
use Rattle.scan_list.specs.declared.scan.Scan.{Scan}
use Rattle.read_steps.specs.Steps.{◌>>=◌}
use Rattle.vex_schedule.specs.Answers.{given}
use Rattle.vex_schedule.specs.Schedule.{schedule_of, scans_of}
use Rattle.job_plan.specs.declared.plan.ScanPlan.{ScanPlan}
use Rattle.job_plan.specs.declared.plan.StationPlan.{StationPlan}
use Rattle.job_plan.specs.declared.plan.Plan.{Plan}
use Rattle.job_text.specs.Job.{JobFields}
use Rattle.job_join.specs.declared.fault.JoinFault.{JoinFault}
use Rattle.job_join.specs.Standing.{rate_of, is_taken, taken}
use Rattle.job_join.specs.Channels.{channels_of}
use Rattle.job_join.specs.Joined.{joined, refusal_of, plan_of, station_plan, scan_plan}
use Rattle.run_ready.specs.Sizes.{HasFewFiles}

-- less than 2^32 files of a station of a plan
few-plan_of : (job : JobFields) (scans : List Scan) → All HasFewFiles job.stations → All (λ (s : StationPlan). length s.files < 2 ^ 32) (plan_of job scans).stations
unfolding plan_of
few-plan_of job scans few =
    All-map (λ (s : StationPlan). length s.files < 2 ^ 32) (station_plan (rate_of job scans) (channels_of job)) job.stations few

pub few-joined : (job : JobFields) (epoch : ℕ) (scans : List Scan) (plan : Plan) → joined job epoch scans ≡ Ok plan → All HasFewFiles job.stations → All (λ (s : StationPlan). length s.files < 2 ^ 32) plan.stations
few-joined job epoch scans plan is few = by (refusal_of job epoch scans) refl
  where
    by : (o : Option JoinFault) → refusal_of job epoch scans ≡ o → All (λ (s : StationPlan). length s.files < 2 ^ 32) plan.stations
    by (Some fault) none = absurd (let e : joined job epoch scans ≡ Err fault = rw none in cc)
    by None none =
        let e : joined job epoch scans ≡ Ok (plan_of job scans) = rw none in
        let same : plan_of job scans ≡ plan = cc in
        subst (λ (p : Plan). All (λ (s : StationPlan). length s.files < 2 ^ 32) p.stations) same (few-plan_of job scans few)

length-filter-le : {A : Type 0} (p : A → Bool) (xs : List A) → length (filter p xs) ≤ length xs
length-filter-le p [] = omega arith
length-filter-le {A} p (x ∷ xs) = by (p x) (length-filter-le p xs)
  where
    by : (b : Bool) → length (filter p xs) ≤ length xs → length (cond b (x ∷ filter p xs) (filter p xs)) ≤ length (x ∷ xs)
    by true h = omega (arith, h)
    by false h = omega (arith, h)

length-taken : (job : JobFields) (scans : List Scan) → length (taken job scans) ≤ length scans
unfolding taken
length-taken job scans = length-filter-le (is_taken job.takes) scans

-- a plan has no more scans than the schedule
length-plan_of : (job : JobFields) (scans : List Scan) → length (plan_of job scans).scans ≤ length scans
unfolding plan_of
length-plan_of job scans =
    let some : ScanPlan → Bool = λ (scan : ScanPlan). nat_lt 0 (length scan.baselines) in
    let plan : Scan → ScanPlan = scan_plan job (rate_of job scans) (channels_of job) in
    let a : length (filter some (map plan (taken job scans))) ≤ length (map plan (taken job scans)) = length-filter-le some (map plan (taken job scans)) in
    let b : length (map plan (taken job scans)) ≡ length (taken job scans) = length-map (taken job scans) plan in
    let c : length (taken job scans) ≤ length scans = length-taken job scans in
    omega (arith, a, b, c)

pub length-joined : (job : JobFields) (epoch : ℕ) (scans : List Scan) (plan : Plan) → joined job epoch scans ≡ Ok plan → length plan.scans ≤ length scans
length-joined job epoch scans plan is = by (refusal_of job epoch scans) refl
  where
    by : (o : Option JoinFault) → refusal_of job epoch scans ≡ o → length plan.scans ≤ length scans
    by (Some fault) none = absurd (let e : joined job epoch scans ≡ Err fault = rw none in cc)
    by None none =
        let e : joined job epoch scans ≡ Ok (plan_of job scans) = rw none in
        let same : plan_of job scans ≡ plan = cc in
        subst (λ (p : Plan). length p.scans ≤ length scans) same (length-plan_of job scans)

-- a schedule has no more scans than its block
pub length-schedule_of : (file : VexFile) (scans : List Scan) (n : ℕ) → schedule_of file ≡ Ok scans → HasAtMostScans n file.blocks
    → IfSome (named file.blocks (codes "$SCHED")) (λ (block : Block). length scans ≡ length block.scans) → length scans ≤ n
unfolding schedule_of
length-schedule_of file scans n is most count = by (named file.blocks (codes "$SCHED")) (most (codes "$SCHED")) count is
  where
    by : (o : Option Block) → IfSome o (λ (block : Block). length block.scans ≤ n) → IfSome o (λ (block : Block). length scans ≡ length block.scans)
        → (given o NoSched 0 >>= λ (sched : Block). scans_of file sched.scans) ≡ Ok scans → length scans ≤ n
    by None few same e = absurd cc
    by (Some block) few same e = omega (arith, few, same)
