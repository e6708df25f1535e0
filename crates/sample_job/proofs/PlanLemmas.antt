-- The plan of a sample.
use Rattle.std.specs.Prelude.{nat_lt, option_map}
use Rattle.std.proofs.Common.{◌≡◌, ◌∙◌, ◌+◌, ◌*◌, ◌/◌, ◌≤◌, arith, ℕ, false, List, [], ◌∷◌, codes, length, Option, None, Result, Ok, Err, refl, sym, ap}
use Rattle.std.proofs.lemmas.Bool.{le-ltb}
use Rattle.corr_model.specs.Files.{Files}
use Rattle.job_plan.specs.declared.plan.Plan.{Plan}
use Rattle.job_plan.specs.declared.plan.StationPlan.{StationPlan}
use Rattle.sample_gen.specs.Frames.{recording_of}
use Rattle.sample_gen.specs.Job.{job_of}
use Rattle.job_text.specs.Inline.{scans_of}
use Rattle.job_join.specs.declared.fault.Quantity.TheVariants.{Job}
use Rattle.job_join.specs.Joined.{plan_of}
use Rattle.run_notes.specs.declared.measure.Measure.TheVariants.{Job as OfJob}
use Rattle.run_notes.specs.Answers.{Answer, job_answer, recording_answer}
use Rattle.run_ready.specs.Steps.{answered, unless}
use Rattle.run_ready.specs.Recordings.{missing_file, slot_total, too_many_slots, foreign_answer, first_foreign, files_answer, recordings_answer}
use Rattle.run_ready.specs.Outcome.{text_under, cause_answer, Wrong, PlanUnder}
use Rattle.sample_job.specs.Sample.{sample_shelf, SampleOf, ComesToAPlan}
use Rattle.sample_job.proofs.Said.{station_0, station_1, station_2, station_3, job_with}
use Rattle.sample_job.proofs.TextLemmas.{Seen, job-read}
use Rattle.sample_job.proofs.TableLemmas.{seen, within}
use Rattle.sample_job.proofs.JoinLemmas.{plan_stations, joined-is, stations-are, station_at}
use Rattle.sample_job.proofs.RecordingLemmas.{recording-short, recording-agrees}

-- ---- the recordings

-- each file is there
present : (seed seconds : ℕ) → missing_file (sample_shelf seed seconds) plan_stations ≡ None
present seed seconds = refl

few-of : (a b c d : ℕ) → a ≤ 9638400 → b ≤ 9638400 → c ≤ 9638400 → d ≤ 9638400
    → (((0 + (0 + a / 8032)) + (0 + b / 8032)) + (0 + c / 8032)) + (0 + d / 8032) ≤ 67108864
few-of a b c d p q r s = omega arith

-- the slots are few
few-slots : (seed seconds : ℕ) → seconds ≤ 60 → slot_total (sample_shelf seed seconds) plan_stations ≤ 67108864
few-slots seed seconds few =
    few-of (length (recording_of seed seconds 0)) (length (recording_of seed seconds 1)) (length (recording_of seed seconds 2)) (length (recording_of seed seconds 3))
    (recording-short seed seconds 0 few (omega arith)) (recording-short seed seconds 1 few (omega arith))
    (recording-short seed seconds 2 few (omega arith)) (recording-short seed seconds 3 few (omega arith))

not-many : (files : Files) (stations : List StationPlan) → slot_total files stations ≤ 67108864 → too_many_slots files stations ≡ None
not-many files stations few = rw (le-ltb 67108864 (slot_total files stations) few) refl

-- a slot of each agrees, where it has slots
module _ (seed seconds : ℕ) (few : seconds ≤ 60) where
  own-0 : foreign_answer (sample_shelf seed seconds) (station_at station_0) ≡ None
  own-0 = ap (option_map (recording_answer (codes "S0"))) (recording-agrees seed seconds 0 few (omega arith))

  own-1 : foreign_answer (sample_shelf seed seconds) (station_at station_1) ≡ None
  own-1 = ap (option_map (recording_answer (codes "S1"))) (recording-agrees seed seconds 1 few (omega arith))

  own-2 : foreign_answer (sample_shelf seed seconds) (station_at station_2) ≡ None
  own-2 = ap (option_map (recording_answer (codes "S2"))) (recording-agrees seed seconds 2 few (omega arith))

  own-3 : foreign_answer (sample_shelf seed seconds) (station_at station_3) ≡ None
  own-3 = ap (option_map (recording_answer (codes "S3"))) (recording-agrees seed seconds 3 few (omega arith))

none-foreign : (files : Files) (a b c d : StationPlan) → foreign_answer files a ≡ None → foreign_answer files b ≡ None → foreign_answer files c ≡ None → foreign_answer files d ≡ None
    → first_foreign files (a ∷ b ∷ c ∷ d ∷ []) ≡ None
none-foreign files a b c d p q r s = rw (p, q, r, s) refl

none-wrong : (files : Files) (stations : List StationPlan) → missing_file files stations ≡ None → too_many_slots files stations ≡ None → first_foreign files stations ≡ None
    → recordings_answer files stations ≡ None
unfolding recordings_answer files_answer
none-wrong files stations there few own = rw (there, few, own) refl

right : (seed seconds : ℕ) → seconds ≤ 60 → recordings_answer (sample_shelf seed seconds) plan_stations ≡ None
right seed seconds few =
    none-wrong (sample_shelf seed seconds) plan_stations (present seed seconds) (not-many (sample_shelf seed seconds) plan_stations (few-slots seed seconds few))
    (none-foreign (sample_shelf seed seconds) (station_at station_0) (station_at station_1) (station_at station_2) (station_at station_3)
    (own-0 seed seconds few) (own-1 seed seconds few) (own-2 seed seconds few) (own-3 seed seconds few))

-- ---- the outcome

abbrev plan_at : ℕ → Plan
plan_at n = plan_of (job_with n) (scans_of (job_with n))

text-is : (seed seconds : ℕ) → nat_lt 4194304 (length (job_of seconds)) ≡ false → text_under (sample_shelf seed seconds) (codes "job") (OfJob Job) 4194304 ≡ Ok (job_of seconds)
text-is seed seconds short = rw short refl

planned : (seed seconds : ℕ) → 1 ≤ seconds → seconds ≤ 60 → SampleOf seed seconds (Ok (plan_at (160000 * seconds)))
planned seed seconds some few =
    let n = 160000 * seconds in
    let files = sample_shelf seed seconds in
    let short = ap (λ (s : Seen). s.long) (seen seconds some few) in
    let joined = joined-is n (omega arith) (within seconds some few) in
    let wrong = ap (recordings_answer files) (stations-are n) ∙ right seed seconds few in (
      job_with n,
      (job_of seconds, sym (text-is seed seconds short), sym (ap (answered job_answer) (job-read seconds (seen seconds some few) few))),
      (plan_at n, sym (ap (answered (cause_answer (job_with n) (scans_of (job_with n)))) joined), sym (ap (λ (o : Option Answer). unless o (plan_at n)) wrong)),
    )

-- a job comes to one outcome
abbrev pub OneOutcome : Type 0
OneOutcome =
    (files : Files) (wrong : Wrong) (job : List ℕ) (vex : Option (List ℕ)) (epoch : Option ℕ) (a b : Result Plan Answer)
    → PlanUnder files wrong job vex epoch a → PlanUnder files wrong job vex epoch b → a ≡ b

pub comes : OneOutcome → (seed seconds : ℕ) → 1 ≤ seconds → seconds ≤ 60 → ComesToAPlan seed seconds
comes law seed seconds some few = record {
  plan = plan_at (160000 * seconds);
  outcome = planned seed seconds some few;
  no_answer = no_answer;
}
  where
    no_answer : (answer : Answer) → SampleOf seed seconds (Err answer) → ⊥
    no_answer answer there =
        let e : Ok (plan_at (160000 * seconds)) ≡ Err answer =
        law (sample_shelf seed seconds) (recordings_answer (sample_shelf seed seconds)) (codes "job") None None (Ok (plan_at (160000 * seconds))) (Err answer)
        (planned seed seconds some few) there in
        cc
