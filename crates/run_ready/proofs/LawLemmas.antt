-- Outcomes of which there is one.
use Rattle.std.specs.Prelude.{unwrap_or}
use Rattle.std.proofs.Common.{◌≡◌, ◌∙◌, ℕ, Bool, true, false, List, Option, None, Some, Result, Ok, Err, refl, sym, ap, ap₂, subst, inl, inr}
use Rattle.corr_model.specs.Files.{Files}
use Rattle.vex_reader.specs.declared.file.VexFile.{VexFile}
use Rattle.vex_reader.specs.Grammar.{IsFileOf}
use Rattle.vex_reader.specs.Laws.{HasOneFile, HasOneFault, DoesNotBoth}
use Rattle.scan_list.specs.declared.scan.Scan.{Scan}
use Rattle.vex_schedule.specs.declared.fault.SchedFault.{SchedFault}
use Rattle.vex_schedule.specs.Schedule.{schedule_of}
use Rattle.job_text.specs.Job.{JobFields}
use Rattle.job_text.specs.Answer.{job_in}
use Rattle.job_text.specs.Inline.{scans_of}
use Rattle.job_join.specs.Joined.{refusal_of, plan_of, joined}
use Rattle.job_join.specs.declared.fault.JoinFault.{JoinFault}
use Rattle.job_join.specs.declared.fault.Quantity.TheVariants.{Schedule, Job}
use Rattle.job_plan.specs.declared.plan.Plan.{Plan}
use Rattle.run_notes.specs.declared.measure.Measure.TheVariants.{Job as OfJob}
use Rattle.run_notes.specs.Answers.{Answer, vex_answer, schedule_answer, job_answer}
use Rattle.run_notes.specs.Refusals.{Outcomes}
use Rattle.run_ready.specs.Steps.{Is, Then, answered, unless}
use Rattle.run_ready.specs.Outcome.{text_under, ScansOf, cause_answer, Wrong, Joins, JobOf, ScheduleOf, PlanUnder}

-- there is at most one of these outcomes
abbrev pub AreOne : {A : Type 0} → Outcomes A → Type 0
AreOne {A} outcomes = (a b : Result A Answer) → outcomes a → outcomes b → a ≡ b

pub Is-one : {A : Type 0} (given : Result A Answer) → AreOne (Is given)
Is-one given a b p q = p ∙ sym q

-- two steps with one outcome each have one
pub Then-one-behind : {A B : Type 0} (first : Outcomes A) (next : A → Outcomes B) → AreOne first → ((a : A) → first (Ok a) → AreOne (next a))
    → AreOne (Then first next)
Then-one-behind {A} {B} first next one ones = by
  where
    same : (a c : A) → first (Ok a) → first (Ok c) → a ≡ c
    same a c p q = let e : Ok a ≡ Ok c = one (Ok a) (Ok c) p q in cc

    same_err : (d e : Answer) → first (Err d) → first (Err e) → d ≡ e
    same_err d e p q =
        let x : Result A Answer = Err d in
        let y : Result A Answer = Err e in
        let h : x ≡ y = one x y p q in
        cc

    both : (x y : Result B Answer) (a c : A) → first (Ok a) → first (Ok c) → next a x → next c y → x ≡ y
    both x y a c p q s t = ones c q x y (subst (λ (w : A). next w x) (same a c p q) s) t

    not : (a : A) (e : Answer) → first (Ok a) → first (Err e) → ⊥
    not a e p q = let h : Ok a ≡ Err e = one (Ok a) (Err e) p q in cc

    by : AreOne (Then first next)
    by (Ok x) (Ok y) p q = both (Ok x) (Ok y) p.0 q.0 p.1 q.1 p.2 q.2
    by (Ok x) (Err e) p (inl q) = absurd (not p.0 e p.1 q)
    by (Ok x) (Err e) p (inr q) = both (Ok x) (Err e) p.0 q.0 p.1 q.1 p.2 q.2
    by (Err d) (Ok y) (inl p) q = absurd (not q.0 d q.1 p)
    by (Err d) (Ok y) (inr p) q = both (Err d) (Ok y) p.0 q.0 p.1 q.1 p.2 q.2
    by (Err d) (Err e) (inl p) (inl q) = ap Err (same_err d e p q)
    by (Err d) (Err e) (inl p) (inr q) = absurd (not q.0 d q.1 p)
    by (Err d) (Err e) (inr p) (inl q) = absurd (not p.0 e p.1 q)
    by (Err d) (Err e) (inr p) (inr q) = both (Err d) (Err e) p.0 q.0 p.1 q.1 p.2 q.2

pub Then-one : {A B : Type 0} (first : Outcomes A) (next : A → Outcomes B) → AreOne first → ((a : A) → AreOne (next a)) → AreOne (Then first next)
Then-one first next one ones = Then-one-behind first next one (λ a is. ones a)

-- what a schedule comes to, by the laws of VEX texts
ScansOf-one : (text : List ℕ) → HasOneFile text → HasOneFault text → DoesNotBoth text → AreOne (ScansOf text)
ScansOf-one text one_file one_fault not_both = by
  where
    scheduled : Result (List Scan) SchedFault → Result (List Scan) Answer
    scheduled r = answered schedule_answer r

    both : (x y : Result (List Scan) Answer) (f g : VexFile) → IsFileOf text f → IsFileOf text g
        → answered schedule_answer (schedule_of f) ≡ x → answered schedule_answer (schedule_of g) ≡ y → x ≡ y
    both x y f g p q s t = sym s ∙ ap (λ h. answered schedule_answer (schedule_of h)) (one_file f g p q) ∙ t

    done : (f : VexFile) (scans : List Scan) → schedule_of f ≡ Ok scans → answered schedule_answer (schedule_of f) ≡ Ok scans
    done f scans e = ap (λ r. answered schedule_answer r) e

    by : AreOne (ScansOf text)
    by (Ok x) (Ok y) p q = both (Ok x) (Ok y) p.0 q.0 p.1 q.1 (done p.0 x p.2) (done q.0 y q.2)
    by (Ok x) (Err e) p (inl q) = absurd (not_both p.0 q.0 p.1 q.1)
    by (Ok x) (Err e) p (inr q) = both (Ok x) (Err e) p.0 q.0 p.1 q.1 (done p.0 x p.2) q.2
    by (Err d) (Ok y) (inl p) q = absurd (not_both q.0 p.0 q.1 p.1)
    by (Err d) (Ok y) (inr p) q = both (Err d) (Ok y) p.0 q.0 p.1 q.1 p.2 (done q.0 y q.2)
    by (Err d) (Err e) (inl p) (inl q) = ap Err (p.2 ∙ ap vex_answer (one_fault p.0 q.0 p.1 q.1) ∙ sym q.2)
    by (Err d) (Err e) (inl p) (inr q) = absurd (not_both q.0 p.0 q.1 p.1)
    by (Err d) (Err e) (inr p) (inl q) = absurd (not_both p.0 q.0 p.1 q.1)
    by (Err d) (Err e) (inr p) (inr q) = both (Err d) (Err e) p.0 q.0 p.1 q.1 p.2 q.2

-- the laws of each text
pub record AreLaws : Type 0 where
  pub one_file : (text : List ℕ) → HasOneFile text
  pub one_fault : (text : List ℕ) → HasOneFault text
  pub not_both : (text : List ℕ) → DoesNotBoth text

Joins-one : (wrong : Wrong) (job : JobFields) (epoch : Option ℕ) (scans : List Scan) → AreOne (Joins wrong job epoch scans)
Joins-one wrong job epoch scans =
    Then-one (Is (answered (cause_answer job scans) (joined job (unwrap_or epoch job.epoch) scans))) (λ (plan : Plan). Is (unless (wrong plan.stations) plan))
    (Is-one (answered (cause_answer job scans) (joined job (unwrap_or epoch job.epoch) scans)))
    (λ plan. Is-one (unless (wrong plan.stations) plan))

JobOf-one : (files : Files) (name : List ℕ) (inline : Bool) → AreOne (JobOf files name inline)
JobOf-one files name inline =
    Then-one (Is (text_under files name (OfJob Job) 4194304)) (λ text. Is (answered job_answer (job_in inline text)))
    (Is-one (text_under files name (OfJob Job) 4194304)) (λ text. Is-one (answered job_answer (job_in inline text)))

ScheduleOf-one : AreLaws → (files : Files) (name : List ℕ) → AreOne (ScheduleOf files name)
ScheduleOf-one laws files name =
    Then-one (Is (text_under files name (OfJob Schedule) 8388608)) ScansOf (Is-one (text_under files name (OfJob Schedule) 8388608))
    (λ text. ScansOf-one text (laws.one_file text) (laws.one_fault text) (laws.not_both text))

pub PlanUnder-one : AreLaws → (files : Files) (wrong : Wrong) (job : List ℕ) (vex : Option (List ℕ)) (epoch : Option ℕ)
    → AreOne (PlanUnder files wrong job vex epoch)
PlanUnder-one laws files wrong job None epoch =
    Then-one (JobOf files job true) (λ fields. Joins wrong fields epoch (scans_of fields)) (JobOf-one files job true)
    (λ fields. Joins-one wrong fields epoch (scans_of fields))
PlanUnder-one laws files wrong job (Some vex) epoch =
    Then-one (ScheduleOf files vex) (λ scans. Then (JobOf files job false) (λ fields. Joins wrong fields epoch scans)) (ScheduleOf-one laws files vex)
    (λ scans. Then-one (JobOf files job false) (λ fields. Joins wrong fields epoch scans) (JobOf-one files job false) (λ fields. Joins-one wrong fields epoch scans))

-- ---- the plan, whatever length of an epoch is asked for, and whatever is looked at of the recordings

answered-plan : (job : JobFields) (epoch : ℕ) (scans : List Scan) (plan : Plan) → Is (answered (cause_answer job scans) (joined job epoch scans)) (Ok plan)
    → plan ≡ plan_of job scans
answered-plan job epoch scans plan is = by (refusal_of job epoch scans) refl
  where
    by : (o : Option JoinFault) → refusal_of job epoch scans ≡ o → plan ≡ plan_of job scans
    by (Some fault) none =
        let e : joined job epoch scans ≡ Err fault = rw none in
        let same : Ok plan ≡ Err (cause_answer job scans fault) = is ∙ ap (answered (cause_answer job scans)) e in
        absurd cc
    by None none =
        let e : joined job epoch scans ≡ Ok (plan_of job scans) = rw none in
        let same : Ok plan ≡ Ok (plan_of job scans) = is ∙ ap (answered (cause_answer job scans)) e in
        cc

unless-plan : (o : Option Answer) (plan a : Plan) → Is (unless o plan) (Ok a) → a ≡ plan
unless-plan None plan a is = cc
unless-plan (Some answer) plan a is = absurd cc

Joins-plan : (wrong : Wrong) (job : JobFields) (epoch : Option ℕ) (scans : List Scan) (a : Plan) → Joins wrong job epoch scans (Ok a) → a ≡ plan_of job scans
Joins-plan wrong job epoch scans a p =
    unless-plan (wrong p.0.stations) p.0 a p.2 ∙ answered-plan job (unwrap_or epoch job.epoch) scans p.0 p.1

ScansOf-same : (text : List ℕ) → HasOneFile text → (x y : List Scan) → ScansOf text (Ok x) → ScansOf text (Ok y) → x ≡ y
ScansOf-same text one x y p q =
    let same : Ok x ≡ Ok y = sym p.2 ∙ ap schedule_of (one p.0 q.0 p.1 q.1) ∙ q.2 in
    cc

ScheduleOf-same : ((text : List ℕ) → HasOneFile text) → (files : Files) (name : List ℕ) (x y : List Scan)
    → ScheduleOf files name (Ok x) → ScheduleOf files name (Ok y) → x ≡ y
ScheduleOf-same one files name x y p q =
    let both : Ok p.0 ≡ Ok q.0 = p.1 ∙ sym q.1 in
    let same : p.0 ≡ q.0 = cc in
    ScansOf-same q.0 (one q.0) x y (subst (λ (text : List ℕ). ScansOf text (Ok x)) same p.2) q.2

JobOf-same : (files : Files) (name : List ℕ) (inline : Bool) (x y : JobFields) → JobOf files name inline (Ok x) → JobOf files name inline (Ok y) → x ≡ y
JobOf-same files name inline x y p q =
    let both : Ok x ≡ Ok y = JobOf-one files name inline (Ok x) (Ok y) p q in
    cc

pub PlanUnder-plan : ((text : List ℕ) → HasOneFile text) → (files : Files) (wrong other : Wrong) (job : List ℕ) (vex : Option (List ℕ)) (epoch length : Option ℕ)
    (a b : Plan) → PlanUnder files wrong job vex epoch (Ok a) → PlanUnder files other job vex length (Ok b) → a ≡ b
PlanUnder-plan one files wrong other job None epoch length a b p q =
    Joins-plan wrong p.0 epoch (scans_of p.0) a p.2
    ∙ ap (λ (fields : JobFields). plan_of fields (scans_of fields)) (JobOf-same files job true p.0 q.0 p.1 q.1)
    ∙ sym (Joins-plan other q.0 length (scans_of q.0) b q.2)
PlanUnder-plan one files wrong other job (Some vex) epoch length a b p q =
    Joins-plan wrong p.2.0 epoch p.0 a p.2.2
    ∙ ap₂ plan_of (JobOf-same files job false p.2.0 q.2.0 p.2.1 q.2.1) (ScheduleOf-same one files vex p.0 q.0 p.1 q.1)
    ∙ sym (Joins-plan other q.2.0 length q.0 b q.2.2)
