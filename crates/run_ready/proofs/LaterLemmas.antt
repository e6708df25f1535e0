-- What a job comes to where more may be wrong: its files besides its texts, and its recordings besides its files.
use Rattle.std.specs.Prelude.{unwrap_or}
use Rattle.std.proofs.Common.{◌≡◌, ℕ, true, false, List, Option, None, Some, Result, Ok, Err, refl, sym, ap, subst, inl, inr}
use Rattle.corr_model.specs.Files.{Files}
use Rattle.scan_list.specs.declared.scan.Scan.{Scan}
use Rattle.job_text.specs.Job.{JobFields}
use Rattle.job_text.specs.Inline.{scans_of}
use Rattle.job_join.specs.Joined.{joined}
use Rattle.job_plan.specs.declared.plan.Plan.{Plan}
use Rattle.run_notes.specs.Answers.{Answer, words_answer, other_answer}
use Rattle.run_notes.specs.Refusals.{Outcomes, IsCause, due_answer}
use Rattle.run_notes.specs.declared.refusal.Refusal.{Refusal}
use Rattle.run_notes.specs.declared.refusal.Refusal.TheVariants.{Memory, Words, Due as DueRefusal, Other, Read, Journal, Write}
use Rattle.run_ready.specs.Due.{IsDue}
use Rattle.run_ready.specs.Steps.{Is, Then, answered, unless, or_else}
use Rattle.run_ready.specs.Stage.{IsOfFiles}
use Rattle.run_ready.specs.Recordings.{files_answer, first_foreign, recordings_answer}
use Rattle.run_ready.specs.Outcome.{cause_answer, Wrong, Joins, JobOf, ScheduleOf, PlanUnder, JoinOf, SurveyOf, PlanOf}

-- another outcome, which is the same where it is an answer
abbrev Stays : {A : Type 0} → Result A Answer → Result A Answer → Type 0
Stays {A} x y = (answer : Answer) → x ≡ Err answer → y ≡ Err answer

Then-turn : {A B : Type 0} (first : Outcomes A) (next other : A → Outcomes B) (x y : Result B Answer)
    → Stays x y → ((a : A) → next a x → other a y) → Then first next x → Then first other y
Then-turn first next other (Ok b) (Ok c) stays turn p = (p.0, p.1, turn p.0 p.2)
Then-turn first next other (Ok b) (Err d) stays turn p = inr (p.0, p.1, turn p.0 p.2)
Then-turn first next other (Err e) (Ok c) stays turn p = absurd (let h : Ok c ≡ Err e = stays e refl in cc)
Then-turn first next other (Err e) (Err d) stays turn (inl p) =
    let h : Err d ≡ Err e = stays e refl in
    let same : e ≡ d = cc in
    inl (subst (λ (a : Answer). first (Err a)) same p)
Then-turn first next other (Err e) (Err d) stays turn (inr p) = inr (p.0, p.1, turn p.0 p.2)

-- one outcome by what is wrong, another by what else is
abbrev Turns : Wrong → Wrong → Result Plan Answer → Result Plan Answer → Type 0
Turns w v x y = (plan : Plan) → x ≡ unless (w plan.stations) plan → y ≡ unless (v plan.stations) plan

Joins-turn : (w v : Wrong) (job : JobFields) (epoch : Option ℕ) (scans : List Scan) (x y : Result Plan Answer)
    → Stays x y → Turns w v x y → Joins w job epoch scans x → Joins v job epoch scans y
Joins-turn w v job epoch scans x y stays turns p =
    Then-turn (Is (answered (cause_answer job scans) (joined job (unwrap_or epoch job.epoch) scans)))
    (λ (plan : Plan). Is (unless (w plan.stations) plan)) (λ (plan : Plan). Is (unless (v plan.stations) plan)) x y stays turns p

PlanUnder-turn : (files : Files) (w v : Wrong) (job : List ℕ) (vex : Option (List ℕ)) (epoch : Option ℕ) (x y : Result Plan Answer)
    → Stays x y → Turns w v x y → PlanUnder files w job vex epoch x → PlanUnder files v job vex epoch y
PlanUnder-turn files w v job None epoch x y stays turns p =
    Then-turn (JobOf files job true) (λ fields. Joins w fields epoch (scans_of fields)) (λ fields. Joins v fields epoch (scans_of fields)) x y stays
    (λ fields. Joins-turn w v fields epoch (scans_of fields) x y stays turns) p
PlanUnder-turn files w v job (Some vex) epoch x y stays turns p =
    Then-turn (ScheduleOf files vex)
    (λ scans. Then (JobOf files job false) (λ fields. Joins w fields epoch scans)) (λ scans. Then (JobOf files job false) (λ fields. Joins v fields epoch scans)) x y stays
    (λ scans. Then-turn (JobOf files job false) (λ fields. Joins w fields epoch scans) (λ fields. Joins v fields epoch scans) x y stays
    (λ fields. Joins-turn w v fields epoch scans x y stays turns)) p

-- a plan that the texts give becomes what else is found
turns-found : (w : Wrong) (plan : Plan) (o : Option Answer) → w plan.stations ≡ o → Turns (λ stations. None) w (Ok plan) (unless o plan)
turns-found w plan o found other is =
    let given : Ok plan ≡ Ok other = is in
    let same : plan ≡ other = cc in
    subst (λ (p : Plan). unless o plan ≡ unless (w p.stations) p) same (ap (λ v. unless v plan) (sym found))

turns-none : (w : Wrong) (answer : Answer) → Turns (λ stations. None) w (Err answer) (Err answer)
turns-none w answer other is = absurd (let given : Err answer ≡ Ok other = is in cc)

pub PlanUnder-found : (files : Files) (w : Wrong) (job : List ℕ) (vex : Option (List ℕ)) (epoch : Option ℕ) (plan : Plan) (o : Option Answer) → w plan.stations ≡ o
    → JoinOf files job vex epoch (Ok plan) → PlanUnder files w job vex epoch (unless o plan)
PlanUnder-found files w job vex epoch plan o found is =
    PlanUnder-turn files (λ stations. None) w job vex epoch (Ok plan) (unless o plan) (λ answer e. absurd (cc)) (turns-found w plan o found) is

-- the cause that texts are refused for
pub IsCause-texts : (files : Files) (w : Wrong) (job : List ℕ) (vex : Option (List ℕ)) (epoch : Option ℕ) (r : Refusal) → IsOfFiles r
    → IsCause r (JoinOf files job vex epoch) → IsCause r (PlanUnder files w job vex epoch)
IsCause-texts files w job vex epoch Memory stage cause = tt
IsCause-texts files w job vex epoch (Words fault) stage cause = absurd stage
IsCause-texts files w job vex epoch (DueRefusal due) stage cause =
    PlanUnder-turn files (λ stations. None) w job vex epoch (Err (due_answer due)) (Err (due_answer due)) (λ answer e. e) (turns-none w (due_answer due)) cause
IsCause-texts files w job vex epoch (Other d) stage cause = absurd stage
IsCause-texts files w job vex epoch Read stage cause = tt
IsCause-texts files w job vex epoch (Journal kept) stage cause = absurd stage
IsCause-texts files w job vex epoch Write stage cause = absurd stage

-- and the one that is found behind them
pub IsCause-found : (files : Files) (w : Wrong) (job : List ℕ) (vex : Option (List ℕ)) (epoch : Option ℕ) (plan : Plan) (r : Refusal) → JoinOf files job vex epoch (Ok plan)
    → IsDue r (w plan.stations) → IsCause r (PlanUnder files w job vex epoch)
IsCause-found files w job vex epoch plan Memory is due = tt
IsCause-found files w job vex epoch plan (Words fault) is due = PlanUnder-found files w job vex epoch plan (Some (words_answer fault)) due is
IsCause-found files w job vex epoch plan (DueRefusal d) is due = PlanUnder-found files w job vex epoch plan (Some (due_answer d)) due is
IsCause-found files w job vex epoch plan (Other x) is due = PlanUnder-found files w job vex epoch plan (Some (other_answer x)) due is
IsCause-found files w job vex epoch plan Read is due = tt
IsCause-found files w job vex epoch plan (Journal kept) is due = absurd due
IsCause-found files w job vex epoch plan Write is due = absurd due

-- a plan whose files stand becomes what its recordings come to
turns-plan : (files : Files) (plan : Plan) (o : Option Answer) → first_foreign files plan.stations ≡ o
    → Turns (files_answer files) (recordings_answer files) (Ok plan) (unless o plan)
unfolding recordings_answer
turns-plan files plan o held other is = by (files_answer files other.stations) is
  where
    by : (v : Option Answer) → Ok plan ≡ unless v other → unless o plan ≡ unless (or_else v (first_foreign files other.stations)) other
    by None e =
        let same : plan ≡ other = cc in
        subst (λ (p : Plan). unless o plan ≡ unless (first_foreign files p.stations) p) same (ap (λ w. unless w plan) (sym held))
    by (Some answer) e = absurd cc

-- and an answer stays
turns-answer : (files : Files) (answer : Answer) → Turns (files_answer files) (recordings_answer files) (Err answer) (Err answer)
unfolding recordings_answer
turns-answer files answer other is = by (files_answer files other.stations) is
  where
    by : (v : Option Answer) → Err answer ≡ unless v other → Err answer ≡ unless (or_else v (first_foreign files other.stations)) other
    by None e = absurd cc
    by (Some told) e = e

pub PlanOf-plan : (files : Files) (job : List ℕ) (vex : Option (List ℕ)) (epoch : Option ℕ) (plan : Plan) (o : Option Answer) → first_foreign files plan.stations ≡ o
    → SurveyOf files job vex epoch (Ok plan) → PlanOf files job vex epoch (unless o plan)
PlanOf-plan files job vex epoch plan o held is =
    PlanUnder-turn files (files_answer files) (recordings_answer files) job vex epoch (Ok plan) (unless o plan)
    (λ answer e. absurd (cc)) (turns-plan files plan o held) is

-- the cause that a survey is refused for
pub IsCause-surveyed : (files : Files) (job : List ℕ) (vex : Option (List ℕ)) (epoch : Option ℕ) (r : Refusal) → IsOfFiles r → IsCause r (SurveyOf files job vex epoch) → IsCause r (PlanOf files job vex epoch)
IsCause-surveyed files job vex epoch Memory stage cause = tt
IsCause-surveyed files job vex epoch (Words fault) stage cause = absurd stage
IsCause-surveyed files job vex epoch (DueRefusal due) stage cause =
    PlanUnder-turn files (files_answer files) (recordings_answer files) job vex epoch (Err (due_answer due)) (Err (due_answer due))
    (λ answer e. e) (turns-answer files (due_answer due)) cause
IsCause-surveyed files job vex epoch (Other d) stage cause = absurd stage
IsCause-surveyed files job vex epoch Read stage cause = tt
IsCause-surveyed files job vex epoch (Journal kept) stage cause = absurd stage
IsCause-surveyed files job vex epoch Write stage cause = absurd stage

-- and the one that its recordings are
pub IsCause-foreign : (files : Files) (job : List ℕ) (vex : Option (List ℕ)) (epoch : Option ℕ) (plan : Plan) (r : Refusal) → SurveyOf files job vex epoch (Ok plan)
    → IsDue r (first_foreign files plan.stations) → IsCause r (PlanOf files job vex epoch)
IsCause-foreign files job vex epoch plan Memory is due = tt
IsCause-foreign files job vex epoch plan (Words fault) is due = PlanOf-plan files job vex epoch plan (Some (words_answer fault)) due is
IsCause-foreign files job vex epoch plan (DueRefusal d) is due = PlanOf-plan files job vex epoch plan (Some (due_answer d)) due is
IsCause-foreign files job vex epoch plan (Other x) is due = PlanOf-plan files job vex epoch plan (Some (other_answer x)) due is
IsCause-foreign files job vex epoch plan Read is due = tt
IsCause-foreign files job vex epoch plan (Journal kept) is due = absurd due
IsCause-foreign files job vex epoch plan Write is due = absurd due
