-- Calls that sum one after another.
use Rattle.std.specs.Prelude.{is_some, map, slice_get}
use Rattle.std.proofs.Common.{◌≡◌, ◌∙◌, ◌⊎◌, inl, inr, ℕ, zero, suc, ◌≤◌, true, List, [], ◌∷◌, Option, Some, None, Ok, refl, sym, ap, subst, arith}
use Rattle.std.proofs.lemmas.List.Elements.{All-nil}
use Rattle.dev_traits.specs.Told.{more, WhereTold}
use Rattle.corr_model.specs.Files.{Files}
use Rattle.piece_plan.specs.Order.{CoverJob}
use Rattle.job_plan.specs.declared.plan.Plan.{Plan}
use Rattle.job_epochs.specs.Sizes.{sizes_of}
use Rattle.journal_image.specs.Image.{is_blank, KeptEpoch}
use Rattle.run_ready.specs.Outcome.{Wrong, PlanUnder}
use Rattle.vlbi_core.specs.Calls.{Part, Call, end_text, part_sizes, KeepsAtLeast, KeepsAll}
use Rattle.vlbi_core.specs.Texts.{IsSums}
use Rattle.vlbi_core.specs.Restart.{IsHonest, AllKeep, StaysHonest}
use Rattle.vlbi_core.specs.Histories.{IsRunBy, IsSameJob, End, Answered, Crashed, Step, stop, Left, IsEnd, IsStep, IsHistory, IsLater, Holds, AreAlike}
use Rattle.vlbi_core.proofs.TopLemmas.{PartsHavePlan, plan-at}

-- ---- calls for one job

-- the law of plans for one job, whatever the length of an epoch
abbrev pub OnePlan : Type 0
OnePlan =
    (files : Files) (wrong other : Wrong) (job : List ℕ) (vex : Option (List ℕ)) (epoch length : Option ℕ) (a b : Plan)
    → PlanUnder files wrong job vex epoch (Ok a) → PlanUnder files other job vex length (Ok b) → a ≡ b

plan-by : PartsHavePlan → (files : Files) (words : List (List ℕ)) (call : Call) → IsRunBy files words call
    → (wrong : Wrong) × PlanUnder files wrong call.job call.vex call.epoch (Ok call.plan)
plan-by parts files words call by = plan-at parts files by.outcome.0 call by.outcome.2

-- calls for one job, or for one part of it, have one plan
same-plan : OnePlan → PartsHavePlan → (files : Files) (first second : List (List ℕ)) (a b : Call) → IsRunBy files first a → IsRunBy files second b → IsSameJob a b
    → a.plan ≡ b.plan
same-plan law parts files first second a b one two same =
    let here = plan-by parts files first a one in
    let other = plan-by parts files second b two in
    let there : PlanUnder files other.0 a.job a.vex b.epoch (Ok b.plan) =
    subst (λ (job : List ℕ). PlanUnder files other.0 job a.vex b.epoch (Ok b.plan)) (sym same.job)
    (subst (λ (vex : Option (List ℕ)). PlanUnder files other.0 b.job vex b.epoch (Ok b.plan)) (sym same.vex) other.1) in
    law files here.0 other.0 a.job a.vex a.epoch b.epoch a.plan b.plan here.1 there

-- and calls that differ in the length of an epoch alone are alike
by-fields : (files : Files) (a b : Call) → IsSameJob a b → a.plan ≡ b.plan → AreAlike files a b
by-fields files a b same plans =
    subst (λ (plan : Plan). AreAlike files a (record b { plan = plan })) plans
    (subst (λ (part : Option Part). AreAlike files a (record b { part = part; plan = a.plan })) same.part
    (subst (λ (vex : Option (List ℕ)). AreAlike files a (record b { vex = vex; part = a.part; plan = a.plan })) same.vex
    (subst (λ (job : List ℕ). AreAlike files a (record b { job = job; vex = a.vex; part = a.part; plan = a.plan })) same.job
    (record { honest = λ image h. record { kept = h.kept; keeps = h.keeps; sums = h.sums }; kept = λ image kept keeps. keeps; plan = refl }))))

pub alike : OnePlan → PartsHavePlan → (files : Files) (first second : List (List ℕ)) (a b : Call) → IsRunBy files first a → IsRunBy files second b → IsSameJob a b → AreAlike files a b
alike law parts files first second a b one two same = by-fields files a b same (same-plan law parts files first second a b one two same)

-- ---- what a call leaves, said of another call for the job

blank-honest : (files : Files) (call : Call) (image : List ℕ) → is_blank image ≡ true → IsHonest files call image
blank-honest files call image blank = record { kept = []; keeps = inl (blank, refl); sums = All-nil (λ (k : KeptEpoch). IsSums files call.plan k.epoch k.body) }

begun-honest : (files : Files) (call : Call) (image : List ℕ) → (is_blank image ≡ true) ⊎ IsHonest files call image → IsHonest files call image
begun-honest files call image (inl blank) = blank-honest files call image blank
begun-honest files call image (inr honest) = honest

-- so many epochs, and epochs that cover the job, said of the other call
least-alike : (files : Files) (a b : Call) → AreAlike files a b → (image : List ℕ) (n : ℕ) → KeepsAtLeast files a image n → KeepsAtLeast files b image n
least-alike files a b same image n least = record { kept = least.kept; keeps = same.kept image least.kept least.keeps; many = least.many }

all-alike : (files : Files) (a b : Call) → AreAlike files a b → a.part ≡ b.part → (image : List ℕ) → KeepsAll files a image → KeepsAll files b image
all-alike files a b same parts image whole = record {
  kept = whole.kept;
  keeps = same.kept image whole.kept whole.keeps;
  all = subst (λ (part : Option Part). CoverJob (part_sizes part (sizes_of b.plan)) (map (λ (k : KeptEpoch). k.epoch) whole.kept)) parts
      (subst (λ (plan : Plan). CoverJob (part_sizes a.part (sizes_of plan)) (map (λ (k : KeptEpoch). k.epoch) whole.kept)) same.plan whole.all);
}

-- what calls append is that of the part and the plan
text-of : (files : Files) (a b : Call) (part : Option Part) (plan : Plan) → end_text files (record a { part = part; plan = plan }) ≡ end_text files (record b { part = part; plan = plan })
text-of files a b None plan = refl
text-of files a b (Some part) plan = refl

text-alike : (files : Files) (a b : Call) → a.part ≡ b.part → a.plan ≡ b.plan → end_text files a ≡ end_text files b
text-alike files a b parts plans =
    ap (λ (part : Option Part). end_text files (record a { part = part })) parts
    ∙ ap (λ (plan : Plan). end_text files (record a { part = b.part; plan = plan })) plans ∙ text-of files a b b.part b.plan

told_there : (told : Option (List ℕ)) (P : Type 0) → is_some told ≡ true → WhereTold told (λ image. P) → P
told_there None P some fact = absurd cc
told_there (Some image) P some fact = fact

no_step : {A : Type 0} (i : ℕ) (a : A) → slice_get [] i ≡ Some a → ⊥
no_step i a is = cc

first_step : {A : Type 0} (a b : A) (rest : List A) → slice_get (a ∷ rest) 0 ≡ Some b → a ≡ b
first_step a b rest is = cc

next_step : {A : Type 0} (a b : A) (rest : List A) (i : ℕ) → slice_get (a ∷ rest) (suc i) ≡ Some b → slice_get rest i ≡ Some b
next_step a b rest i is = is

module _ {D : Type 0} (seen : D → Option (List ℕ)) (moment : D → ℕ) (may_leave : D → ℕ → List ℕ → Type 0) where
  as-job : (files : Files) (call job : Call) (status : ℕ) (old new : D) → AreAlike files call job → AreAlike files job call → call.part ≡ job.part
      → StaysHonest files call status moment may_leave old new → StaysHonest files job status moment may_leave old new
  as-job files call job status old new same back parts stays = record {
    later = stays.later;
    past = stays.past;
    honest = λ t image low high now. same.honest image (stays.honest t image low high now);
    never_falls = λ t t' n low up high all image now. least-alike files call job same image n
        (stays.never_falls t t' n low up high (λ v there. least-alike files job call back v n (all v there)) image now);
    all = λ done image now. all-alike files call job same parts image (stays.all done image now);
  }

  -- ---- how a call ended

  stop-low : (end : End) (old new : D) → moment old ≤ moment new → IsEnd seen moment may_leave end old new → moment old ≤ stop seen moment may_leave end new
  stop-low Answered old new later is = later
  stop-low (Crashed t left) old new later is = is.0

  stop-high : (end : End) (old new : D) → IsEnd seen moment may_leave end old new → stop seen moment may_leave end new ≤ moment new
  stop-high Answered old new is = omega arith
  stop-high (Crashed t left) old new is = is.1.0

  left-there : (end : End) (old new : D) → IsEnd seen moment may_leave end old new
      → (image : List ℕ) → Left seen moment may_leave end new image → may_leave new (stop seen moment may_leave end new) image
  left-there Answered old new is image now = now
  left-there (Crashed t left) old new is image same = subst (λ (v : List ℕ). may_leave new t v) (sym same) is.1.1

  -- ---- histories

  module _ (law : OnePlan) (parts : PartsHavePlan) (files : Files) (words : List (List ℕ)) (job : Call) (base : IsRunBy files words job) where
    back : (images : List ℕ → Type 0) (step : Step D) → IsStep seen moment may_leave files job images step → AreAlike files step.call job
    back images step is = alike law parts files step.words words step.call job is.runs base
        (record { job = sym is.same.job; vex = sym is.same.vex; part = sym is.same.part })

    stays : (images : List ℕ → Type 0) → ((image : List ℕ) → images image → (is_blank image ≡ true) ⊎ IsHonest files job image)
        → (step : Step D) → IsStep seen moment may_leave files job images step → StaysHonest files job step.status moment may_leave step.old step.new
    stays images each step is =
        let there = alike law parts files words step.words job step.call base is.runs is.same in
        as-job files step.call job step.status step.old step.new (back images step is) there (sym is.same.part)
        (is.restart step.call is.runs.outcome (record {
          run = is.runs.run;
          honest = λ image now. there.honest image (begun-honest files job image (each image (is.begins image now)));
        }))

    appends : (images : List ℕ → Type 0) → ((image : List ℕ) → images image → (is_blank image ≡ true) ⊎ IsHonest files job image)
        → (step : Step D) → IsStep seen moment may_leave files job images step → step.status ≡ 0 → step.told_new ≡ more step.told_old (end_text files job)
    appends images each step is done =
        let there = alike law parts files words step.words job step.call base is.runs is.same in
        let here = told_there (seen step.old) _ is.tells is.headline in
        here step.call is.runs.outcome (record {
          run = is.runs.run;
          honest = λ image now. there.honest image (begun-honest files job image (each image (is.begins image now)));
        }) done
        ∙ ap (more step.told_old) (text-alike files step.call job (sym is.same.part) (back images step is).plan)

    left-honest : (step : Step D) → StaysHonest files job step.status moment may_leave step.old step.new → IsEnd seen moment may_leave step.end step.old step.new
        → (image : List ℕ) → Left seen moment may_leave step.end step.new image → (is_blank image ≡ true) ⊎ IsHonest files job image
    left-honest step keeps ends image now = inr (keeps.honest (stop seen moment may_leave step.end step.new) image
        (stop-low step.end step.old step.new keeps.later ends) (stop-high step.end step.old step.new ends) (left-there step.end step.old step.new ends image now))

    -- what each image on entry counts, each image of every moment of the call counts
    entry-kept : (images : List ℕ → Type 0) (step : Step D) → IsStep seen moment may_leave files job images step
        → StaysHonest files job step.status moment may_leave step.old step.new → (n : ℕ) → AllKeep files job images n
        → (t : ℕ) → moment step.old ≤ t → t ≤ moment step.new → AllKeep files job (may_leave step.new t) n
    entry-kept images step is keeps n all t low high =
        keeps.never_falls (moment step.old) t n (omega arith) low high
        (λ image now. all image (is.begins image (keeps.past (moment step.old) image (omega arith) now)))

    -- and from a moment of the call on, what it leaves
    left-kept : (step : Step D) → StaysHonest files job step.status moment may_leave step.old step.new → IsEnd seen moment may_leave step.end step.old step.new
        → (t n : ℕ) → moment step.old ≤ t → t ≤ stop seen moment may_leave step.end step.new → AllKeep files job (may_leave step.new t) n
        → AllKeep files job (Left seen moment may_leave step.end step.new) n
    left-kept step keeps ends t n low up all image now =
        keeps.never_falls t (stop seen moment may_leave step.end step.new) n low up (stop-high step.end step.old step.new ends) all image
        (left-there step.end step.old step.new ends image now)

    later-kept : (images : List ℕ → Type 0) → ((image : List ℕ) → images image → (is_blank image ≡ true) ⊎ IsHonest files job image)
        → (steps : List (Step D)) → IsHistory seen moment may_leave files job images steps → (n : ℕ) → AllKeep files job images n
        → (j : ℕ) (b : Step D) → slice_get steps j ≡ Some b
        → (t : ℕ) → moment b.old ≤ t → t ≤ moment b.new → AllKeep files job (may_leave b.new t) n
    later-kept images each [] is n all j b at t low high = absurd (no_step j b at)
    later-kept images each (step ∷ later) is n all zero b at t low high =
        subst (λ (s : Step D). (t : ℕ) → moment s.old ≤ t → t ≤ moment s.new → AllKeep files job (may_leave s.new t) n) (first_step step b later at)
        (entry-kept images step is.0 (stays images each step is.0) n all) t low high
    later-kept images each (step ∷ later) is n all (suc j) b at t low high =
        let keeps = stays images each step is.0 in
        let ends = is.0.ends in
        let begun = entry-kept images step is.0 keeps n all (moment step.old) (omega arith) keeps.later in
        later-kept (Left seen moment may_leave step.end step.new) (left-honest step keeps ends) later is.1 n
        (left-kept step keeps ends (moment step.old) n (omega arith) (stop-low step.end step.old step.new keeps.later ends) begun) j b (next_step step b later j at) t low high

    more-holds : (images : List ℕ → Type 0) → ((image : List ℕ) → images image → (is_blank image ≡ true) ⊎ IsHonest files job image)
        → (step : Step D) (later : List (Step D)) → IsHistory seen moment may_leave files job images (step ∷ later)
        → StaysHonest files job step.status moment may_leave step.old step.new → Holds seen moment may_leave files job later
        → Holds seen moment may_leave files job (step ∷ later)
    more-holds images each step later is keeps rest = record {
      honest = honest;
      kept = kept;
      output = appended;
      all = whole;
    }
      where
        honest : (i : ℕ) (s : Step D) → slice_get (step ∷ later) i ≡ Some s
            → (t : ℕ) (image : List ℕ) → moment s.old ≤ t → t ≤ moment s.new → may_leave s.new t image → IsHonest files job image
        honest zero s at = subst (λ (s : Step D). (t : ℕ) (image : List ℕ) → moment s.old ≤ t → t ≤ moment s.new → may_leave s.new t image → IsHonest files job image)
            (first_step step s later at) keeps.honest
        honest (suc i) s at = rest.honest i s (next_step step s later i at)

        appended : (i : ℕ) (s : Step D) → slice_get (step ∷ later) i ≡ Some s → s.status ≡ 0 → s.told_new ≡ more s.told_old (end_text files job)
        appended zero s at = subst (λ (s : Step D). s.status ≡ 0 → s.told_new ≡ more s.told_old (end_text files job)) (first_step step s later at)
            (appends images each step is.0)
        appended (suc i) s at = rest.output i s (next_step step s later i at)

        whole : (i : ℕ) (s : Step D) → slice_get (step ∷ later) i ≡ Some s → s.status ≡ 0
            → (image : List ℕ) → may_leave s.new (moment s.new) image → KeepsAll files job image
        whole zero s at = subst (λ (s : Step D). s.status ≡ 0 → (image : List ℕ) → may_leave s.new (moment s.new) image → KeepsAll files job image)
            (first_step step s later at) keeps.all
        whole (suc i) s at = rest.all i s (next_step step s later i at)

        Kept : Step D → Step D → ℕ → ℕ → ℕ → ℕ → Type 0
        Kept a b i j t t' =
            (n : ℕ) → moment a.old ≤ t → t ≤ moment a.new → moment b.old ≤ t' → t' ≤ moment b.new → IsLater seen moment may_leave i a t j t'
            → AllKeep files job (may_leave a.new t) n → AllKeep files job (may_leave b.new t') n

        within : (t t' : ℕ) → Kept step step 0 0 t t'
        within t t' n low high low' high' (inl less) all = absurd (omega (arith, less.0))
        within t t' n low high low' high' (inr up) all = keeps.never_falls t t' n low up.1 high' all

        across : (j : ℕ) (b : Step D) → slice_get later j ≡ Some b → (t t' : ℕ) → Kept step b 0 (suc j) t t'
        across j b at t t' n low high low' high' (inl up) all =
            later-kept (Left seen moment may_leave step.end step.new) (left-honest step keeps is.0.ends) later is.1 n
            (left-kept step keeps is.0.ends t n low up.1 all) j b at t' low' high'
        across j b at t t' n low high low' high' (inr same) all = absurd (omega (arith, same.0))

        kept : (i j : ℕ) (a b : Step D) → slice_get (step ∷ later) i ≡ Some a → slice_get (step ∷ later) j ≡ Some b → (t t' : ℕ) → Kept a b i j t t'
        kept zero zero a b at at' t t' = subst (λ (s : Step D). Kept s b 0 0 t t') (first_step step a later at)
            (subst (λ (s : Step D). Kept step s 0 0 t t') (first_step step b later at') (within t t'))
        kept zero (suc j) a b at at' t t' = subst (λ (s : Step D). Kept s b 0 (suc j) t t') (first_step step a later at)
            (across j b (next_step step b later j at') t t')
        kept (suc i) zero a b at at' t t' = λ n low high low' high' is. absurd (nothing_later is)
          where
            nothing_later : IsLater seen moment may_leave (suc i) a t 0 t' → ⊥
            nothing_later (inl less) = omega (arith, less.0)
            nothing_later (inr same) = omega (arith, same.0)
        kept (suc i) (suc j) a b at at' t t' = λ n low high low' high' is.
            rest.kept i j a b (next_step step a later i at) (next_step step b later j at') t t' n low high low' high' (shifted is)
          where
            shifted : IsLater seen moment may_leave (suc i) a t (suc j) t' → IsLater seen moment may_leave i a t j t'
            shifted (inl up) = inl (omega (arith, up.0), up.1)
            shifted (inr up) = inr (omega (arith, up.0), up.1)

    pub holds : (images : List ℕ → Type 0) → ((image : List ℕ) → images image → (is_blank image ≡ true) ⊎ IsHonest files job image)
        → (steps : List (Step D)) → IsHistory seen moment may_leave files job images steps → Holds seen moment may_leave files job steps
    holds images each [] is = record {
      honest = λ i step at. absurd (no_step i step at);
      kept = λ i j a b at. absurd (no_step i a at);
      output = λ i step at. absurd (no_step i step at);
      all = λ i step at. absurd (no_step i step at);
    }
    holds images each (step ∷ later) is =
        let keeps = stays images each step is.0 in
        more-holds images each step later is keeps (holds (Left seen moment may_leave step.end step.new) (left-honest step keeps is.0.ends) later is.1)
