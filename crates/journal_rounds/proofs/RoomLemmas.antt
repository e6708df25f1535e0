-- When a journal is full.
use Rattle.std.proofs.Common.{◌≡◌, ◌∙◌, ◌⊎◌, inl, inr, ℕ, ◌+◌, ◌*◌, ◌^◌, ◌<◌, ◌≤◌, List, [], ◌++◌, length, Option, None, Some, option_map, refl, sym, ap, subst, arith, append-nil, length-append}
use Rattle.dev_traits.specs.Fault.{HasRisen}
use Rattle.dev_traits.specs.Told.{WhereTold}
use Rattle.piece_plan.specs.declared.epoch.EpochPlan.{EpochPlan}
use Rattle.piece_plan.specs.Epochs.{JobSizes, IsJob, cell_count}
use Rattle.piece_plan.specs.Order.{Place}
use Rattle.plan_places.specs.Places.{place_at}
use Rattle.plan_places.specs.Walk.{AreLeft, IsWalk}
use Rattle.journal_rounds.proofs.WalkLemmas.{walk-alone}
use Rattle.checkpoint_journal.specs.Runs.{StepTold, KeepsEpochs}
use Rattle.journal_image.specs.Image.{Due, KeptEpoch, IsIdentity, records, Keeps, gate_of}
use Rattle.journal_image.proofs.ReadingLemmas.{keeps_one}
use Rattle.checkpoint_journal.specs.declared.fault.OpenFault.{OpenFault}
use Rattle.checkpoint_journal.specs.declared.fault.OpenFault.TheVariants.{Disk, Other as OtherJob, Memory as NoMemory}
use Rattle.checkpoint_journal.specs.Faults.{HasNoRoom, LacksRoom, CountsFault}
use Rattle.checkpoint_journal.specs.Standing.{JournalState, Knows}
use Rattle.journal_rounds.specs.Counted.{IsFull, CountsJournalFault}
use Rattle.journal_rounds.specs.Extended.{BodyOf, Extends}
use Rattle.journal_rounds.specs.Room.{IsLong, HasNoPlace}
use Rattle.journal_rounds.specs.Steps.{opening_fault, StaysFull, IsLongOpened, Begins}
use Rattle.journal_rounds.proofs.ExtendLemmas.{knows_keeps}
use Rattle.journal_rounds.proofs.GateLemmas.{least_of, most_of, AreSized, most_of-append, sized-old, sized-more, most-by-least, most-by-count, kept-sized, kept-long, gate-below, gate-above, gate-old}
use Rattle.journal_rounds.proofs.KeptLemmas.{due-same}

-- what is kept stands in as many bytes, or the image is blank
long_enough : (id : List ℕ) (job : JobSizes) (v : List ℕ) (kept : List KeptEpoch) → Keeps id job v kept → (1 + length id + least_of kept < length v) ⊎ (least_of kept ≡ 0)
long_enough id job v kept (inl blank) = inr (ap least_of blank.1)
long_enough id job v kept (inr said) =
    let here = kept-long id job v said.0 said.1 in
    inl (subst (λ (l : List KeptEpoch). 1 + length id + least_of l < length v) (sym said.2) here)

-- the bytes of a gate with so many further epochs behind those that a shorter file has kept
too_few : (id_size least most more n size gate long : ℕ) → id_size < 2 ^ 62 → 49 * most ≤ 77 * least → more ≤ 100663325 * n → n ≤ 2 ^ 32
    → size ≤ 28 + 24 * 4194304 → gate ≤ 26 + id_size + (most + more) → HasNoRoom gate size → (1 + id_size + least < long) ⊎ (least ≡ 0) → 2 ^ 62 ≤ long
too_few id_size least most more n size gate long short ranges each few small below full (inl inside) = omega arith
too_few id_size least most more n size gate long short ranges each few small below full (inr blank) = absurd (omega arith)

-- ---- the opening

-- an old journal without room for its mark
old_full : (id : List ℕ) (job : JobSizes) (v : List ℕ) → LacksRoom id job v → 2 ^ 62 ≤ length v
old_full id job v lacks =
    omega (arith, lacks.full, gate-old id job v lacks.reading lacks.reads lacks.old, kept-long id job v lacks.reading lacks.reads)

full_still : (id : List ℕ) (job : JobSizes) (v image : List ℕ) → length id < 2 ^ 62 → KeepsEpochs id job v image → LacksRoom id job v → IsFull id job image
full_still id job v image short same lacks =
    let kept = records lacks.reading.things in
    of_keeps kept refl ((same kept).0 (inr (lacks.reading, lacks.reads, refl)))
  where
    of_keeps : (kept : List KeptEpoch) → kept ≡ records lacks.reading.things → Keeps id job image kept → IsFull id job image
    of_keeps kept is (inl blank) =
        let none : least_of (records lacks.reading.things) ≡ 0 = ap least_of (sym is ∙ blank.1) in
        absurd (omega (arith, lacks.full, short, none, gate-old id job v lacks.reading lacks.reads lacks.old))
    of_keeps kept is (inr said) =
        let equal : least_of (records said.0.things) ≡ least_of (records lacks.reading.things) = ap least_of (sym said.2 ∙ is) in
        record {
          reading = said.0;
          reads = said.1;
          size = 24;
          most = omega arith;
          full = omega (arith, lacks.full, equal, gate-old id job v lacks.reading lacks.reads lacks.old, gate-above id job said.0);
        }

pub opened_full : (id : List ℕ) (job : JobSizes) (old new : Option (List ℕ)) → length id < 2 ^ 62 → StepTold (KeepsEpochs id job) old new → WhereTold old (LacksRoom id job)
    → IsLongOpened id job old new
opened_full id job None None short step lacks = record { full = tt; long = tt }
opened_full id job None (Some image) short step lacks = absurd step
opened_full id job (Some v) None short step lacks = absurd step
opened_full id job (Some v) (Some image) short step lacks = record { full = full_still id job v image short step lacks; long = old_full id job v lacks }

pub opened-no_place : (id : List ℕ) (job : JobSizes) (epoch : ℕ) (old new : Option (List ℕ)) → IsLongOpened id job old new → HasNoPlace id job epoch old new
opened-no_place id job epoch old new is = record { full = is.full; long = of_told old is.long }
  where
    of_told : (o : Option (List ℕ)) → WhereTold o (λ image. 2 ^ 62 ≤ length image) → WhereTold o (IsLong id job epoch)
    of_told None long = tt
    of_told (Some v) long = λ due n is_due are few. long

-- ---- an append

pub stays_full : (id : List ℕ) (job : JobSizes) (j : JournalState) (e : EpochPlan) (cells : ℕ) (old new : Option (List ℕ)) → new ≡ old → WhereTold old (Knows id job j)
    → cells ≡ cell_count e → cell_count e ≤ 4194304 → HasNoRoom j.end.gate (28 + 24 * cells) → StaysFull id job old new
stays_full id job j e cells old new same knows count few full = record { same = same; full = of_told old knows }
  where
    of_told : (o : Option (List ℕ)) → WhereTold o (Knows id job j) → WhereTold o (IsFull id job)
    of_told None known = tt
    of_told (Some v) known = record {
      reading = known.reading;
      reads = known.reads;
      size = 28 + 24 * cells;
      most = omega (arith, count, few);
      full = omega (arith, full, known.end.gate);
    }

-- ---- what a journal keeps on entry, and the epochs that are to come

pub begins : (id : List ℕ) (job : JobSizes) (epoch left : ℕ) (j : JournalState) (v image : List ℕ) → KeepsEpochs id job v image → Knows id job j image
    → AreLeft job epoch (option_map place_at j.end.next) left → Begins id job epoch (j.end.kept + left) v
begins id job epoch left j v image same knows are =
    let kept = records knows.reading.things in
    let keeps : Keeps id job v kept = (same kept).1 (knows_keeps id job j image knows) in
    let here : option_map place_at j.end.next ≡ knows.reading.due.place = ap (λ (d : Due). d.place) knows.end.due in
    record {
      old = kept;
      keeps = keeps;
      left = λ due n is_due others.
          let there : due ≡ option_map place_at j.end.next = due-same id job v image kept due knows.reading keeps is_due knows.reads refl ∙ sym here in
          let walk : IsWalk job epoch due are.epochs = subst (λ (d : Option Place). IsWalk job epoch d are.epochs) (sym there) are.walk in
          let one : others.epochs ≡ are.epochs = walk-alone job epoch due others.epochs are.epochs others.walk walk in
          let many : left ≡ n = are.many ∙ ap length (sym one) ∙ sym others.many in
          omega (arith, knows.end.kept, many);
    }

pub begins_told : (id : List ℕ) (job : JobSizes) (epoch left : ℕ) (j : JournalState) (old new : Option (List ℕ)) → StepTold (KeepsEpochs id job) old new → WhereTold new (Knows id job j)
    → AreLeft job epoch (option_map place_at j.end.next) left → WhereTold old (Begins id job epoch (j.end.kept + left))
begins_told id job epoch left j None new step knows are = tt
begins_told id job epoch left j (Some v) None step knows are = absurd step
begins_told id job epoch left j (Some v) (Some image) step knows are = begins id job epoch left j v image step knows are

-- ---- a round

-- a journal that is full while so many epochs are left was long on entry
was_long : (Is : BodyOf) (id : List ℕ) (job : JobSizes) (epoch left : ℕ) (j : JournalState) (v image : List ℕ) → IsIdentity id → IsJob job → length id < 2 ^ 62
    → Begins id job epoch (j.end.kept + left) v → Extends Is id job v image → Knows id job j image → IsFull id job image → IsLong id job epoch v
was_long Is id job epoch left j v image named is short begins goes knows full due n is_due are few =
    of_step goes
  where
    all : j.end.kept + left ≡ length begins.old + n
    all = begins.left due n is_due are

    of_lists : (old more : List KeptEpoch) → Keeps id job v old → Keeps id job image (old ++ more) → 2 ^ 62 ≤ length v
    of_lists old more before after =
        let first : old ≡ begins.old = keeps_one id job v named is old begins.old before begins.keeps in
        let second : old ++ more ≡ records full.reading.things = keeps_one id job image named is (old ++ more) (records full.reading.things) after (inr (full.reading, full.reads, refl)) in
        let third : old ++ more ≡ records knows.reading.things = keeps_one id job image named is (old ++ more) (records knows.reading.things) after (knows_keeps id job j image knows) in
        let sized : AreSized (old ++ more) = kept-sized id job image (old ++ more) is after in
        let many : length more ≤ n = omega (arith, all, length-append old more, ap length first, ap length third, knows.end.kept) in
        let most : most_of (records full.reading.things) ≡ most_of old + most_of more = ap most_of (sym second) ∙ most_of-append old more in
        let more_most : most_of more ≤ 100663325 * n = omega (arith, most-by-count more (sized-more old more sized), many) in
        let below : gate_of id job full.reading ≤ 26 + length id + (most_of old + most_of more) = omega (arith, gate-below id job image full.reading full.reads, most) in
        too_few (length id) (least_of old) (most_of old) (most_of more) n full.size (gate_of id job full.reading) (length v) short
        (most-by-least old (sized-old old more sized)) more_most few full.most below full.full (long_enough id job v old before)

    of_step : Extends Is id job v image → 2 ^ 62 ≤ length v
    of_step (inl same) =
        let kept = records knows.reading.things in
        let keeps = knows_keeps id job j image knows in
        of_lists kept [] ((same kept).1 keeps) (subst (Keeps id job image) (sym (append-nil kept)) keeps)
    of_step (inr more) = of_lists more.old more.more more.before more.after

pub round-no_place : (Is : BodyOf) (id : List ℕ) (job : JobSizes) (epoch left : ℕ) (j : JournalState) (entry old new : Option (List ℕ)) → IsIdentity id → IsJob job → length id < 2 ^ 62
    → WhereTold entry (Begins id job epoch (j.end.kept + left)) → StepTold (Extends Is id job) entry old → WhereTold old (Knows id job j) → StaysFull id job old new
    → HasNoPlace id job epoch entry new
round-no_place Is id job epoch left j entry old new named is short begun step knows stays = record {
  full = subst (λ (o : Option (List ℕ)). WhereTold o (IsFull id job)) (sym stays.same) stays.full;
  long = of_told entry old begun step knows stays.full;
}
  where
    of_told : (e o : Option (List ℕ)) → WhereTold e (Begins id job epoch (j.end.kept + left)) → StepTold (Extends Is id job) e o → WhereTold o (Knows id job j)
        → WhereTold o (IsFull id job) → WhereTold e (IsLong id job epoch)
    of_told None o begins goes known full = tt
    of_told (Some v) None begins goes known full = absurd goes
    of_told (Some v) (Some image) begins goes known full = was_long Is id job epoch left j v image named is short begins goes known full

-- ---- the counts of faults

pub opening_counts : (id : List ℕ) (job : JobSizes) (old new : Option (List ℕ)) (before now : ℕ) (fault : OpenFault) → length id < 2 ^ 62 → StepTold (KeepsEpochs id job) old new
    → CountsFault id job old before now fault → CountsJournalFault (IsLongOpened id job old new) before now (opening_fault fault)
opening_counts id job old new before now Disk short step (inl risen) = inl risen
opening_counts id job old new before now Disk short step (inr lacks) = inr (lacks.0, opened_full id job old new short step lacks.1)
opening_counts id job old new before now (OtherJob d) short step counts = counts
opening_counts id job old new before now NoMemory short step counts = counts

pub append_counts : (id : List ℕ) (job : JobSizes) (j : JournalState) (e : EpochPlan) (cells : ℕ) (old new : Option (List ℕ)) (before now : ℕ) → WhereTold old (Knows id job j)
    → cells ≡ cell_count e → cell_count e ≤ 4194304 → HasRisen before now ⊎ ((now ≡ before) × HasNoRoom j.end.gate (28 + 24 * cells)) → HasRisen before now ⊎ (new ≡ old)
    → HasRisen before now ⊎ ((now ≡ before) × StaysFull id job old new)
append_counts id job j e cells old new before now knows count few (inl risen) written = inl risen
append_counts id job j e cells old new before now knows count few (inr full) (inl risen) = inl risen
append_counts id job j e cells old new before now knows count few (inr full) (inr same) = inr (full.0, stays_full id job j e cells old new same knows count few full.1)
