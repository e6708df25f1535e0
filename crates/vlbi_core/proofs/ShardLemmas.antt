-- What a call of `shard` did.
use Rattle.std.specs.Prelude.{OnOk, IfErr, unwrap_or}
use Rattle.std.proofs.Common.{◌≡◌, ◌∙◌, ◌≤◌, ℕ, true, List, length, Option, Some, None, Result, Ok, Err, refl, ap}
use Rattle.dev_traits.specs.Told.{more, WhereTold}
use Rattle.sink_text.specs.Appends.{Appends}
use Rattle.corr_model.specs.Files.{Files}
use Rattle.piece_plan.specs.Epochs.{JobSizes}
use Rattle.piece_plan.specs.Limited.{limited}
use Rattle.job_plan.specs.declared.plan.Plan.{Plan}
use Rattle.job_plan.specs.Ranges.{IsPlan}
use Rattle.job_epochs.specs.Sizes.{sizes_of}
use Rattle.checkpoint_journal.specs.Identity.{shard_of}
use Rattle.checkpoint_journal.specs.Standing.{JournalState}
use Rattle.run_words.specs.declared.order.Order.{Order}
use Rattle.run_words.specs.declared.order.Order.TheVariants.{Shard}
use Rattle.run_ready.specs.Identities.{identity_under}
use Rattle.run_part.specs.Outcome.{PartOf}
use Rattle.run_summary.specs.Summaries.{shard_line}
use Rattle.vis_writer.proofs.WritesLemmas.{where_then, where_always}
use Rattle.vis_writer.specs.Writes.{Appended}
use Rattle.vlbi_core.specs.Calls.{Call, call_of, is_writer}
use Rattle.vlbi_core.specs.Engine.{IsOfRecords}
use Rattle.vlbi_core.specs.Faults.{written_with}
use Rattle.vlbi_core.specs.Restart.{IsHonest}
use Rattle.vlbi_core.specs.Steps.{GoesRanged, Leaves, OutcomeFrom}
use Rattle.vlbi_core.proofs.KeepLemmas.{ranged-at}
use Rattle.vlbi_core.proofs.CommandLemmas.{not_both}
use Rattle.vlbi_core.proofs.CorrelationLemmas.{IsSummer, MakesText, covered-told, opened-told}

-- ---- the line

-- the line is appended, or with a fault a first part of it
line-appended : {E : Type 0} (old new : Option (List ℕ)) (line : List ℕ) (count now : ℕ) (r : Result (Unit {0}) E) → Appends old new line count now r → Appended old line new (written_with r)
line-appended old new line count now (Ok x) appends = record { all = appends.ok; part = tt }
line-appended old new line count now (Err e) appends = record { all = tt; part = appends.prefix }

-- a call that writes it is refused for a write fault alone
pub line-refused : {E : Type 0} (epochs : ℕ) (old new : Option (List ℕ)) (r : Result (Unit {0}) E) → IfErr (written_with r) (IsOfRecords epochs old new)
line-refused epochs old new (Ok x) = tt
line-refused epochs old new (Err e) = tt

module _ {D : Type 0} (seen : D → Option (List ℕ)) (moment : D → ℕ) (may_leave : D → ℕ → List ℕ → Type 0) where
  -- what a call leaves that writes it
  pub line-leaves : {E : Type 0} (order : Order) (before after : D) (old new : Option (List ℕ)) (r : Result (Unit {0}) E) → is_writer order ≡ true
      → Leaves (Ok order) seen moment may_leave before after old new (written_with r)
  line-leaves order before after old new (Ok x) writer = record {
    nothing = tt;
    whole = λ _. tt;
    untouched = λ other. absurd (not_both (is_writer order) writer other);
    verdict = tt;
  }
  line-leaves order before after old new (Err e) writer = record {
    nothing = tt;
    whole = λ _. tt;
    untouched = λ other. absurd (not_both (is_writer order) writer other);
    verdict = tt;
  }

-- ---- the part

module _ (job : List ℕ) (vex : Option (List ℕ)) (epoch : Option ℕ) (from to : ℕ) (plan : Plan) where
  -- the call on it
  abbrev pub shard_call : Call
  shard_call = call_of true job vex epoch (Some (record { from = from; to = to })) plan

  pub shard-summer : (told : Option Files) (workers piece : ℕ) (id : List ℕ) (all sizes : JobSizes) (samples : ℕ)
      → WhereTold told (λ files. PartOf files job vex epoch to (Ok plan)) → WhereTold told (λ files. id ≡ shard_of (identity_under files job vex plan) from to)
      → sizes ≡ limited all from to → all ≡ sizes_of plan → samples ≡ unwrap_or epoch plan.epoch → IsSummer told (Shard job vex epoch workers piece from to) shard_call id sizes samples
  shard-summer None workers piece id all sizes samples there same part cut in_force = record {
    sums = refl;
    task = tt;
    same = tt;
    cut = part ∙ ap (λ (z : JobSizes). limited z from to) cut;
    in_force = in_force;
  }
  shard-summer (Some files) workers piece id all sizes samples there same part cut in_force = record {
    sums = refl;
    task = (refl, there);
    same = same;
    cut = part ∙ ap (λ (z : JobSizes). limited z from to) cut;
    in_force = in_force;
  }

  -- what it finds is a plan in its ranges
  pub shard-ranged : {D : Type 0} (seen : D → Option (List ℕ)) (moment : D → ℕ) (may_leave : D → ℕ → List ℕ → Type 0) (told : Option Files) (workers piece : ℕ) (before after : D)
      → IsPlan plan → length plan.scans ≤ 8388608 → WhereTold told (λ files. PartOf files job vex epoch to (Ok plan))
      → WhereTold told (λ files. GoesRanged (OutcomeFrom (Ok (Shard job vex epoch workers piece from to)) files) seen moment may_leave before after)
  shard-ranged seen moment may_leave told workers piece before after ranges few there =
      ranged-at seen moment may_leave told (Shard job vex epoch workers piece from to) shard_call before after ranges few
      (where_then told _ _ (λ files is. (refl, is)) there)

  line-done : {E : Type 0} (old new : Option (List ℕ)) (count now : ℕ) (r : Result (Unit {0}) E) (P : List ℕ → Type 0) (before : Option (List ℕ)) → Appends old new (shard_line from to) count now r
      → OnOk (written_with r) (WhereTold before (λ image. P image → new ≡ more old (shard_line from to)))
  line-done old new count now (Ok x) P before appends = where_always before _ (λ image _. appends.ok)
  line-done old new count now (Err e) P before appends = tt

  -- the line of the part, behind a journal that keeps its sums
  pub shard-text : {E : Type 0} (files : Files) (journal : JournalState) (sb sm old new : Option (List ℕ)) (count now : ℕ) (r : Result (Unit {0}) E)
      → Appends old new (shard_line from to) count now r → MakesText shard_call journal sb sm old new (written_with r) files
  shard-text files journal sb sm old new count now r appends named is covers step knows = record {
    text = shard_line from to;
    is = (refl, covered-told files shard_call named is journal covers sb sm step knows);
    appended = line-appended old new (shard_line from to) count now r appends;
    opened = opened-told files shard_call named is journal covers sb sm step knows;
    sums = line-done old new count now r (IsHonest files shard_call) sb appends;
  }
