-- What the images of a journal keep, over steps that go on with sums of epochs.
use Rattle.std.proofs.Common.{◌≡◌, inl, inr, ℕ, ◌≤◌, List, ◌++◌, length, Option, Some, None, Ok, refl, subst, ap, arith, length-append}
use Rattle.std.proofs.lemmas.List.Elements.{All-weaker, All-append}
use Rattle.dev_traits.specs.Moments.{Runs}
use Rattle.dev_traits.specs.Told.{WhereTold}
use Rattle.corr_model.specs.Files.{Files}
use Rattle.job_plan.specs.Ranges.{IsPlan}
use Rattle.piece_plan.specs.Epochs.{IsJob}
use Rattle.piece_plan.proofs.LimitLemmas.{limited-IsJob}
use Rattle.job_epochs.specs.Sizes.{sizes_of}
use Rattle.job_epochs.proofs.SizeLemmas.{sizes_of-IsJob}
use Rattle.journal_image.specs.Image.{KeptEpoch, IsIdentity}
use Rattle.journal_image.proofs.ReadingLemmas.{keeps_one}
use Rattle.journal_rounds.specs.Extended.{Extends}
use Rattle.run_words.specs.declared.order.Order.{Order}
use Rattle.run_ready.specs.Identities.{identity_under}
use Rattle.vlbi_core.specs.Calls.{Part, Call, OfJob, TaskFor, part_identity, part_sizes, identity_for, sizes_for, KeepsFor, KeepsAtLeast}
use Rattle.vlbi_core.specs.Texts.{IsSums, AreSums, IsSummedFor}
use Rattle.vlbi_core.specs.Restart.{IsHonest, NoneIsLost}
use Rattle.vlbi_core.specs.Steps.{OutcomeFrom, GoesRanged}

-- the identity of a job begins with its mark, and that of a part with another
pub identity-named : (files : Files) (call : Call) → IsIdentity (identity_for files call)
identity-named files call = by call.part
  where
    by : (part : Option Part) → IsIdentity (part_identity part (identity_under files call.job call.vex call.plan))
    by None = record { long = omega arith; version = inl refl }
    by (Some part) = record { long = omega arith; version = inr refl }

-- what a call's job or part is cut by is a job, where its plan is in its ranges
pub sizes-IsJob : (call : Call) → IsPlan call.plan → length call.plan.scans ≤ 8388608 → IsJob (sizes_for call)
sizes-IsJob call ranges few = by call.part
  where
    by : (part : Option Part) → IsJob (part_sizes part (sizes_of call.plan))
    by None = sizes_of-IsJob call.plan ranges few
    by (Some part) = limited-IsJob (sizes_of call.plan) part.from part.to (sizes_of-IsJob call.plan ranges few)

-- ---- calls whose plan is in its ranges

module _ (files : Files) (call : Call) (ranges : IsPlan call.plan) (few : length call.plan.scans ≤ 8388608) where
  -- an image keeps the same epochs, however it is read
  pub keeps-same : (image : List ℕ) (kept other : List KeptEpoch) → KeepsFor files call image kept → KeepsFor files call image other → kept ≡ other
  keeps-same image = keeps_one (identity_for files call) (sizes_for call) image (identity-named files call) (sizes-IsJob call ranges few)

  -- what an honest image keeps are the sums of the epochs
  pub honest-sums : (image : List ℕ) (kept : List KeptEpoch) → IsHonest files call image → KeepsFor files call image kept → AreSums files call.plan kept
  honest-sums image kept honest keeps = subst (AreSums files call.plan) (keeps-same image honest.kept kept honest.keeps keeps) honest.sums

  pub honest-extends : (v image : List ℕ) → IsHonest files call v → Extends (IsSummedFor files call) (identity_for files call) (sizes_for call) v image → IsHonest files call image
  honest-extends v image honest (inl same) = record { kept = honest.kept; keeps = (same honest.kept).0 honest.keeps; sums = honest.sums }
  honest-extends v image honest (inr g) = record {
    kept = g.old ++ g.more;
    keeps = g.after;
    sums = All-append (λ (k : KeptEpoch). IsSums files call.plan k.epoch k.body) g.old g.more (honest-sums v g.old honest g.before)
        (All-weaker (λ (k : KeptEpoch). IsSummedFor files call k.epoch k.body) (λ (k : KeptEpoch). IsSums files call.plan k.epoch k.body) (λ k summed. summed.1) g.more g.each);
  }

  -- how many an image keeps at least, one that goes on from it keeps
  pub least-extends : (v image : List ℕ) (n : ℕ) → KeepsAtLeast files call v n → Extends (IsSummedFor files call) (identity_for files call) (sizes_for call) v image → KeepsAtLeast files call image n
  least-extends v image n least (inl same) = record { kept = least.kept; keeps = (same least.kept).0 least.keeps; many = least.many }
  least-extends v image n least (inr g) =
      let same : length least.kept ≡ length g.old = ap (λ (l : List KeptEpoch). length l) (keeps-same v least.kept g.old least.keeps g.before) in
      record { kept = g.old ++ g.more; keeps = g.after; many = omega (arith, least.many, same, length-append g.old g.more) }

-- ---- runs of calls

module _ {D : Type 0} (files : Files) (call : Call) (moment : D → ℕ) (may_leave : D → ℕ → List ℕ → Type 0) where
  -- where no step loses an epoch, no run does
  pub none_lost : (step : List ℕ → List ℕ → Type 0) (old new : D) → ((v image : List ℕ) (n : ℕ) → KeepsAtLeast files call v n → step v image → KeepsAtLeast files call image n)
      → Runs moment may_leave step old new → NoneIsLost files call moment may_leave old new
  none_lost step old new goes_on runs = λ t t' n low up high all image now.
      let from = runs.comes t t' image low up high now in
      goes_on from.0 image n (all from.0 from.1) from.2

-- ---- plans in their ranges

-- a call on a job that came to a plan in its ranges, where the shelf tells its files
pub ranged-at : {D : Type 0} (seen : D → Option (List ℕ)) (moment : D → ℕ) (may_leave : D → ℕ → List ℕ → Type 0) (told : Option Files)
    (order : Order) (call : Call) (before after : D) → IsPlan call.plan → length call.plan.scans ≤ 8388608
    → WhereTold told (λ files. TaskFor files order (Ok (OfJob call)))
    → WhereTold told (λ files. GoesRanged (OutcomeFrom (Ok order) files) seen moment may_leave before after)
ranged-at seen moment may_leave None order call before after ranges few there = tt
ranged-at seen moment may_leave (Some files) order call before after ranges few there =
    inr (record { call = call; outcome = (order, refl, there); ranges = ranges; few = few })
