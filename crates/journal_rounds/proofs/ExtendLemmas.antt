-- Journals that go on, one call after another.
use Rattle.std.proofs.Common.{◌≡◌, ◌⊎◌, inl, inr, ◌∙◌, ℕ, ◌+◌, List, [], ◌∷◌, ◌++◌, length, Option, Some, None, refl, sym, ap, subst, arith, append_assoc, length-append}
use Rattle.std.proofs.lemmas.List.Elements.{All-nil, All-cons, All-append}
use Rattle.dev_traits.specs.Told.{WhereTold}
use Rattle.dev_traits.proofs.ToldLemmas.{WhereTold-weaker}
use Rattle.corr_model.specs.Files.{Files}
use Rattle.corr_model.specs.declared.cell.Cell.{Cell}
use Rattle.job_plan.specs.declared.plan.Plan.{Plan}
use Rattle.job_epochs.specs.Sums.{epoch_sums}
use Rattle.piece_plan.specs.declared.epoch.EpochPlan.{EpochPlan}
use Rattle.piece_plan.specs.Epochs.{JobSizes, IsJob}
use Rattle.piece_plan.specs.Order.{place_of}
use Rattle.plan_places.specs.Walk.{cut_at}
use Rattle.checkpoint_journal.specs.Cells.{body_text}
use Rattle.checkpoint_journal.specs.Runs.{Changes, StepTold, KeepsEpochs, AddsEpoch, IsOurs}
use Rattle.checkpoint_journal.proofs.RunLemmas.{changes_both, runs_wider, told_value}
use Rattle.journal_image.specs.Image.{KeptEpoch, IsIdentity, records, Keeps}
use Rattle.journal_image.proofs.ReadingLemmas.{keeps_one}
use Rattle.checkpoint_journal.specs.Kept.{kept_epoch, KeepsMany}
use Rattle.checkpoint_journal.specs.Standing.{JournalState, Knows, Stands}
use Rattle.journal_rounds.specs.Extended.{BodyOf, IsSummed, Extends}

module _ (Is : BodyOf) (id : List ℕ) (job : JobSizes) where
  abbrev Good : KeptEpoch → Type 0
  Good k = Is k.epoch k.body

  pub extends_same : (v : List ℕ) → Extends Is id job v v
  extends_same v = inl (λ kept. (λ keeps. keeps, λ keeps. keeps))

  pub extends_joined : IsIdentity id → IsJob job → (u v w : List ℕ) → Extends Is id job u v → Extends Is id job v w → Extends Is id job u w
  extends_joined named is u v w (inl a) (inl b) = inl (λ kept. (λ keeps. (b kept).0 ((a kept).0 keeps), λ keeps. (a kept).1 ((b kept).1 keeps)))
  extends_joined named is u v w (inl a) (inr b) =
      inr record { old = b.old; more = b.more; before = (a b.old).1 b.before; after = b.after; each = b.each }
  extends_joined named is u v w (inr a) (inl b) =
      inr record { old = a.old; more = a.more; before = a.before; after = (b (a.old ++ a.more)).0 a.after; each = a.each }
  extends_joined named is u v w (inr a) (inr b) =
      let same : b.old ≡ a.old ++ a.more = keeps_one id job v named is b.old (a.old ++ a.more) b.before a.after in
      let all : b.old ++ b.more ≡ a.old ++ (a.more ++ b.more) = ap (λ (l : List KeptEpoch). l ++ b.more) same ∙ append_assoc a.old a.more b.more in
      inr record {
        old = a.old;
        more = a.more ++ b.more;
        before = a.before;
        after = subst (Keeps id job w) all b.after;
        each = All-append Good a.more b.more a.each b.each;
      }

  -- one epoch more
  pub extends_adds : (k : ℕ) (one : KeptEpoch) → Is one.epoch one.body → (v image : List ℕ) → AddsEpoch id job k one v image → Extends Is id job v image
  extends_adds k one is v image (inl keeps) = inl keeps
  extends_adds k one is v image (inr m) =
      inr record { old = m.old; more = one ∷ []; before = m.before; after = m.after; each = All-cons Good one [] is (All-nil Good) }

step_wider : (step wide : List ℕ → List ℕ → Type 0) → ((v image : List ℕ) → step v image → wide v image) → (old new : Option (List ℕ)) → StepTold step old new → StepTold wide old new
step_wider step wide widen None None told = tt
step_wider step wide widen None (Some image) told = absurd told
step_wider step wide widen (Some v) None told = absurd told
step_wider step wide widen (Some v) (Some image) told = widen v image told

-- what an image keeps, as the journal knows it
pub knows_keeps : (id : List ℕ) (job : JobSizes) (j : JournalState) (image : List ℕ) (knows : Knows id job j image) → Keeps id job image (records knows.reading.things)
knows_keeps id job j image knows = inr (knows.reading, knows.reads, refl)

many_after : (id : List ℕ) (job : JobSizes) (k : ℕ) (one : KeptEpoch) (kept : List KeptEpoch) (v image : List ℕ) → k ≡ length kept → Keeps id job v kept → AddsEpoch id job k one v image
    → KeepsMany id job image k ⊎ KeepsMany id job image (k + 1)
many_after id job k one kept v image many keeps (inl same) = inl record { kept = kept; keeps = (same kept).0 keeps; many = sym many }
many_after id job k one kept v image many keeps (inr m) =
    inr record { kept = m.old ++ one ∷ []; keeps = m.after; many = length-append m.old (one ∷ []) ∙ ap (λ (n : ℕ). n + 1) m.many }

read_before : (id : List ℕ) (job : JobSizes) (j : JournalState) (old new : Option (List ℕ)) → StepTold (KeepsEpochs id job) old new → WhereTold new (Knows id job j)
    → WhereTold old (IsOurs id job)
read_before id job j None new step knows = tt
read_before id job j (Some v) None step knows = absurd step
read_before id job j (Some v) (Some image) step knows =
    let kept = records knows.reading.things in
    (kept, (step kept).1 (knows_keeps id job j image knows))

module _ {D : Type 0} (seen : D → Option (List ℕ)) (moment : D → ℕ) (may_leave : D → ℕ → List ℕ → Type 0) where
  changes_wider : (step wide : List ℕ → List ℕ → Type 0) → ((v image : List ℕ) → step v image → wide v image) → (old new : D)
      → Changes seen moment may_leave step old new → Changes seen moment may_leave wide old new
  changes_wider step wide widen old new changes = record {
    read = step_wider step wide widen (seen old) (seen new) changes.read;
    runs = runs_wider moment may_leave step wide old new widen changes.runs;
  }

  -- one that leaves what is kept as it is
  pub goes_kept : (Is : BodyOf) (id : List ℕ) (job : JobSizes) (old new : D) → Changes seen moment may_leave (KeepsEpochs id job) old new → Changes seen moment may_leave (Extends Is id job) old new
  goes_kept Is id job old new changes = changes_wider (KeepsEpochs id job) (Extends Is id job) (λ v image keeps. inl keeps) old new changes

  -- one that appends the sums of an epoch
  pub goes_more : (told : Option Files) (plan : Plan) (id : List ℕ) (job : JobSizes) (k : ℕ) (e : EpochPlan) (cells : List Cell) (epoch : ℕ) (old new : D) → WhereTold told (λ files. cells ≡ epoch_sums plan files e) → cut_at job epoch (place_of e) ≡ Some e
      → Changes seen moment may_leave (AddsEpoch id job k (kept_epoch e cells)) old new → Changes seen moment may_leave (Extends (IsSummed told plan job epoch) id job) old new
  goes_more told plan id job k e cells epoch old new sums cut changes =
      let text : IsSummed told plan job epoch e (body_text cells) =
      (cut, WhereTold-weaker told (λ files. cells ≡ epoch_sums plan files e) (λ files. body_text cells ≡ body_text (epoch_sums plan files e)) (λ files same. ap body_text same) sums) in
      changes_wider (AddsEpoch id job k (kept_epoch e cells)) (Extends (IsSummed told plan job epoch) id job) (extends_adds (IsSummed told plan job epoch) id job k (kept_epoch e cells) text) old new changes

  -- one behind the other, the shelf telling what it told
  pub goes_on : (plan : Plan) (id : List ℕ) (job : JobSizes) (epoch : ℕ) (told told' : Option Files) (old mid new : D) → IsIdentity id → IsJob job → told' ≡ told
      → Changes seen moment may_leave (Extends (IsSummed told plan job epoch) id job) old mid
      → Changes seen moment may_leave (Extends (IsSummed told' plan job epoch) id job) mid new → Changes seen moment may_leave (Extends (IsSummed told plan job epoch) id job) old new
  goes_on plan id job epoch told told' old mid new named is same first second =
      let Is : BodyOf = IsSummed told plan job epoch in
      let then = subst (λ (t : Option Files). Changes seen moment may_leave (Extends (IsSummed t plan job epoch) id job) mid new) same second in
      changes_both seen moment may_leave (Extends Is id job) (extends_same Is id job) (extends_joined Is id job named is) old mid new first then

  -- what was read before a journal was opened is of its job
  pub ours_before : (id : List ℕ) (job : JobSizes) (j : JournalState) (old new : D) → Changes seen moment may_leave (KeepsEpochs id job) old new → WhereTold (seen new) (Knows id job j)
      → WhereTold (seen old) (IsOurs id job)
  ours_before id job j old new changes knows = read_before id job j (seen old) (seen new) changes.read knows

  -- how many epochs each image keeps behind an append, whatever its answer
  pub named_after : (id : List ℕ) (job : JobSizes) (j : JournalState) (one : KeptEpoch) (k : ℕ) (old new : D) → k ≡ j.end.kept → Stands id job j (seen old) (may_leave old (moment old))
      → Changes seen moment may_leave (AddsEpoch id job j.end.kept one) old new
      → (image : List ℕ) → may_leave new (moment new) image → KeepsMany id job image k ⊎ KeepsMany id job image (k + 1)
  named_after id job j one k old new next stands changes image now =
      let from = changes.runs.comes (moment old) (moment new) image (omega arith) changes.runs.later (omega arith) now in
      let before = stands.durable from.0 (changes.runs.past (moment old) from.0 (omega arith) from.1) in
      let knows = told_value (seen old) (Knows id job j) from.0 before stands.image in
      rw next (many_after id job j.end.kept one (records knows.reading.things) from.0 image knows.end.kept (knows_keeps id job j from.0 knows) from.2)
