-- Journals that go on with sums of epochs, what their images keep, and the place that is due behind it.
use Rattle.std.specs.Prelude.{IfSome}
use Rattle.std.proofs.Common.{◌≡◌, ◌∙◌, inl, inr, ℕ, ◌≤◌, ◌^◌, true, false, List, [], ◌∷◌, ◌++◌, length, Option, refl, sym, ap, subst, append-nil, arith}
use Rattle.std.specs.List.{All}
use Rattle.std.proofs.lemmas.List.Elements.{All-nil}
use Rattle.piece_plan.specs.declared.epoch.EpochPlan.{EpochPlan}
use Rattle.piece_plan.specs.Epochs.{JobSizes, IsJob}
use Rattle.piece_plan.specs.Order.{Place, job_start, place_after, AreInOrder}
use Rattle.plan_places.specs.Places.{IsPlace}
use Rattle.plan_places.specs.Walk.{IsWalk, AreLeft, epochs_by}
use Rattle.plan_places.proofs.AfterLemmas.{after-IsPlace}
use Rattle.plan_places.proofs.WholeWalks.{first-IfSome}
use Rattle.journal_image.specs.Image.{is_blank, KeptEpoch, IsIdentity, Reading, Reads, Keeps}
use Rattle.journal_image.specs.Laws.{kept_epochs}
use Rattle.journal_image.proofs.FrontLemmas.{reads_begun}
use Rattle.journal_image.proofs.KeptLemmas.{reads_in_order}
use Rattle.journal_image.proofs.ReadingLemmas.{reads_once, keeps_one}
use Rattle.journal_rounds.specs.Extended.{BodyOf, Extends}
use Rattle.journal_rounds.specs.Room.{DueIn, IsLong}

-- what an image keeps, split where the one before it ended
pub record Split (Is : BodyOf) (id : List ℕ) (job : JobSizes) (v : List ℕ) (kept : List KeptEpoch) : Type 0 where
  pub old : List KeptEpoch
  pub more : List KeptEpoch
  pub before : Keeps id job v old
  pub is : kept ≡ old ++ more
  pub each : All (λ (k : KeptEpoch). Is k.epoch k.body) more

pub Extends-split : (Is : BodyOf) (id : List ℕ) (job : JobSizes) → IsIdentity id → IsJob job → (v image : List ℕ) (kept : List KeptEpoch)
    → Extends Is id job v image → Keeps id job image kept → Split Is id job v kept
Extends-split Is id job named is v image kept (inl same) keeps = record {
  old = kept;
  more = [];
  before = (same kept).1 keeps;
  is = sym (append-nil kept);
  each = All-nil (λ (k : KeptEpoch). Is k.epoch k.body);
}
Extends-split Is id job named is v image kept (inr g) keeps = record {
  old = g.old;
  more = g.more;
  before = g.before;
  is = keeps_one id job image named is kept (g.old ++ g.more) keeps g.after;
  each = g.each;
}

-- ---- the place that is due

order-place : (job : JobSizes) → IsJob job → (due end : Option Place) (epochs : List EpochPlan) → AreInOrder job due epochs end → IfSome due (IsPlace job) → IfSome end (IsPlace job)
order-place job is due end [] order place = subst (λ (o : Option Place). IfSome o (IsPlace job)) order place
order-place job is due end (e ∷ epochs) order place = order-place job is (place_after job e) end epochs order.2 (after-IsPlace job e is order.1)

-- behind what an image says, a place of the job is due, or none
said-place : (id : List ℕ) (job : JobSizes) (image : List ℕ) (r : Reading) → IsJob job → Reads id job image r → IfSome r.due.place (IsPlace job)
said-place id job image r is reads = order-place job is (job_start job) r.due.place (kept_epochs r) (reads_in_order id job image r reads) (first-IfSome job is)

pub record HasDue (id : List ℕ) (job : JobSizes) (image : List ℕ) : Type 0 where
  pub due : Option Place
  pub is : DueIn id job image due
  pub place : IfSome due (IsPlace job)

has-due : (id : List ℕ) (job : JobSizes) (image : List ℕ) (kept : List KeptEpoch) → IsIdentity id → IsJob job → Keeps id job image kept → HasDue id job image
has-due id job image kept named is (inl blank) = record {
  due = job_start job;
  is = (λ _. refl, λ r reads. let never : true ≡ false = sym blank.0 ∙ reads_begun id job image r named reads in cc);
  place = first-IfSome job is;
}
has-due id job image kept named is (inr said) = record {
  due = said.0.due.place;
  is = (
    λ (blank : is_blank image ≡ true). let never : true ≡ false = sym blank ∙ reads_begun id job image said.0 named said.1 in cc,
    λ r reads. ap (λ (s : Reading). s.due.place) (reads_once id job image named is said.0 r said.1 reads),
  );
  place = said-place id job image said.0 is said.1;
}

-- ---- the epochs that are left

-- the law of walks from a place, and that of how many epochs they have
abbrev pub WalksEnd : Type 0
WalksEnd =
    (job : JobSizes) (epoch : ℕ) (due : Option Place) → IsJob job → 1 ≤ epoch → epoch ≤ 4194304
    → IfSome due (IsPlace job) → (epochs : List EpochPlan) × IsWalk job epoch due epochs

abbrev pub NoMoreLeft : Type 0
NoMoreLeft =
    (job : JobSizes) (epoch : ℕ) (due : Option Place) (n : ℕ) → IsJob job → 1 ≤ epoch → epoch ≤ 4194304
    → IfSome due (IsPlace job) → AreLeft job epoch due n → n ≤ length (epochs_by job epoch)

-- An image with kept epochs, in which a run of the job may come to its room's end, has 2^62 bytes or more, since a job has at most 2^32
-- epochs.
pub long-kept : WalksEnd → NoMoreLeft → (id : List ℕ) (job : JobSizes) (epoch : ℕ) (image : List ℕ) (kept : List KeptEpoch) → IsIdentity id → IsJob job
    → 1 ≤ epoch → epoch ≤ 4194304 → length (epochs_by job epoch) ≤ 4294967296 → Keeps id job image kept → IsLong id job epoch image → 2 ^ 62 ≤ length image
long-kept ends no_more id job epoch image kept named is some short few keeps long =
    let here = has-due id job image kept named is keeps in
    let walk = ends job epoch here.due is some short here.place in
    let left : AreLeft job epoch here.due (length walk.0) = record { epochs = walk.0; walk = walk.1; many = refl } in
    long here.due (length walk.0) here.is left (omega (arith, no_more job epoch here.due (length walk.0) is some short here.place left, few))
