-- The three parts of a journal's begin, each between two syncs. At each moment no epoch is kept.
use Rattle.std.specs.Prelude.{option_map, is_some}
use Rattle.std.proofs.Common.{◌≡◌, ◌≢◌, ◌⊎◌, inl, inr, ⊎_elim, ◌∙◌, ℕ, ◌+◌, ◌<◌, List, [], ◌∷◌, ◌++◌, length, get_or, drop, Option, Some, None, true, sym, refl, ap, subst, arith}
use Rattle.dev_traits.specs.Images.{put_at, Torn}
use Rattle.dev_traits.specs.Told.{WhereTold}
use Rattle.dev_traits.specs.Moments.{Goes, Runs, IsDurable}
use Rattle.dev_traits.proofs.Moments.{runs_of, torn_same}
use Rattle.checkpoint_journal.specs.Runs.{Looks, Changes, KeepsFront, KeepsBlank, IsClosedHead, KeepsEpochs}
use Rattle.checkpoint_journal.proofs.RunLemmas.{changes_of, changes_looks, changes_both, told_value}
use Rattle.checkpoint_journal.proofs.ToldLemmas.{told_mapped}
use Rattle.checkpoint_journal.proofs.WriteLemmas.{blank_closed, blank_closed_front, front_same_one, staged_identity, opened_identity, torn_byte, torn_joined}
use Rattle.piece_plan.specs.Epochs.{JobSizes, IsJob}
use Rattle.journal_image.specs.Image.{is_blank, IsIdentity, KeptEpoch, records, Reading, Reads, Keeps, nothing}
use Rattle.journal_image.proofs.ReadingLemmas.{keeps_one, reads_nothing}

-- a head gate, the identity and a closed gate
abbrev pub IsNew : List ℕ → List ℕ → Type 0
IsNew id image = (gate : ℕ) × (image ≡ gate ∷ (id ++ 0 ∷ []))

pub told_new : (id : List ℕ) (old new : Option (List ℕ)) → WhereTold old IsClosedHead → new ≡ option_map (put_at (1 + length id) (0 ∷ [])) (option_map (put_at 1 id) old) → WhereTold new (IsNew id)
told_new id old new closed is =
    told_mapped old new (λ v. put_at (1 + length id) (0 ∷ []) (put_at 1 id v)) IsClosedHead (IsNew id) (is ∙ twice old) (λ v head. (get_or v 0 0, staged_identity id v head)) closed
  where
    twice : (o : Option (List ℕ)) → option_map (put_at (1 + length id) (0 ∷ [])) (option_map (put_at 1 id) o) ≡ option_map (λ (v : List ℕ). put_at (1 + length id) (0 ∷ []) (put_at 1 id v)) o
    twice None = refl
    twice (Some v) = refl

pub told_begun : (id : List ℕ) (old new : Option (List ℕ)) → WhereTold old (IsNew id) → new ≡ option_map (put_at 0 (1 ∷ [])) old → WhereTold new (λ image. image ≡ 1 ∷ (id ++ 0 ∷ []))
told_begun id old new made is = told_mapped old new (put_at 0 (1 ∷ [])) (IsNew id) (λ image. image ≡ 1 ∷ (id ++ 0 ∷ [])) is (λ v one. opened_identity id v one.0 one.1) made

pub epochs_stay : (id : List ℕ) (job : JobSizes) (v : List ℕ) → KeepsEpochs id job v v
epochs_stay id job v kept = (λ keeps. keeps, λ keeps. keeps)

pub epochs_joined : (id : List ℕ) (job : JobSizes) (u v w : List ℕ) → KeepsEpochs id job u v → KeepsEpochs id job v w → KeepsEpochs id job u w
epochs_joined id job u v w first second kept = (λ keeps. (second kept).0 ((first kept).0 keeps), λ keeps. (first kept).1 ((second kept).1 keeps))

module _ {D : Type 0} (seen : D → Option (List ℕ)) (moment : D → ℕ) (may_leave : D → ℕ → List ℕ → Type 0) (id : List ℕ) (job : JobSizes) where
  -- a run that writes nothing
  pub epochs_quiet : (old new : D) → Looks seen moment may_leave old new → Changes seen moment may_leave (KeepsEpochs id job) old new
  epochs_quiet old new looks = changes_looks seen moment may_leave (KeepsEpochs id job) (epochs_stay id job) old new looks

  -- one run after another
  pub epochs_both : (old mid new : D) → Changes seen moment may_leave (KeepsEpochs id job) old mid → Changes seen moment may_leave (KeepsEpochs id job) mid new → Changes seen moment may_leave (KeepsEpochs id job) old new
  epochs_both old mid new first second = changes_both seen moment may_leave (KeepsEpochs id job) (epochs_stay id job) (epochs_joined id job) old mid new first second

  -- a run after one that writes nothing
  pub epochs_after : (old mid new : D) → Looks seen moment may_leave old mid → Changes seen moment may_leave (KeepsEpochs id job) mid new → Changes seen moment may_leave (KeepsEpochs id job) old new
  epochs_after old mid new looks changes = epochs_both old mid new (epochs_quiet old mid looks) changes

-- two images that keep the same epochs
pub both_keep : (id : List ℕ) (job : JobSizes) (v image : List ℕ) (kept : List KeptEpoch) → IsIdentity id → IsJob job → Keeps id job v kept → Keeps id job image kept → KeepsEpochs id job v image
both_keep id job v image kept named is before after other = (
  λ there. subst (Keeps id job image) (keeps_one id job v named is kept other before there) after,
  λ there. subst (Keeps id job v) (keeps_one id job image named is kept other after there) before,
)

-- what an image says, it keeps
pub reads-Keeps : (id : List ℕ) (job : JobSizes) (image : List ℕ) (r : Reading) → Reads id job image r → Keeps id job image (records r.things)
reads-Keeps id job image r reads = inr (r, reads, refl)

pub blank-Keeps : (id : List ℕ) (job : JobSizes) (image : List ℕ) → is_blank image ≡ true → Keeps id job image []
blank-Keeps id job image blank = inl (blank, refl)

one_or_not : (x : ℕ) → (x ≡ 1) ⊎ (x ≢ 1)
one_or_not x = grind arith

-- the open head gate, the identity and one closed gate
pub begun-Reads : (id : List ℕ) (job : JobSizes) (image : List ℕ) → image ≡ 1 ∷ (id ++ 0 ∷ []) → Reads id job image (nothing job)
begun-Reads id job image is = subst (λ (v : List ℕ). Reads id job v (nothing job)) (sym is) (reads_nothing id job)

-- an identity and one closed gate, behind whatever head gate
pub new-Keeps : (id : List ℕ) (job : JobSizes) (image : List ℕ) (b : ℕ) → image ≡ b ∷ (id ++ 0 ∷ []) → Keeps id job image []
new-Keeps id job image b is = ⊎_elim
    (λ (one : b ≡ 1). inr (nothing job, begun-Reads id job image (is ∙ ap (λ (g : ℕ). g ∷ (id ++ 0 ∷ [])) one), refl))
    (λ (shut : b ≢ 1). blank-Keeps id job image (blank_closed image (λ one. shut (sym (ap (λ (l : List ℕ). get_or l 0 0) is) ∙ one))))
    (one_or_not b)

-- while the head gate is opened
pub torn-Keeps : (id : List ℕ) (job : JobSizes) (u v : List ℕ) (b : ℕ) → u ≡ b ∷ (id ++ 0 ∷ []) → Torn 0 1 u v → Keeps id job v []
torn-Keeps id job u v b is torn =
    let some : 0 < length u = omega (arith, ap length is) in
    new-Keeps id job v (get_or v 0 0) (torn_byte 0 u v some torn ∙ ap (λ (l : List ℕ). get_or v 0 0 ∷ drop 1 l) is)

module _ {D : Type 0} (seen : D → Option (List ℕ)) (moment : D → ℕ) (may_leave : D → ℕ → List ℕ → Type 0) (law : (d : D) → WhereTold (seen d) (may_leave d (moment d))) (id : List ℕ) (job : JobSizes) (named : IsIdentity id) (is : IsJob job) where
  pub part_blank : (old new : D) → IsDurable (seen old) (may_leave old (moment old)) → WhereTold (seen old) (λ image. is_blank image ≡ true) → is_some (seen new) ≡ is_some (seen old) → Runs moment may_leave KeepsBlank old new
      → Changes seen moment may_leave (KeepsEpochs id job) old new
  part_blank old new durable blank tells runs =
      changes_of seen moment may_leave KeepsBlank (KeepsEpochs id job) (λ v here. here) old new durable (law new) tells runs (λ u v image there first second.
      let begun = told_value (seen old) (λ w. is_blank w ≡ true) u there blank in
      both_keep id job v image [] named is (blank-Keeps id job v (first begun)) (blank-Keeps id job image (second (first begun))))

  pub part_identity : (old new : D) → IsDurable (seen old) (may_leave old (moment old)) → WhereTold (seen old) IsClosedHead → is_some (seen new) ≡ is_some (seen old) → Runs moment may_leave (KeepsFront 1) old new
      → Changes seen moment may_leave (KeepsEpochs id job) old new
  part_identity old new durable closed tells runs =
      changes_of seen moment may_leave (KeepsFront 1) (KeepsEpochs id job) (front_same_one 1) old new durable (law new) tells runs (λ u v image there first second.
      let head = told_value (seen old) IsClosedHead u there closed in
      let both = blank_closed_front u v image head first second in
      both_keep id job v image [] named is (blank-Keeps id job v both.0) (blank-Keeps id job image both.1))

  pub part_open : (old new : D) → IsDurable (seen old) (may_leave old (moment old)) → WhereTold (seen old) (IsNew id) → is_some (seen new) ≡ is_some (seen old) → Goes moment may_leave (Torn 0 1) old new
      → Changes seen moment may_leave (KeepsEpochs id job) old new
  part_open old new durable made tells goes =
      let runs = runs_of moment may_leave (Torn 0 1) (torn_same 0 1) (Torn 0 1) old new goes (λ v image now torn. torn) in
      changes_of seen moment may_leave (Torn 0 1) (KeepsEpochs id job) (torn_same 0 1) old new durable (law new) tells runs (λ u v image there first second.
      let head = told_value (seen old) (IsNew id) u there made in
      both_keep id job v image [] named is (torn-Keeps id job u v head.0 head.1 first) (torn-Keeps id job u image head.0 head.1 (torn_joined 0 1 u v image first second)))

  -- one after another
  pub two_parts : (a b c : D) → IsDurable (seen a) (may_leave a (moment a)) → WhereTold (seen a) (λ image. is_blank image ≡ true) → is_some (seen b) ≡ is_some (seen a) → Runs moment may_leave KeepsBlank a b
      → IsDurable (seen b) (may_leave b (moment b)) → WhereTold (seen b) IsClosedHead → is_some (seen c) ≡ is_some (seen b) → Runs moment may_leave (KeepsFront 1) b c
      → Changes seen moment may_leave (KeepsEpochs id job) a c
  two_parts a b c durable blank tells runs durable' closed tells' runs' =
      epochs_both seen moment may_leave id job a b c (part_blank a b durable blank tells runs) (part_identity b c durable' closed tells' runs')

  pub three_parts : (a c d : D) → Changes seen moment may_leave (KeepsEpochs id job) a c
      → IsDurable (seen c) (may_leave c (moment c)) → WhereTold (seen c) (IsNew id) → is_some (seen d) ≡ is_some (seen c) → Goes moment may_leave (Torn 0 1) c d
      → Changes seen moment may_leave (KeepsEpochs id job) a d
  three_parts a c d first durable made tells goes = epochs_both seen moment may_leave id job a c d first (part_open c d durable made tells goes)
