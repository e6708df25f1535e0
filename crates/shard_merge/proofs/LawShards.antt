-- A shard's file keeps one list of epochs, which are the job's, and is refused for one reason alone.
use Rattle.std.specs.Prelude.{slice_get, ◌⊎◌}
use Rattle.std.proofs.Common.{◌≡◌, ◌∙◌, inl, inr, refl, sym, ap, subst, ℕ, zero, suc, ◌<◌, ◌≤◌, true, false, List, [], ◌∷◌, length, take, Option, Some, arith}
use Rattle.piece_plan.specs.Epochs.{JobSizes, IsJob, IsEpoch}
use Rattle.piece_plan.specs.Order.{Place, place_after, job_start, AreInOrder}
use Rattle.piece_plan.specs.Limited.{integrations, limited}
use Rattle.piece_plan.proofs.LimitLemmas.{limited-IsJob, IsEpoch-from_limited}
use Rattle.journal_image.specs.declared.difference.Differs.{Differs}
use Rattle.journal_image.specs.Image.{IsIdentity, is_blank, KeptEpoch, records, Reads}
use Rattle.journal_image.specs.Difference.{IsOfFront, IsDifference}
use Rattle.journal_image.proofs.ReadingLemmas.{keeps_one}
use Rattle.journal_image.proofs.KeptLemmas.{reads_in_order}
use Rattle.journal_image.proofs.DifferLemmas.{differs_once}
use Rattle.job_epochs.proofs.EachLemmas.{Each}
use Rattle.checkpoint_journal.specs.Identity.{shard_of}
use Rattle.checkpoint_journal.specs.Part.{part_mark, IsOfPart, IsCutFront, IsNoPart}
use Rattle.shard_merge.specs.Shards.{IsShard, ShardKeeps, IsOfNoPart, IsOfOther, IsNoShard}
use Rattle.shard_merge.specs.Covers.{epochs_of_kept}
use Rattle.shard_merge.specs.Honest.{EpochsFit}
use Rattle.shard_merge.proofs.LawLists.{all-Each}

shard_of-IsIdentity : (id : List ℕ) (from to : ℕ) → IsIdentity (shard_of id from to)
shard_of-IsIdentity id from to = record { long = omega arith; version = inr refl }

part_mark-IsIdentity : IsIdentity part_mark
part_mark-IsIdentity = record { long = omega arith; version = inr refl }

-- the numbers in a front
from-one : (image : List ℕ) (from to a b : ℕ) → IsOfPart image from to → IsOfPart image a b → a ≡ from
from-one image from to a b one other = other.from_is ∙ sym one.from_is

to-one : (image : List ℕ) (from to a b : ℕ) → IsOfPart image from to → IsOfPart image a b → b ≡ to
to-one image from to a b one other = other.to_is ∙ sym one.to_is

-- what is said of the part with the numbers of one front is said of that with those of another
of-part : (P : ℕ → ℕ → Type 0) (image : List ℕ) (from to a b : ℕ) → IsOfPart image from to → IsOfPart image a b → P a b → P from to
of-part P image from to a b one other h =
    subst (P from) (to-one image from to a b one other) (subst (λ (n : ℕ). P n b) (from-one image from to a b one other) h)

never-blank : {T : Type 0} (image : List ℕ) → is_blank image ≡ true → is_blank image ≡ false → T
never-blank image blank begun =
    let never : true ≡ false = sym blank ∙ begun in
    absurd (cc)

-- ---- what a file keeps

pub keeps-one : (id : List ℕ) (job : JobSizes) (image : List ℕ) (kept other : List KeptEpoch) → IsJob job
    → ShardKeeps id job image kept → ShardKeeps id job image other → kept ≡ other
keeps-one id job image kept other is (inl a) (inl b) = a.1 ∙ sym b.1
keeps-one id job image kept other is (inl a) (inr b) = never-blank image a.0 b.1.part.front.begun
keeps-one id job image kept other is (inr a) (inl b) = never-blank image b.0 a.1.part.front.begun
keeps-one id job image kept other is (inr a) (inr b) =
    let s : IsShard id job image b.0 = b.1 in
    let t : IsShard id job image a.0 = a.1 in
    let same : Reads (shard_of id t.from t.to) (limited job t.from t.to) image b.0 =
    of-part (λ (from to : ℕ). Reads (shard_of id from to) (limited job from to) image b.0) image t.from t.to s.from s.to
    t.part.front s.part.front s.reads in
    keeps_one (shard_of id t.from t.to) (limited job t.from t.to) image (shard_of-IsIdentity id t.from t.to)
    (limited-IsJob job t.from t.to is) kept other (inr (a.0, t.reads, a.2)) (inr (b.0, same, b.2))

-- epochs in order are the job's
ordered-IsEpoch : (job : JobSizes) (due end : Option Place) (kept : List KeptEpoch) → AreInOrder job due (epochs_of_kept kept) end
    → Each (λ (k : KeptEpoch). IsEpoch job k.epoch) kept
ordered-IsEpoch job due end [] are i k there = absurd (cc)
ordered-IsEpoch job due end (d ∷ kept) are zero k there =
    let same : d ≡ k = cc in
    subst (λ (x : KeptEpoch). IsEpoch job x.epoch) same are.1
ordered-IsEpoch job due end (d ∷ kept) are (suc i) k there = ordered-IsEpoch job (place_after job d.epoch) end kept are.2 i k there

pub keeps-fit : (id : List ℕ) (job : JobSizes) (image : List ℕ) (kept : List KeptEpoch) → IsJob job
    → ShardKeeps id job image kept → EpochsFit job kept
keeps-fit id job image kept is (inl a) = subst (EpochsFit job) (sym a.1) (λ k d inside. absurd (omega arith))
keeps-fit id job image kept is (inr a) =
    let s : IsShard id job image a.0 = a.1 in
    let part : JobSizes = limited job s.from s.to in
    subst (EpochsFit job) (sym a.2)
    (all-Each (λ (k : KeptEpoch). IsEpoch job k.epoch) (records a.0.things)
    (λ i k there.
    (IsEpoch-from_limited job s.from s.to k.epoch is
    (ordered-IsEpoch part (job_start part) a.0.due.place (records a.0.things) (reads_in_order (shard_of id s.from s.to) part image a.0 s.reads)
    i k there)).0))

-- ---- where a file differs

slice_get-front : (xs front : List ℕ) (n k : ℕ) → take n xs ≡ front → k < length front → slice_get xs k ≡ slice_get front k
slice_get-front xs front n k is inside = by xs n front k is inside
  where
    by : (xs : List ℕ) (n : ℕ) (front : List ℕ) (k : ℕ) → take n xs ≡ front → k < length front → slice_get xs k ≡ slice_get front k
    by xs n [] k is inside = absurd (omega arith)
    by [] zero (y ∷ front) k is inside = absurd (cc)
    by [] (suc n) (y ∷ front) k is inside = absurd (cc)
    by (x ∷ xs) zero (y ∷ front) k is inside = absurd (cc)
    by (x ∷ xs) (suc n) (y ∷ front) zero is inside =
        let same : x ≡ y = cc in
        ap {B = Option ℕ} Some same
    by (x ∷ xs) (suc n) (y ∷ front) (suc k) is inside =
        let rest : take n xs ≡ front = cc in
        by xs n front k rest (omega (arith, inside))

-- a front of a part's journal has no byte that is another's
front-same : {T : Type 0} (image : List ℕ) (d : Differs) → take 9 image ≡ 1 ∷ part_mark → IsOfFront part_mark image d → T
front-same image d front differs =
    absurd (differs.other (inl (slice_get-front image (1 ∷ part_mark) 9 d.at front differs.inside)))

-- a file is of no part or has a part's front
part-none : {T : Type 0} (image : List ℕ) (from to : ℕ) (d : Differs) → IsOfPart image from to → IsNoPart image d → T
part-none {T} image from to d part none = by none.place
  where
    by : IsOfFront part_mark image d ⊎ IsCutFront image d → T
    by (inl differs) = front-same image d part.front differs
    by (inr cut) = absurd (omega (arith, cut.short, part.long))

pub shard-refused : (id : List ℕ) (job : JobSizes) (image : List ℕ) (kept : List KeptEpoch) (d : Differs)
    → IsNoShard id job image d → ShardKeeps id job image kept → ⊥
shard-refused id job image kept d (inl none) (inl a) = never-blank image a.0 none.begun
shard-refused id job image kept d (inr (inl none)) (inl a) = never-blank image a.0 none.front.begun
shard-refused id job image kept d (inr (inr other)) (inl a) = never-blank image a.0 other.other.begun
shard-refused id job image kept d (inl none) (inr a) = part-none image a.1.from a.1.to d a.1.part.front none
shard-refused id job image kept d (inr (inl none)) (inr a) =
    let s : IsShard id job image a.0 = a.1 in
    let range : (s.from < s.to) × (s.to ≤ integrations job) = (s.part.some, s.part.within) in
    let same : (none.from < none.to) × (none.to ≤ integrations job) =
    of-part (λ (from to : ℕ). (from < to) × (to ≤ integrations job)) image none.from none.to s.from s.to none.front s.part.front range in
    none.none same.0 same.1
shard-refused id job image kept d (inr (inr other)) (inr a) =
    let s : IsShard id job image a.0 = a.1 in
    other.other.unread a.0
    (of-part (λ (from to : ℕ). Reads (shard_of id from to) (limited job from to) image a.0) image other.from other.to s.from s.to
    other.part.front s.part.front s.reads)

-- numbers of no part and of a part are not both in a front
range-none : {T : Type 0} (id : List ℕ) (job : JobSizes) (image : List ℕ) (d e : Differs) → IsOfNoPart job image d → IsOfOther id job image e → T
range-none id job image d e none other =
    let range : (other.from < other.to) × (other.to ≤ integrations job) = (other.part.some, other.part.within) in
    let same : (none.from < none.to) × (none.to ≤ integrations job) =
    of-part (λ (from to : ℕ). (from < to) × (to ≤ integrations job)) image none.from none.to other.from other.to none.front other.part.front
    range in
    absurd (none.none same.0 same.1)

no_part-one : (job : JobSizes) (image : List ℕ) (d e : Differs) → IsJob job → IsNoPart image d → IsNoPart image e → d ≡ e
no_part-one job image d e is one other = by one.place other.place
  where
    by : IsOfFront part_mark image d ⊎ IsCutFront image d → IsOfFront part_mark image e ⊎ IsCutFront image e → d ≡ e
    by (inl a) (inl b) = differs_once part_mark job image part_mark-IsIdentity is d e (inl a) (inl b)
    by (inl a) (inr b) = front-same image d b.front a
    by (inr a) (inl b) = front-same image e a.front b
    by (inr a) (inr b) = a.is ∙ sym b.is

pub differs-one : (id : List ℕ) (job : JobSizes) (image : List ℕ) (d e : Differs) → IsJob job
    → IsNoShard id job image d → IsNoShard id job image e → d ≡ e
differs-one id job image d e is (inl one) (inl other) = no_part-one job image d e is one other
differs-one id job image d e is (inl one) (inr (inl other)) = part-none image other.from other.to d other.front one
differs-one id job image d e is (inl one) (inr (inr other)) = part-none image other.from other.to d other.part.front one
differs-one id job image d e is (inr (inl one)) (inl other) = part-none image one.from one.to e one.front other
differs-one id job image d e is (inr (inl one)) (inr (inl other)) = one.is ∙ sym other.is
differs-one id job image d e is (inr (inl one)) (inr (inr other)) = range-none id job image d e one other
differs-one id job image d e is (inr (inr one)) (inl other) = part-none image one.from one.to e one.part.front other
differs-one id job image d e is (inr (inr one)) (inr (inl other)) = range-none id job image e d other one
differs-one id job image d e is (inr (inr one)) (inr (inr other)) =
    let same : IsDifference (shard_of id one.from one.to) (limited job one.from one.to) image e =
    of-part (λ (from to : ℕ). IsDifference (shard_of id from to) (limited job from to) image e) image one.from one.to other.from other.to
    one.part.front other.part.front other.other.place in
    differs_once (shard_of id one.from one.to) (limited job one.from one.to) image (shard_of-IsIdentity id one.from one.to)
    (limited-IsJob job one.from one.to is) d e one.other.place same
