-- The journal of a part, read as that of a shard.
use Rattle.std.proofs.Common.{◌≡◌, inl, inr, ℕ, ◌<◌, ◌≤◌, ◌^◌, ◌++◌, true, List, [], length, get_or, drop, Option, Some, None, refl, ap, subst, arith}
use Rattle.std.specs.Prelude.{codes, slice_index_or, Result, Ok, Err, IfOk, IfErr}
use Rattle.std.specs.List.{All}
use Rattle.std.proofs.lemmas.List.{length-append, length-drop}
use Rattle.byteorder.specs.Endian.{little_bytes}
use Rattle.byteorder.specs.Numbers.{length-bytes_low_first}
use Rattle.dev_traits.specs.Told.{WhereTold}
use Rattle.checkpoint_journal.proofs.ToldLemmas.{told_both}
use Rattle.piece_plan.specs.declared.epoch.EpochPlan.{EpochPlan}
use Rattle.piece_plan.specs.Epochs.{JobSizes, IsEpoch}
use Rattle.piece_plan.specs.Limited.{integrations, limited}
use Rattle.journal_image.specs.declared.difference.Differs.{Differs}
use Rattle.journal_image.specs.Image.{is_blank, KeptEpoch, Keeps}
use Rattle.checkpoint_journal.specs.declared.listed.KeptAt.{KeptAt}
use Rattle.checkpoint_journal.specs.Finding.{IsOther}
use Rattle.checkpoint_journal.specs.Identity.{shard_of}
use Rattle.checkpoint_journal.specs.Listed.{IsPlaced, Lists}
use Rattle.checkpoint_journal.specs.Part.{IsOfPart}
use Rattle.shard_merge.specs.declared.fault.ShardFault.{ShardFault}
use Rattle.shard_merge.specs.declared.fault.ShardFault.TheVariants.{Read, NotShard, Memory}
use Rattle.shard_merge.specs.Shards.{IsPartOf, ShardKeeps, IsNoShard}
use Rattle.shard_merge.specs.Listing.{ListsShard, IsUnlisted, IsUnlike}

-- the identity of a part is 24 bytes longer than the job's at most
pub length-shard_of-lt : (id : List ℕ) (from to : ℕ) → length id < 2 ^ 61 → length (shard_of id from to) < 2 ^ 62
length-shard_of-lt id from to short =
    let rest = drop 8 id in
    omega (
      arith,
      length-append (codes "VLBISHD1") (little_bytes 8 from ++ (little_bytes 8 to ++ rest)),
      length-append (little_bytes 8 from) (little_bytes 8 to ++ rest),
      length-append (little_bytes 8 to) rest,
      length-bytes_low_first 0 8 from,
      length-bytes_low_first 0 8 to,
      length-drop 8 id,
    )

module _ (id : List ℕ) (job : JobSizes) (from to : ℕ) where
  -- the epochs of a part are the job's
  pub placed-limited : ((e : EpochPlan) → IsEpoch (limited job from to) e → IsEpoch job e) → (listed : List KeptAt)
      → All (IsPlaced (limited job from to)) listed → All (IsPlaced job) listed
  placed-limited fits listed all = λ k d inside.
      let placed : IsPlaced (limited job from to) (slice_index_or listed k d) = all k d inside in
      record { epoch = fits (slice_index_or listed k d).epoch placed.epoch; of_plan = placed.of_plan; place = placed.place }

  module _ (image : List ℕ) (some : from < to) (within : to ≤ integrations job) (front : IsOfPart image from to) where
    part_of : IsPartOf job image from to
    part_of = record { front = front; some = some; within = within }

    keeps_of : (kept : List KeptEpoch) → Keeps (shard_of id from to) (limited job from to) image kept → ShardKeeps id job image kept
    keeps_of kept (inl blank) = inl blank
    keeps_of kept (inr (r, reads, is)) = inr (r, record { from = from; to = to; part = part_of; reads = reads }, is)

    pub lists-ListsShard : (listed : List KeptAt) → Lists (shard_of id from to) (limited job from to) image listed → ListsShard id job image listed
    lists-ListsShard listed lists = record { kept = lists.kept; keeps = keeps_of lists.kept lists.keeps; places = lists.places }

    other-IsNoShard : (d : Differs) → IsOther (shard_of id from to) (limited job from to) image d → IsNoShard id job image d
    other-IsNoShard d other = inr (inr (record { from = from; to = to; part = part_of; other = other }))

  -- the numbers are those of no part, and the fault is their first byte
  pub range-IsNoShard : (image : List ℕ) (byte : ℕ) → (from < to → to ≤ integrations job → ⊥) → IsOfPart image from to → byte ≡ get_or image 9 0
      → IsNoShard id job image (record { at = 9; kept = Some byte; ours = None })
  range-IsNoShard image byte unfit front is =
      let at : ℕ → Differs = λ n. record { at = 9; kept = Some n; ours = None } in
      inr (inl (record { from = from; to = to; front = front; none = unfit; is = ap at is }))

-- the same where the image is told
module _ (id : List ℕ) (job : JobSizes) (from to : ℕ) (some : from < to) (within : to ≤ integrations job) (seen : Option (List ℕ)) (front : WhereTold seen (λ image. IsOfPart image from to)) where
  pub told-ListsShard : (listed : List KeptAt) → WhereTold seen (λ image. Lists (shard_of id from to) (limited job from to) image listed) → WhereTold seen (λ image. ListsShard id job image listed)
  told-ListsShard listed lists =
      told_both seen (λ image. IsOfPart image from to) (λ image. Lists (shard_of id from to) (limited job from to) image listed) (λ image. ListsShard id job image listed)
      (λ image begun there. lists-ListsShard id job from to image some within begun listed there) front lists

  pub unlike-IsUnlisted : (fault : ShardFault) → IsUnlike (shard_of id from to) (limited job from to) seen fault → IsUnlisted id job seen fault
  unlike-IsUnlisted Read unlike = tt
  unlike-IsUnlisted (NotShard d) unlike =
      told_both seen (λ image. IsOfPart image from to) (λ image. IsOther (shard_of id from to) (limited job from to) image d) (λ image. IsNoShard id job image d)
      (λ image begun other. other-IsNoShard id job from to image some within begun d other) front unlike
  unlike-IsUnlisted Memory unlike = tt

  -- what a listing under an equal identity and plan answers
  module _ (own : List ℕ) (limits : JobSizes) (named : own ≡ shard_of id from to) (cut : limits ≡ limited job from to) {V : Type 0} where
    pub answer-ListsShard : (r : Result V ShardFault) (items : V → List KeptAt) → IfOk r (λ v. WhereTold seen (λ image. Lists own limits image (items v)))
        → IfOk r (λ v. WhereTold seen (λ image. ListsShard id job image (items v)))
    answer-ListsShard (Ok v) items lists = told-ListsShard (items v)
        (subst (λ (i : List ℕ). WhereTold seen (λ image. Lists i (limited job from to) image (items v))) named (subst (λ (j : JobSizes). WhereTold seen (λ image. Lists own j image (items v))) cut lists))
    answer-ListsShard (Err fault) items lists = tt

    pub answer-IsUnlisted : (r : Result V ShardFault) → IfErr r (IsUnlike own limits seen) → IfErr r (IsUnlisted id job seen)
    answer-IsUnlisted (Ok v) unlike = tt
    answer-IsUnlisted (Err fault) unlike = unlike-IsUnlisted fault
        (subst (λ (i : List ℕ). IsUnlike i (limited job from to) seen fault) named (subst (λ (j : JobSizes). IsUnlike own j seen fault) cut unlike))

    pub answer-placed : ((e : EpochPlan) → IsEpoch (limited job from to) e → IsEpoch job e) → (r : Result V ShardFault) (items : V → List KeptAt) → IfOk r (λ v. All (IsPlaced limits) (items v))
        → IfOk r (λ v. All (IsPlaced job) (items v))
    answer-placed fits (Ok v) items placed = placed-limited id job from to fits (items v) (subst (λ (j : JobSizes). All (IsPlaced j) (items v)) cut placed)
    answer-placed fits (Err fault) items placed = tt

-- a blank image lists no epoch
pub blank-ListsShard : (id : List ℕ) (job : JobSizes) (image : List ℕ) → is_blank image ≡ true → ListsShard id job image []
blank-ListsShard id job image blank = record { kept = []; keeps = inl (blank, refl); places = tt }

pub blank-Lists : (id : List ℕ) (job : JobSizes) (image : List ℕ) → is_blank image ≡ true → Lists id job image []
blank-Lists id job image blank = record { kept = []; keeps = inl (blank, refl); places = tt }
