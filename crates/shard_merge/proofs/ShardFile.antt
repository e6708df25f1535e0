-- The file of a name on a shelf, and what a shard read from it is.
use Rattle.std.proofs.Common.{◌≡◌, ◌∙◌, ℕ, ◌<◌, ◌^◌, List, length, Option, Some, None, refl, sym, subst, arith, eq-eqb, lt-ltb}
use Rattle.corr_model.specs.Files.{Files, bytes_under}
use Rattle.dev_traits.specs.Told.{WhereTold}
use Rattle.dev_traits.proofs.ToldLemmas.{WhereTold-weaker}
use Rattle.journal_image.specs.declared.difference.Differs.{Differs}
use Rattle.dev_traits.specs.Files.{size_of}
use Rattle.piece_plan.specs.Epochs.{JobSizes}
use Rattle.journal_image.specs.Image.{KeptEpoch}
use Rattle.shelf_file.specs.Seen.{of_length, seen_under}
use Rattle.shard_merge.specs.declared.fault.ShardFault.{ShardFault}
use Rattle.shard_merge.specs.declared.fault.ShardFault.TheVariants.{Read, NotShard, Memory}
use Rattle.shard_merge.specs.declared.shard.Shard.{Shard}
use Rattle.shard_merge.specs.Shards.{IsNoShard}
use Rattle.shard_merge.specs.Listing.{ListsShard, IsUnlisted, IsFileWith}
use Rattle.shard_merge.specs.Reading.{IsReadFrom, IsRefusedShard}

-- a file that has this length is seen
of_length-Some : (size : ℕ) (bytes : List ℕ) → length bytes ≡ size → size < 2 ^ 63 → of_length size (Some bytes) ≡ Some bytes
of_length-Some size bytes same short =
    let long = eq-eqb (length bytes) size same in
    let few = lt-ltb (length bytes) (2 ^ 63) (omega arith) in
    rw long (rw few refl)

module _ (P : List ℕ → Type 0) (name : List ℕ) (size : ℕ) (short : size < 2 ^ 63) where
  there : (files : Files) (file : Option (List ℕ)) → files name ≡ file → size_of file ≡ Some size → WhereTold (of_length size file) P → IsFileWith P files name size
  there files None is same holds = absurd (cc same)
  there files (Some bytes) is same holds =
      let long : length bytes ≡ size = cc same in
      record { image = bytes; there = is; size_is = long; holds = subst (λ (o : Option (List ℕ)). WhereTold o P) (of_length-Some size bytes long short) holds }

  -- what holds of the file as it is seen holds of the shelf's bytes
  pub seen_under-IsFileWith : (told : Option Files) → WhereTold told (λ (files : Files). size_of (files name) ≡ Some size) → WhereTold (seen_under told name size) P
      → WhereTold told (λ (files : Files). IsFileWith P files name size)
  seen_under-IsFileWith None same holds = tt
  seen_under-IsFileWith (Some files) same holds = there files (files name) refl same holds

-- a shard with the name of that file
file-IsReadFrom : (files : Files) (id : List ℕ) (job : JobSizes) (s : Shard) → IsFileWith (λ image. ListsShard id job image s.kept.items) files s.name s.size
    → (kept : List KeptEpoch) × IsReadFrom files id job s kept
file-IsReadFrom files id job s file =
    (file.holds.kept, record { image = file.image; there = file.there; size = file.size_is; keeps = file.holds.keeps; places = file.holds.places })

pub seen_under-IsReadFrom : (told : Option Files) (id : List ℕ) (job : JobSizes) (s : Shard) → s.size < 2 ^ 63 → WhereTold told (λ (files : Files). size_of (files s.name) ≡ Some s.size)
    → WhereTold (seen_under told s.name s.size) (λ image. ListsShard id job image s.kept.items)
    → WhereTold told (λ (files : Files). (kept : List KeptEpoch) × IsReadFrom files id job s kept)
seen_under-IsReadFrom told id job s short same lists =
    WhereTold-weaker told (λ (files : Files). IsFileWith (λ image. ListsShard id job image s.kept.items) files s.name s.size) (λ (files : Files). (kept : List KeptEpoch) × IsReadFrom files id job s kept)
    (λ files file. file-IsReadFrom files id job s file)
    (seen_under-IsFileWith (λ image. ListsShard id job image s.kept.items) s.name s.size short told same lists)

-- a file of that name that is refused
file-IsNoShard : (files : Files) (id : List ℕ) (job : JobSizes) (name : List ℕ) (size : ℕ) (d : Differs) → IsFileWith (λ image. IsNoShard id job image d) files name size → IsNoShard id job (bytes_under files name) d
file-IsNoShard files id job name size d file = rw file.there file.holds

pub nothing_said : (told : Option Files) → WhereTold told (λ (files : Files). Unit {0})
nothing_said None = tt
nothing_said (Some files) = tt

pub seen_under-IsRefusedShard : (told : Option Files) (id : List ℕ) (job : JobSizes) (name : List ℕ) (size : ℕ) (fault : ShardFault) → size < 2 ^ 63 → WhereTold told (λ (files : Files). size_of (files name) ≡ Some size)
    → IsUnlisted id job (seen_under told name size) fault → WhereTold told (λ (files : Files). IsRefusedShard files id job name fault)
seen_under-IsRefusedShard told id job name size Read short same unlisted = nothing_said told
seen_under-IsRefusedShard told id job name size (NotShard d) short same unlisted =
    WhereTold-weaker told (λ (files : Files). IsFileWith (λ image. IsNoShard id job image d) files name size) (λ (files : Files). IsNoShard id job (bytes_under files name) d)
    (λ files file. file-IsNoShard files id job name size d file)
    (seen_under-IsFileWith (λ image. IsNoShard id job image d) name size short told same unlisted)
seen_under-IsRefusedShard told id job name size Memory short same unlisted = nothing_said told

-- the same where the name is a copy, and the text that was asked for is it
pub copied-IsReadFrom : (told : Option Files) (id : List ℕ) (job : JobSizes) (s : Shard) (name text : List ℕ) (size : ℕ) → s.name ≡ name → text ≡ name → s.size ≡ size → size < 2 ^ 63
    → WhereTold told (λ (files : Files). size_of (files name) ≡ Some size) → WhereTold (seen_under told text size) (λ image. ListsShard id job image s.kept.items)
    → WhereTold told (λ (files : Files). (kept : List KeptEpoch) × IsReadFrom files id job s kept)
copied-IsReadFrom told id job s name text size named worded sized short same lists =
    seen_under-IsReadFrom told id job s (subst (λ (n : ℕ). n < 2 ^ 63) (sym sized) short)
    (subst (λ (n : ℕ). WhereTold told (λ (files : Files). size_of (files s.name) ≡ Some n)) (sym sized)
    (subst (λ (l : List ℕ). WhereTold told (λ (files : Files). size_of (files l) ≡ Some size)) (sym named) same))
    (subst (λ (n : ℕ). WhereTold (seen_under told s.name n) (λ image. ListsShard id job image s.kept.items)) (sym sized)
    (subst (λ (l : List ℕ). WhereTold (seen_under told l size) (λ image. ListsShard id job image s.kept.items)) (worded ∙ sym named) lists))
