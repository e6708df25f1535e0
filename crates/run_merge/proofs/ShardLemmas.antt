-- Journals by their names, one behind the other, and their sizes.
use Rattle.std.specs.Prelude.{option_map}
use Rattle.std.proofs.Common.{◌≡◌, ◌∙◌, ◌<◌, ◌+◌, ℕ, List, [], ◌∷◌, ◌++◌, length, get_or, take, drop, map, Option, None, Some, Ok, Err, zero, suc, refl, sym, ap, ap₂, subst, arith}
use Rattle.std.specs.List.{AllZip}
use Rattle.std.proofs.lemmas.List.{take_more, drop_more, take-append-drop, map-append}
use Rattle.std.proofs.lemmas.Slice.Zip.{all_zipped_more}
use Rattle.dev_traits.specs.Files.{size_of}
use Rattle.corr_model.specs.Files.{Files, bytes_under}
use Rattle.piece_plan.specs.Epochs.{JobSizes}
use Rattle.journal_image.specs.Image.{KeptEpoch}
use Rattle.shard_merge.specs.declared.shard.Shard.{Shard}
use Rattle.shard_merge.specs.declared.fault.MergeFault.{MergeFault}
use Rattle.shard_merge.specs.declared.fault.MergeFault.TheVariants.{Read as MergeRead, Uncovered, Differs, Memory as MergeMemory}
use Rattle.shard_merge.specs.Shards.{ShardKeeps}
use Rattle.shard_merge.specs.Reading.{IsReadFrom, AreReadFrom}
use Rattle.shard_merge.specs.Verdict.{IsVerdict}
use Rattle.run_notes.specs.declared.refusal.Refusal.{Refusal}
use Rattle.run_notes.specs.Refusals.{IsCause}
use Rattle.run_ready.specs.Steps.{Is, Then}
use Rattle.run_ready.specs.Due.{IsDue}
use Rattle.run_ready.specs.Sizes.{no_file}
use Rattle.run_ready.specs.Stage.{IsOfFiles}
use Rattle.run_ready.proofs.StepLemmas.{IsCause-first, IsCause-next}
use Rattle.run_merge.specs.Outcome.{ShardOf, ShardsOf, merge_answer}
use Rattle.run_merge.specs.Shards.{AreShardsOf}
use Rattle.run_merge.specs.Refused.{merge_refusal}

-- ---- sizes

-- a file that has a size is there
pub no_file-sized : (files : Files) (name : List ℕ) (size : ℕ) → size_of (files name) ≡ Some size → no_file files name ≡ None
no_file-sized files name size = by (files name)
  where
    by : (o : Option (List ℕ)) → size_of o ≡ Some size → no_file (λ _. o) name ≡ None
    by None sized = absurd cc
    by (Some bytes) sized = refl

-- one more pair
pub AllZip-more : {A B : Type 0} (R : A → B → Type 0) (xs : List A) (ys : List B) (i : ℕ) (x : A) (y : B)
    → i < length xs → x ≡ get_or xs i x → AllZip R (take i xs) ys → R x y → AllZip R (take (i + 1) xs) (ys ++ y ∷ [])
AllZip-more {A} R xs ys i x y inside at all here =
    let same : take i xs ++ x ∷ [] ≡ take (i + 1) xs = ap (λ (w : A). take i xs ++ w ∷ []) at ∙ sym (take_more xs i x inside) in
    subst (λ (zs : List A). AllZip R zs (ys ++ y ∷ [])) same (all_zipped_more R (take i xs) ys x y all here)

-- the pair at a place
pub AllZip-get_or : {A B : Type 0} (R : A → B → Type 0) (xs : List A) (ys : List B) (i : ℕ) (x : A) (y : B)
    → i < length xs → AllZip R xs ys → R (get_or xs i x) (get_or ys i y)
AllZip-get_or R [] ys i x y inside all = absurd (omega (arith, inside))
AllZip-get_or R (a ∷ xs) [] i x y inside all = absurd all
AllZip-get_or R (a ∷ xs) (b ∷ ys) zero x y inside all = all.0
AllZip-get_or R (a ∷ xs) (b ∷ ys) (suc i) x y inside all = AllZip-get_or R xs ys i x y (omega (arith, inside)) all.1

-- ---- journals

bytes-there : (files : Files) (name image : List ℕ) → files name ≡ Some image → bytes_under files name ≡ image
bytes-there files name image there = ap (λ (o : Option (List ℕ)). bytes_under (λ _. o) []) there

module _ (files : Files) (id : List ℕ) (job : JobSizes) where
  ShardOf-read : (s : Shard) (kept : List KeptEpoch) → IsReadFrom files id job s kept → ShardOf files id job s.name (Ok kept)
  ShardOf-read s kept is =
      subst (λ (image : List ℕ). ShardKeeps id job image kept) (sym (bytes-there files s.name is.image is.there)) is.keeps

  -- what was read is what the files of these names come to
  pub ShardsOf-read : (shards : List Shard) (keeps : List (List KeptEpoch)) → AreReadFrom files id job shards keeps
      → ShardsOf files id job (map (λ (s : Shard). s.name) shards) (Ok keeps)
  ShardsOf-read [] [] are = refl
  ShardsOf-read [] (kept ∷ keeps) are = absurd are
  ShardsOf-read (s ∷ shards) [] are = absurd are
  ShardsOf-read (s ∷ shards) (kept ∷ keeps) are = (kept, ShardOf-read s kept are.0, (keeps, ShardsOf-read shards keeps are.1, refl))

  -- one more shard
  pub AreReadFrom-more : (shards : List Shard) (keeps : List (List KeptEpoch)) (s : Shard) (kept : List KeptEpoch)
      → AreReadFrom files id job shards keeps → IsReadFrom files id job s kept
      → AreReadFrom files id job (shards ++ s ∷ []) (keeps ++ kept ∷ [])
  AreReadFrom-more shards keeps s kept are is = all_zipped_more (IsReadFrom files id job) shards keeps s kept are is

  pub AreShardsOf-read : (names : List (List ℕ)) (shards : List Shard) (keeps : List (List KeptEpoch))
      → map (λ (s : Shard). s.name) shards ≡ names → AreReadFrom files id job shards keeps → AreShardsOf files id job names shards keeps
  AreShardsOf-read names shards keeps same are = record {
    read = are;
    outcome = subst (λ (ns : List (List ℕ)). ShardsOf files id job ns (Ok keeps)) same (ShardsOf-read shards keeps are);
  }

  module _ (r : Refusal) (stage : IsOfFiles r) where
    -- what refuses the first refuses all
    cause-first : (name : List ℕ) (names : List (List ℕ)) → IsCause r (ShardOf files id job name) → IsCause r (ShardsOf files id job (name ∷ names))
    cause-first name names cause =
        IsCause-first r (ShardOf files id job name) (λ kept. Then (ShardsOf files id job names) (λ keeps. Is (Ok (kept ∷ keeps)))) stage cause

    -- and so does what refuses those behind some that were read
    cause-behind : (shards : List Shard) (keeps : List (List KeptEpoch)) (names : List (List ℕ)) → AreReadFrom files id job shards keeps
        → IsCause r (ShardsOf files id job names) → IsCause r (ShardsOf files id job (map (λ (s : Shard). s.name) shards ++ names))
    cause-behind [] [] names are cause = cause
    cause-behind [] (kept ∷ keeps) names are cause = absurd are
    cause-behind (s ∷ shards) [] names are cause = absurd are
    cause-behind (s ∷ shards) (kept ∷ keeps) names are cause =
        let behind : List (List ℕ) = map (λ (s : Shard). s.name) shards ++ names in
        IsCause-next r (ShardOf files id job s.name) (λ kept. Then (ShardsOf files id job behind) (λ keeps. Is (Ok (kept ∷ keeps)))) kept stage
        (ShardOf-read s kept are.0)
        (IsCause-first r (ShardsOf files id job behind) (λ keeps. Is (Ok (kept ∷ keeps))) stage (cause-behind shards keeps names are.1 cause))

    -- what refuses the journal at a place refuses all, where those before it were read
    pub cause-at : (names : List (List ℕ)) (i : ℕ) (x : List ℕ) (shards : List Shard) (keeps : List (List KeptEpoch))
        → i < length names → x ≡ get_or names i x
        → map (λ (s : Shard). s.name) shards ≡ take i names → AreReadFrom files id job shards keeps
        → IsCause r (ShardOf files id job x)
        → IsCause r (ShardsOf files id job names)
    cause-at names i x shards keeps inside at named are cause =
        let here : x ∷ drop (i + 1) names ≡ drop i names =
        ap (λ (y : List ℕ). y ∷ drop (i + 1) names) at ∙ sym (drop_more names i x inside) in
        let split : map (λ (s : Shard). s.name) shards ++ (x ∷ drop (i + 1) names) ≡ names =
        ap₂ (λ (a b : List (List ℕ)). a ++ b) named here ∙ take-append-drop i names in
        subst (λ (ns : List (List ℕ)). IsCause r (ShardsOf files id job ns)) split
        (cause-behind shards keeps (x ∷ drop (i + 1) names) are (cause-first x (drop (i + 1) names) cause))

-- one more name
pub names-more : (shards : List Shard) (s : Shard) (names : List (List ℕ)) (i : ℕ) (x : List ℕ) → i < length names → x ≡ get_or names i x
    → map (λ (t : Shard). t.name) shards ≡ take i names → s.name ≡ x
    → map (λ (t : Shard). t.name) (shards ++ s ∷ []) ≡ take (i + 1) names
names-more shards s names i x inside at so_far here =
    map-append (λ (t : Shard). t.name) shards (s ∷ [])
    ∙ ap₂ (λ (a : List (List ℕ)) (b : List ℕ). a ++ b ∷ []) so_far (here ∙ at)
    ∙ sym (take_more names i x inside)

-- ---- the verdict

-- what is wrong with journals is due
pub IsDue-verdict : (want : Option MergeFault) (fault : MergeFault) → IsVerdict {T = Unit {0}} want (Err fault)
    → IsDue (merge_refusal fault) (option_map merge_answer want)
IsDue-verdict want MergeRead is = tt
IsDue-verdict want (Uncovered i) is = ap (option_map merge_answer) is
IsDue-verdict want (Differs d) is = ap (option_map merge_answer) is
IsDue-verdict want MergeMemory is = tt
