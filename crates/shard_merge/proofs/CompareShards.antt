-- What is known of shards that were read: facts about what they keep, and what is found in them one after another.
use Rattle.std.specs.Prelude.{map, replicate, option_map, Option, None, Some}
use Rattle.std.proofs.Common.{◌≡◌, ◌∙◌, sym, ap, subst, ℕ, zero, suc, ◌+◌, ◌≤◌, ◌<◌, Bool, true, false, cond, List, [], ◌∷◌, ◌++◌, length, take, get_or, arith}
use Rattle.std.proofs.lemmas.List.{map-append, append-nil, take_all}
use Rattle.std.proofs.lemmas.List.Elements.{filter_more}
use Rattle.std.proofs.lemmas.Slice.Zip.{AllZip-long}
use Rattle.dev_traits.specs.Told.{WhereTold}
use Rattle.corr_model.specs.Files.{Files}
use Rattle.corr_model.specs.declared.cell.Cell.{Cell}
use Rattle.corr_model.specs.Cell.{no_cell}
use Rattle.piece_plan.specs.Epochs.{JobSizes}
use Rattle.journal_image.specs.Image.{KeptEpoch}
use Rattle.shard_merge.specs.declared.shard.Shard.{Shard}
use Rattle.shard_merge.specs.declared.comparison.Found.{Found}
use Rattle.shard_merge.specs.Covers.{covers, epochs_of_kept, width_at, added, kept_in, shard_cells, covering}
use Rattle.shard_merge.specs.Verdict.{difference, earlier}
use Rattle.shard_merge.specs.Reading.{IsReadFrom, AreReadFrom}
use Rattle.shard_merge.specs.CompareSteps.{as_difference, with_shard, cells_of, Knows, Stands}
use Rattle.shard_merge.proofs.CompareCells.{Stands-first, Stands-more}

pub Knows-weaker : (told : Option Files) (job : JobSizes) (shards : List Shard) (P Q : List (List KeptEpoch) → Type 0)
    → ((keeps : List (List KeptEpoch)) → P keeps → Q keeps) → Knows told job shards P → Knows told job shards Q
Knows-weaker None job shards P Q follows fact = tt
Knows-weaker (Some files) job shards P Q follows fact = λ id keeps read. follows keeps (fact id keeps read)

pub Knows-always : (told : Option Files) (job : JobSizes) (shards : List Shard) (P : List (List KeptEpoch) → Type 0)
    → ((keeps : List (List KeptEpoch)) → P keeps) → Knows told job shards P
Knows-always None job shards P fact = tt
Knows-always (Some files) job shards P fact = λ id keeps read. fact keeps

-- the second fact is of a later state of the shelf, which tells the same
pub Knows-both : (told now : Option Files) (job : JobSizes) (shards : List Shard) (P Q R : List (List KeptEpoch) → Type 0)
    → now ≡ told → ((keeps : List (List KeptEpoch)) → P keeps → Q keeps → R keeps)
    → Knows told job shards P → Knows now job shards Q → Knows told job shards R
Knows-both told now job shards P Q R same follows first second =
    both told job shards P Q R follows first (subst (λ t. Knows t job shards Q) same second)
  where
    both : (told : Option Files) (job : JobSizes) (shards : List Shard) (P Q R : List (List KeptEpoch) → Type 0)
        → ((keeps : List (List KeptEpoch)) → P keeps → Q keeps → R keeps)
        → Knows told job shards P → Knows told job shards Q → Knows told job shards R
    both None job shards P Q R follows first second = tt
    both (Some files) job shards P Q R follows first second = λ id keeps read. follows keeps (first id keeps read) (second id keeps read)

cells_or_with : (test : Bool) (f : List KeptEpoch → List Cell) (kept : List KeptEpoch) (before : List (List KeptEpoch))
    → map f (before ++ cond test (kept ∷ []) []) ≡ cond test (map f before ++ (f kept ∷ [])) (map f before)
cells_or_with true f kept before = map-append f before (kept ∷ [])
cells_or_with false f kept before = ap (map f) (append-nil before)

-- the cells of one more shard
pub cells_of-more : (job : JobSizes) (number m : ℕ) (keeps : List (List KeptEpoch)) (k : ℕ) → k < length keeps
    → cells_of job number m (take (k + 1) keeps) ≡ with_shard job number m (get_or keeps k []) (cells_of job number m (take k keeps))
cells_of-more job number m keeps k within =
    ap (map (shard_cells job number m)) (filter_more (λ (kept : List KeptEpoch). covers job number m (epochs_of_kept kept)) keeps k [] within)
    ∙ cells_or_with (covers job number m (epochs_of_kept (get_or keeps k []))) (shard_cells job number m) (get_or keeps k [])
    (covering job number m (take k keeps))

length-AreReadFrom : (files : Files) (id : List ℕ) (job : JobSizes) (shards : List Shard) (keeps : List (List KeptEpoch))
    → AreReadFrom files id job shards keeps → length keeps ≡ length shards
length-AreReadFrom files id job shards keeps read = AllZip-long (IsReadFrom files id job) shards keeps read

-- the shard of a number keeps what stands under the same number
pub AreReadFrom-get_or : (files : Files) (id : List ℕ) (job : JobSizes) (shards : List Shard) (keeps : List (List KeptEpoch)) (k : ℕ) (d : Shard)
    → AreReadFrom files id job shards keeps → k < length shards
    → IsReadFrom files id job (get_or shards k d) (get_or keeps k [])
AreReadFrom-get_or files id job [] [] k d read within = absurd (omega arith)
AreReadFrom-get_or files id job [] (kept ∷ keeps) k d read within = absurd read
AreReadFrom-get_or files id job (s ∷ shards) [] k d read within = absurd read
AreReadFrom-get_or files id job (s ∷ shards) (kept ∷ keeps) zero d read within = read.0
AreReadFrom-get_or files id job (s ∷ shards) (kept ∷ keeps) (suc k) d read within =
    AreReadFrom-get_or files id job shards keeps k d read.1 (omega arith)

-- what is found in one more shard, at a later state of the shelf, which tells the same
pub Knows-shard : (told now : Option Files) (job : JobSizes) (shards : List Shard) (number m k : ℕ) (shard : Shard) (found next : Found) (first first' : List Cell)
    → now ≡ told → k < length shards → shard ≡ get_or shards k shard
    → Knows told job shards (λ keeps. Stands found first (cells_of job number m (take k keeps)))
    → WhereTold now (λ files. (id : List ℕ) (kept : List KeptEpoch) (cells : List (List Cell)) → IsReadFrom files id job shard kept
    → Stands found first cells → Stands next first' (with_shard job number m kept cells))
    → Knows told job shards (λ keeps. Stands next first' (cells_of job number m (take (k + 1) keeps)))
Knows-shard told now job shards number m k shard found next first first' same within is before step =
    more told job shards number m k shard found next first first' within is before
    (subst
    (λ t. WhereTold t (λ files. (id : List ℕ) (kept : List KeptEpoch) (cells : List (List Cell)) → IsReadFrom files id job shard kept
    → Stands found first cells → Stands next first' (with_shard job number m kept cells)))
    same step)
  where
    more : (told : Option Files) (job : JobSizes) (shards : List Shard) (number m k : ℕ) (shard : Shard) (found next : Found) (first first' : List Cell)
        → k < length shards → shard ≡ get_or shards k shard
        → Knows told job shards (λ keeps. Stands found first (cells_of job number m (take k keeps)))
        → WhereTold told (λ files. (id : List ℕ) (kept : List KeptEpoch) (cells : List (List Cell)) → IsReadFrom files id job shard kept
        → Stands found first cells → Stands next first' (with_shard job number m kept cells))
        → Knows told job shards (λ keeps. Stands next first' (cells_of job number m (take (k + 1) keeps)))
    more None job shards number m k shard found next first first' within is before step = tt
    more (Some files) job shards number m k shard found next first first' within is before step =
        λ id keeps read.
        let long : k < length keeps = omega (arith, length-AreReadFrom files id job shards keeps read) in
        let here : IsReadFrom files id job shard (get_or keeps k []) =
        subst (λ (s : Shard). IsReadFrom files id job s (get_or keeps k [])) (sym is) (AreReadFrom-get_or files id job shards keeps k shard read within) in
        subst (λ (cells : List (List Cell)). Stands next first' cells) (sym (cells_of-more job number m keeps k long))
        (step id (get_or keeps k []) (cells_of job number m (take k keeps)) here (before id keeps read))

-- of none nothing is found, and of all what was found is known
pub Knows-begin : (told : Option Files) (job : JobSizes) (shards : List Shard) (number m : ℕ) (found : Found) (first : List Cell)
    → found.some ≡ false → found.least ≡ None → Knows told job shards (λ keeps. Stands found first (cells_of job number m (take 0 keeps)))
Knows-begin told job shards number m found first some least =
    Knows-always told job shards (λ keeps. Stands found first (cells_of job number m (take 0 keeps))) (λ keeps. (some, least))

pub Knows-end : (told : Option Files) (job : JobSizes) (shards : List Shard) (number m k : ℕ) (found : Found) (first : List Cell)
    → length shards ≤ k → Knows told job shards (λ keeps. Stands found first (cells_of job number m (take k keeps)))
    → Knows told job shards (λ keeps. Stands found first (cells_of job number m keeps))
Knows-end None job shards number m k found first all before = tt
Knows-end (Some files) job shards number m k found first all before =
    λ id keeps read.
    let long : length keeps ≤ k = omega (arith, length-AreReadFrom files id job shards keeps read) in
    subst (λ (kept : List (List KeptEpoch)). Stands found first (cells_of job number m kept)) (take_all k keeps long) (before id keeps read)

with_shard-without : (job : JobSizes) (number m : ℕ) (kept : List KeptEpoch) (cells : List (List Cell)) → covers job number m (epochs_of_kept kept) ≡ false
    → with_shard job number m kept cells ≡ cells
with_shard-without job number m kept cells test =
    ap (λ (b : Bool). cond b (cells ++ (shard_cells job number m kept ∷ [])) cells) test

with_shard-with : (job : JobSizes) (number m : ℕ) (kept : List KeptEpoch) (cells : List (List Cell)) → covers job number m (epochs_of_kept kept) ≡ true
    → with_shard job number m kept cells ≡ cells ++ (shard_cells job number m kept ∷ [])
with_shard-with job number m kept cells test =
    ap (λ (b : Bool). cond b (cells ++ (shard_cells job number m kept ∷ [])) cells) test

-- what is found once a shard was looked at, by what was found before
abbrev pub IsFoundAfter : JobSizes → Shard → ℕ → ℕ → Found → Found → List Cell → List Cell → Files → Type 0
IsFoundAfter job shard number m found next first first' files =
    (id : List ℕ) (kept : List KeptEpoch) (cells : List (List Cell)) → IsReadFrom files id job shard kept
    → Stands found first cells → Stands next first' (with_shard job number m kept cells)

-- a test that tells whether the shard covers the integration
abbrev pub IsCovering : JobSizes → Shard → ℕ → ℕ → Bool → Type 0
IsCovering job shard number m test =
    (files : Files) (id : List ℕ) (kept : List KeptEpoch) → IsReadFrom files id job shard kept
    → test ≡ covers job number m (epochs_of_kept kept)

-- the shard's cells, as they were read
abbrev pub AreCellsOf : JobSizes → Shard → ℕ → ℕ → ℕ → List Cell → Files → Type 0
AreCellsOf job shard number m width cells files =
    (id : List ℕ) (kept : List KeptEpoch) → IsReadFrom files id job shard kept
    → cells ≡ added (replicate width no_cell) (kept_in number m kept)

pub IsFoundAfter-uncovered : (told : Option Files) (job : JobSizes) (shard : Shard) (number m : ℕ) (test : Bool) (found : Found) (first : List Cell)
    → IsCovering job shard number m test → test ≡ false → WhereTold told (IsFoundAfter job shard number m found found first first)
IsFoundAfter-uncovered None job shard number m test found first tells not = tt
IsFoundAfter-uncovered (Some files) job shard number m test found first tells not =
    λ id kept cells read stands.
    subst (λ (all : List (List Cell)). Stands found first all)
    (sym (with_shard-without job number m kept cells (sym (tells files id kept read) ∙ not)))
    stands

-- where the shard covers the integration, by what stands with the cells that were read
IsFoundAfter-read : (told : Option Files) (job : JobSizes) (shard : Shard) (number m width : ℕ) (test : Bool) (found next : Found) (first first' cells : List Cell)
    → IsCovering job shard number m test → test ≡ true
    → ((before : List (List Cell)) → Stands found first before → Stands next first' (before ++ (cells ∷ [])))
    → width ≡ width_at job number → WhereTold told (AreCellsOf job shard number m width cells)
    → WhereTold told (IsFoundAfter job shard number m found next first first')
IsFoundAfter-read None job shard number m width test found next first first' cells tells covered follows wide sums = tt
IsFoundAfter-read (Some files) job shard number m width test found next first first' cells tells covered follows wide sums =
    λ id kept before read stands.
    let is : cells ≡ shard_cells job number m kept =
    sums id kept read ∙ ap (λ n. added (replicate n no_cell) (kept_in number m kept)) wide in
    subst (λ (all : List (List Cell)). Stands next first' all)
    (sym
    (with_shard-with job number m kept before (sym (tells files id kept read) ∙ covered)
    ∙ ap (λ (c : List Cell). before ++ (c ∷ [])) (sym is)))
    (follows before stands)

pub IsFoundAfter-first : (told : Option Files) (job : JobSizes) (shard : Shard) (number m width : ℕ) (test : Bool) (found next : Found) (first cells : List Cell)
    → IsCovering job shard number m test → test ≡ true → found.some ≡ false → next.some ≡ true → next.least ≡ None
    → width ≡ width_at job number → WhereTold told (AreCellsOf job shard number m width cells)
    → WhereTold told (IsFoundAfter job shard number m found next first cells)
IsFoundAfter-first told job shard number m width test found next first cells tells covered none some least =
    IsFoundAfter-read told job shard number m width test found next first cells cells tells covered
    (λ before stands. Stands-first found next first cells before none stands some least)

pub IsFoundAfter-more : (told : Option Files) (job : JobSizes) (shard : Shard) (number m width : ℕ) (test : Bool) (found next : Found) (first cells : List Cell)
    → IsCovering job shard number m test → test ≡ true → found.some ≡ true → next.some ≡ true
    → option_map as_difference next.least ≡ earlier (option_map as_difference found.least) (difference 0 first cells)
    → width ≡ width_at job number → WhereTold told (AreCellsOf job shard number m width cells)
    → WhereTold told (IsFoundAfter job shard number m found next first first)
IsFoundAfter-more told job shard number m width test found next first cells tells covered once some least =
    IsFoundAfter-read told job shard number m width test found next first first cells tells covered
    (λ before stands. Stands-more found next first cells before once stands some least)
