-- The kept epochs of an integration, among those that a shard keeps and among the places that were listed for them.
use Rattle.std.specs.List.{AllZip}
use Rattle.std.proofs.Common.{◌≡◌, ◌∙◌, ℕ, Bool, true, false, cond, List, [], ◌∷◌, map, filter, refl, sym, ap}
use Rattle.piece_plan.specs.declared.epoch.EpochPlan.{EpochPlan}
use Rattle.job_epochs.specs.Added.{is_of}
use Rattle.journal_image.specs.Image.{KeptEpoch}
use Rattle.checkpoint_journal.specs.declared.listed.KeptAt.{KeptAt}
use Rattle.checkpoint_journal.specs.Listed.{IsKeptAt}
use Rattle.shard_merge.specs.Covers.{epochs_of_kept, kept_in}
use Rattle.shard_merge.specs.CoverageOrder.{epochs_of_listed}

-- the places of integration m of the scan of a number
abbrev pub listed_in : ℕ → ℕ → List KeptAt → List KeptAt
listed_in number m listed = filter (λ (a : KeptAt). is_of number m a.epoch) listed

pub epochs_of_listed-epochs_of_kept : (image : List ℕ) (kept : List KeptEpoch) (listed : List KeptAt) → AllZip (IsKeptAt image) kept listed
    → epochs_of_listed listed ≡ epochs_of_kept kept
epochs_of_listed-epochs_of_kept image [] [] all = refl
epochs_of_listed-epochs_of_kept image [] (a ∷ listed) all = absurd all
epochs_of_listed-epochs_of_kept image (k ∷ kept) [] all = absurd all
epochs_of_listed-epochs_of_kept image (k ∷ kept) (a ∷ listed) all =
    let here : a.epoch ≡ k.epoch = all.0.epoch in
    let rest = epochs_of_listed-epochs_of_kept image kept listed all.1 in
    ap (λ (e : EpochPlan). e ∷ epochs_of_listed listed) here ∙ ap (λ (es : List EpochPlan). k.epoch ∷ es) rest

map-cond : {A B : Type 0} (f : A → B) (b : Bool) (x : A) (xs : List A) → map f (cond b (x ∷ xs) xs) ≡ cond b (f x ∷ map f xs) (map f xs)
map-cond f true x xs = refl
map-cond f false x xs = refl

-- a filter by what a function gives
pub map-filter : {A B : Type 0} (f : A → B) (p : B → Bool) (xs : List A) → map f (filter (λ (x : A). p (f x)) xs) ≡ filter p (map f xs)
map-filter f p [] = refl
map-filter {A} {B} f p (x ∷ xs) =
    map-cond f (p (f x)) x (filter (λ (y : A). p (f y)) xs)
    ∙ ap (λ (ys : List B). cond (p (f x)) (f x ∷ ys) ys) (map-filter f p xs)

-- the epochs of an integration are those of the places that were listed for it
pub filter-epochs_of_kept : (image : List ℕ) (number m : ℕ) (kept : List KeptEpoch) (listed : List KeptAt) → AllZip (IsKeptAt image) kept listed
    → filter (is_of number m) (epochs_of_kept kept) ≡ epochs_of_listed (listed_in number m listed)
filter-epochs_of_kept image number m kept listed all =
    ap (filter (is_of number m)) (sym (epochs_of_listed-epochs_of_kept image kept listed all))
    ∙ sym (map-filter (λ (a : KeptAt). a.epoch) (is_of number m) listed)

AllZip-cond : {A B : Type 0} (R : A → B → Type 0) (b c : Bool) (x : A) (xs : List A) (y : B) (ys : List B) → b ≡ c → R x y → AllZip R xs ys
    → AllZip R (cond b (x ∷ xs) xs) (cond c (y ∷ ys) ys)
AllZip-cond R true true x xs y ys same here rest = (here, rest)
AllZip-cond R true false x xs y ys same here rest = cc
AllZip-cond R false true x xs y ys same here rest = cc
AllZip-cond R false false x xs y ys same here rest = rest

-- and each of them is at its place
pub kept_in-listed_in : (image : List ℕ) (number m : ℕ) (kept : List KeptEpoch) (listed : List KeptAt) → AllZip (IsKeptAt image) kept listed
    → AllZip (IsKeptAt image) (kept_in number m kept) (listed_in number m listed)
kept_in-listed_in image number m [] [] all = all
kept_in-listed_in image number m [] (a ∷ listed) all = absurd all
kept_in-listed_in image number m (k ∷ kept) [] all = absurd all
kept_in-listed_in image number m (k ∷ kept) (a ∷ listed) all =
    let here : a.epoch ≡ k.epoch = all.0.epoch in
    AllZip-cond (IsKeptAt image) (is_of number m k.epoch) (is_of number m a.epoch) k (kept_in number m kept) a (listed_in number m listed)
    (ap (is_of number m) (sym here)) all.0 (kept_in-listed_in image number m kept listed all.1)
