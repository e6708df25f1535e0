-- The baselines of stations that stand in rising order.
use Rattle.std.specs.Prelude.{flat_map}
use Rattle.std.proofs.Common.{◌≡◌, ◌∙◌, ap, ℕ, ◌+◌, ◌*◌, ◌<◌, ◌≤◌, ◌⊎◌, Bool, true, false, cond, not, ◌&&◌, ◌||◌, ◌==◌, nat_lt, List, [], ◌∷◌, ◌++◌, length, get_or, map, filter, All, AllPairs, arith, refl, inl, inr}
use Rattle.std.proofs.lemmas.Bool.{le-ltb, ne_eqb, ltb-true, eqb-true, or_cases, and_parts, and_right, or_from}
use Rattle.std.proofs.lemmas.List.{length-append, length-map}
use Rattle.std.proofs.lemmas.List.Elements.{All-nil, All-head, All-tail, All-append, All-map, All-filter, All-weaker, filter_passes}
use Rattle.std.proofs.lemmas.List.Filters.{length-filter_both}
use Rattle.std.proofs.lemmas.Nat.{mul-le}
use Rattle.corr_model.specs.Records.{IsBefore}
use Rattle.scan_list.specs.declared.scan.Scan.{Scan}
use Rattle.job_plan.specs.declared.plan.BaselinePlan.{BaselinePlan}
use Rattle.job_text.specs.Job.{JobFields}
use Rattle.job_join.specs.Standing.{Stand, stands_in}
use Rattle.job_join.specs.Limits.{baselines_in}
use Rattle.job_join.proofs.RangesLists.{All-flat_map, AllPairs-nil, AllPairs-first, AllPairs-rest, AllPairs-append, AllPairs-map, AllPairs-filter}

-- two stations make a baseline
abbrev pub pairs_with : Bool → Stand → Stand → Bool
pairs_with auto a b = nat_lt a.number b.number || (auto && (a.number == b.number))

abbrev pub pair : Stand → Stand → BaselinePlan
pair a b = record { a = a.number; b = b.number }

-- the baselines of a station with some others
abbrev pub row : Bool → Stand → List Stand → List BaselinePlan
row auto a ys = map (pair a) (filter (pairs_with auto a) ys)

abbrev pub rows : Bool → List Stand → List Stand → List BaselinePlan
rows auto xs ys = flat_map (λ a. row auto a ys) xs

-- the baselines of each station with itself and those behind it
abbrev pub pairs : Bool → List Stand → List BaselinePlan
pairs auto [] = []
pairs auto (x ∷ xs) = row auto x (x ∷ xs) ++ pairs auto xs

abbrev pub AreRising : List Stand → Type 0
AreRising xs = AllPairs (λ (s t : Stand). s.number < t.number) xs

abbrev pub Comes : BaselinePlan → BaselinePlan → Type 0
Comes b c = IsBefore (b.a, b.b) (c.a, c.b)

pub baselines_in-rows : (job : JobFields) (scan : Scan) → baselines_in job scan ≡ rows job.auto (stands_in job scan) (stands_in job scan)
unfolding baselines_in
baselines_in-rows job scan = refl

module _ (auto : Bool) where
  pairs_with-earlier : (a b : Stand) → b.number < a.number → pairs_with auto a b ≡ false
  pairs_with-earlier a b less =
      or_from _ _ (le-ltb a.number b.number (omega arith)) (and_right auto _ (ne_eqb a.number b.number (λ same. omega arith)))

  pairs_with-order : (a b : Stand) → pairs_with auto a b ≡ true → a.number ≤ b.number
  pairs_with-order a b is = by (or_cases _ _ is)
    where
      by : (nat_lt a.number b.number ≡ true) ⊎ ((auto && (a.number == b.number)) ≡ true) → a.number ≤ b.number
      by (inl less) = omega (arith, ltb-true a.number b.number less)
      by (inr same) = omega (arith, eqb-true a.number b.number (and_parts auto _ same).1)

  rows-earlier : (x : Stand) (xs ys : List Stand) → All (λ a. x.number < a.number) xs → rows auto xs (x ∷ ys) ≡ rows auto xs ys
  rows-earlier x [] ys all = refl
  rows-earlier x (a ∷ xs) ys all =
      let none : pairs_with auto a x ≡ false = pairs_with-earlier a x (All-head (λ (s : Stand). x.number < s.number) a xs all) in
      let one : row auto a (x ∷ ys) ≡ row auto a ys = ap (λ b. map (pair a) (cond b (x ∷ filter (pairs_with auto a) ys) (filter (pairs_with auto a) ys))) none in
      let rest : rows auto xs (x ∷ ys) ≡ rows auto xs ys = rows-earlier x xs ys (All-tail (λ (s : Stand). x.number < s.number) a xs all) in
      ap (λ l. l ++ rows auto xs (x ∷ ys)) one ∙ ap (λ l. row auto a ys ++ l) rest

  rows-pairs : (xs : List Stand) → AreRising xs → rows auto xs xs ≡ pairs auto xs
  rows-pairs [] rising = refl
  rows-pairs (x ∷ xs) rising =
      let earlier : rows auto xs (x ∷ xs) ≡ rows auto xs xs = rows-earlier x xs xs (AllPairs-first (λ (s t : Stand). s.number < t.number) x xs rising) in
      let rest : rows auto xs xs ≡ pairs auto xs = rows-pairs xs (AllPairs-rest (λ (s t : Stand). s.number < t.number) x xs rising) in
      ap (λ l. row auto x (x ∷ xs) ++ l) (earlier ∙ rest)

  length-row : (a : Stand) (ys : List Stand) → length (row auto a ys) ≤ length ys
  length-row a ys = omega (arith, length-map (filter (pairs_with auto a) ys) (pair a), length-filter_both (pairs_with auto a) (λ b. not (pairs_with auto a b)) (λ b. refl) ys)

  -- n stations have at most n (n + 1) / 2 baselines
  length-pairs : (xs : List Stand) → 2 * length (pairs auto xs) ≤ length xs * (length xs + 1)
  length-pairs [] = omega arith
  length-pairs (x ∷ xs) = omega (arith, length-append (row auto x (x ∷ xs)) (pairs auto xs), length-row x (x ∷ xs), length-pairs xs)

  -- a fact of two stations of which the first is not behind the second
  All-rows : (P : BaselinePlan → Type 0) (xs ys : List Stand) → All (λ a. All (λ b. a.number ≤ b.number → P (pair a b)) ys) xs → All P (rows auto xs ys)
  All-rows P xs ys all = All-flat_map P (λ a. row auto a ys) xs (All-weaker _ _ each xs all)
    where
      each : (a : Stand) → All (λ b. a.number ≤ b.number → P (pair a b)) ys → All P (row auto a ys)
      each a its = All-map P (pair a) (filter (pairs_with auto a) ys) (λ k d less.
          All-filter (pairs_with auto a) (λ b. a.number ≤ b.number → P (pair a b)) ys its k d less
          (pairs_with-order a (get_or (filter (pairs_with auto a) ys) k d) (filter_passes (pairs_with auto a) ys k d less)))

  behind : (n : ℕ) (xs : List Stand) → All (λ s. n < s.number) xs → All (λ b. n < b.a) (pairs auto xs)
  behind n [] all = All-nil (λ b. n < b.a)
  behind n (x ∷ xs) all =
      let first : n < x.number = All-head (λ (s : Stand). n < s.number) x xs all in
      All-append (λ b. n < b.a) (row auto x (x ∷ xs)) (pairs auto xs)
      (All-map (λ b. n < b.a) (pair x) (filter (pairs_with auto x) (x ∷ xs)) (λ k d less. first))
      (behind n xs (All-tail (λ (s : Stand). n < s.number) x xs all))

  row-rising : (a : Stand) (ys : List Stand) → AreRising ys → AllPairs Comes (row auto a ys)
  row-rising a ys rising = AllPairs-map Comes (pair a) (filter (pairs_with auto a) ys) (λ i j d less within.
      inr (refl, AllPairs-filter (λ (s t : Stand). s.number < t.number) (pairs_with auto a) ys rising i j d less within))

  pairs-rising : (xs : List Stand) → AreRising xs → AllPairs Comes (pairs auto xs)
  pairs-rising [] rising = AllPairs-nil Comes
  pairs-rising (x ∷ xs) rising =
      let first : All (λ s. x.number < s.number) xs = AllPairs-first (λ (s t : Stand). s.number < t.number) x xs rising in
      let later : All (λ b. x.number < b.a) (pairs auto xs) = behind x.number xs first in
      AllPairs-append Comes (row auto x (x ∷ xs)) (pairs auto xs) (row-rising x (x ∷ xs) rising)
      (pairs-rising xs (AllPairs-rest (λ (s t : Stand). s.number < t.number) x xs rising))
      (All-map (λ b. All (Comes b) (pairs auto xs)) (pair x) (filter (pairs_with auto x) (x ∷ xs)) (λ k d less i b within. inl (later i b within)))

-- the baselines of a scan whose stations stand in rising order
module _ (job : JobFields) (scan : Scan) (rising : AreRising (stands_in job scan)) where
  baselines_in-pairs : baselines_in job scan ≡ pairs job.auto (stands_in job scan)
  baselines_in-pairs = baselines_in-rows job scan ∙ rows-pairs job.auto (stands_in job scan) rising

  pub baselines_in-rising : AllPairs Comes (baselines_in job scan)
  baselines_in-rising = rw baselines_in-pairs (pairs-rising job.auto (stands_in job scan) rising)

  -- at most 528 for at most 32 stations
  pub baselines_in-few : length (stands_in job scan) ≤ 32 → length (baselines_in job scan) ≤ 528
  baselines_in-few few =
      let most : 2 * length (pairs job.auto (stands_in job scan)) ≤ length (stands_in job scan) * (length (stands_in job scan) + 1) = length-pairs job.auto (stands_in job scan) in
      let least : length (stands_in job scan) * (length (stands_in job scan) + 1) ≤ 32 * 33 = mul-le (length (stands_in job scan)) (length (stands_in job scan) + 1) 32 33 few (omega arith) in
      rw baselines_in-pairs (omega arith)

-- a fact of two stations of a scan of which the first is not behind the second
pub All-baselines_in : (job : JobFields) (scan : Scan) (P : BaselinePlan → Type 0)
    → All (λ a. All (λ b. a.number ≤ b.number → P (pair a b)) (stands_in job scan)) (stands_in job scan) → All P (baselines_in job scan)
All-baselines_in job scan P all = rw (baselines_in-rows job scan) (All-rows job.auto P (stands_in job scan) (stands_in job scan) all)
