-- The fields in the lanes of a vector, and what a table has for each.
use Rattle.std.proofs.Common.{◌≡◌, ℕ, zero, suc, ◌+◌, ◌-◌, ◌*◌, ◌/◌, ◌%◌, ◌^◌, ◌<◌, ◌≤◌, eqb, true, List, [], ◌∷◌, ◌++◌, length, replicate, get_or, bit_and, inl, inr, refl, sym, subst, ap, ◌∙◌, arith, w8}
use Rattle.std.specs.Simd.Lanes.{zip2, put_chunk, pick_l}
use Rattle.std.proofs.lemmas.Bool.{cases_lt, agree_below_at, eqb-true}
use Rattle.std.proofs.lemmas.List.{get_or-replicate, get_or-map, get_or_append_left, get_or-append-add}
use Rattle.std.proofs.lemmas.Nat.{and_mask, one_shl, shr_le}
use Rattle.std.proofs.lemmas.Simd.{SwzOk, swz_l, SwzOk-from_below, get_or-swz_l_below, Each1-from_get_or, get_or-zip2, length-zip2, length-swz_l, length-put_chunk, get_or-put_chunk_below, get_or-put_chunk_at}
use Rattle.value_codes.specs.Fields.{field_at}
use Rattle.value_codes.proofs.ByteLemmas.{each-joined}
use Rattle.value_codes.proofs.FieldLemmas.{field-of-half}

-- the lanes of a vector, shifted
abbrev pub shifted : List ℕ → ℕ → List ℕ
shifted lanes low = zip2 (λ x s. x / 2 ^ s) lanes (replicate 16 low)

pub shifted-long : (lanes : List ℕ) (low : ℕ) → length lanes ≡ 16 → length (shifted lanes low) ≡ 16
shifted-long lanes low long = length-zip2 (λ x s. x / 2 ^ s) lanes (replicate 16 low) long ∙ long

shifted-at : (lanes : List ℕ) (low k : ℕ) → length lanes ≡ 16 → k < 16 → get_or (shifted lanes low) k 0 ≡ get_or lanes k 0 / 2 ^ low
shifted-at lanes low k long h =
    get_or-zip2 (λ x s. x / 2 ^ s) lanes (replicate 16 low) k 0 0 0 (omega (arith, h, long)) h
    ∙ ap (λ s. get_or lanes k 0 / 2 ^ s) (get_or-replicate 16 k low 0 h)

-- and their lowest bits
masked : (lanes : List ℕ) (mask width k : ℕ) → mask ≡ 2 ^ width - 1 → length lanes ≡ 16 → k < 16
    → get_or (zip2 bit_and lanes (replicate 16 mask)) k 0 ≡ get_or lanes k 0 % 2 ^ width
masked lanes mask width k is long h =
    get_or-zip2 bit_and lanes (replicate 16 mask) k 0 0 0 (omega (arith, h, long)) h
    ∙ ap (bit_and (get_or lanes k 0)) (get_or-replicate 16 k mask 0 h ∙ is)
    ∙ and_mask (get_or lanes k 0) width

-- all of a number
from-start : (x width : ℕ) → x / 2 ^ (width * 0) ≡ x
from-start x width = let none : width * 0 ≡ 0 = grind arith in let whole : x / 2 ^ 0 ≡ x = omega arith in ap (λ n. x / 2 ^ n) none ∙ whole

-- where the lanes of two vectors in turn come from
abbrev first_turn : List ℕ
first_turn = 0 ∷ 16 ∷ 1 ∷ 17 ∷ 2 ∷ 18 ∷ 3 ∷ 19 ∷ 4 ∷ 20 ∷ 5 ∷ 21 ∷ 6 ∷ 22 ∷ 7 ∷ 23 ∷ []

abbrev second_turn : List ℕ
second_turn = 8 ∷ 24 ∷ 9 ∷ 25 ∷ 10 ∷ 26 ∷ 11 ∷ 27 ∷ 12 ∷ 28 ∷ 13 ∷ 29 ∷ 14 ∷ 30 ∷ 15 ∷ 31 ∷ []

module _ (xs ys : List ℕ) (lane : ℕ → ℕ → ℕ) (long : length xs ≡ 16) (of_first : (k : ℕ) → k < 16 → get_or xs k 0 ≡ lane k 0)
    (of_second : (k : ℕ) → k < 16 → get_or ys k 0 ≡ lane k 1) where
  in-both : (place k r : ℕ) → place ≡ 16 * r + k → k < 16 → r < 2 → get_or (xs ++ ys) place 0 ≡ lane k r
  in-both place k zero is h few =
      let there : place ≡ k = omega (arith, is) in
      ap (λ n. get_or (xs ++ ys) n 0) there ∙ get_or_append_left xs ys 0 k (omega (arith, h, long)) ∙ of_first k h
  in-both place k (suc zero) is h few =
      let there : place ≡ length xs + k = omega (arith, is, long) in
      ap (λ n. get_or (xs ++ ys) n 0) there ∙ get_or-append-add xs ys k 0 ∙ of_second k h
  in-both place k (suc (suc r)) is h few = absurd (omega (arith, few))

  in-turn : (places : List ℕ) (i n : ℕ) → length places ≡ 16 → i < 16 → n < 32 → get_or places i 0 ≡ 16 * (n % 2) + n / 2
      → get_or (pick_l 0 (xs ++ ys) places) i 0 ≡ lane (n / 2) (n % 2)
  in-turn places i n all h inside is =
      get_or-map (λ k. get_or (xs ++ ys) k 0) places i 0 0 (omega (arith, h, all))
      ∙ in-both (get_or places i 0) (n / 2) (n % 2) is (omega (arith, inside)) (omega arith)

  first-turns : (i : ℕ) → i < 16 → get_or (pick_l 0 (xs ++ ys) first_turn) i 0 ≡ lane (i / 2) (i % 2)
  first-turns i h =
      in-turn first_turn i i refl h (omega (arith, h))
      (eqb-true _ _ (agree_below_at (λ n. eqb (get_or first_turn n 0) (16 * (n % 2) + n / 2)) (λ _. true) 16 i refl h))

  second-turns : (i : ℕ) → i < 16 → get_or (pick_l 0 (xs ++ ys) second_turn) i 0 ≡ lane ((16 + i) / 2) ((16 + i) % 2)
  second-turns i h =
      in-turn second_turn i (16 + i) refl h (omega (arith, h))
      (eqb-true _ _ (agree_below_at (λ n. eqb (get_or second_turn n 0) (16 * ((16 + n) % 2) + (16 + n) / 2)) (λ _. true) 16 i refl h))

-- two vectors of the fields of each lane
module _ (fields : List ℕ) (width : ℕ) (long : length fields ≡ 16) (narrow : width ≤ 4) where
  abbrev mask : ℕ
  mask = 1 * 2 ^ width % 256 - 1

  abbrev lower : List ℕ
  lower = zip2 bit_and fields (replicate 16 mask)

  abbrev higher : List ℕ
  higher = zip2 bit_and (shifted fields width) (replicate 16 mask)

  mask-is : mask ≡ 2 ^ width - 1
  mask-is = ap (λ n. n - 1) (one_shl width 8 (omega (arith, narrow)))

  lower-long : length lower ≡ 16
  lower-long = length-zip2 bit_and fields (replicate 16 mask) long ∙ long

  lower-at : (k : ℕ) → k < 16 → get_or lower k 0 ≡ get_or fields k 0 / 2 ^ (width * 0) % 2 ^ width
  lower-at k h = masked fields mask width k mask-is long h ∙ ap (λ x. x % 2 ^ width) (sym (from-start (get_or fields k 0) width))

  higher-at : (k : ℕ) → k < 16 → get_or higher k 0 ≡ get_or fields k 0 / 2 ^ (width * 1) % 2 ^ width
  higher-at k h =
      let one : width ≡ width * 1 = grind arith in
      masked (shifted fields width) mask width k mask-is (shifted-long fields width long) h
      ∙ ap (λ x. x % 2 ^ width) (shifted-at fields width k long h ∙ ap (λ n. get_or fields k 0 / 2 ^ n) one)

  pub first-half : (i : ℕ) → i < 16 → get_or (pick_l 0 (lower ++ higher) first_turn) i 0 ≡ field_at fields 2 width i
  first-half = first-turns lower higher (λ k r. get_or fields k 0 / 2 ^ (width * r) % 2 ^ width) lower-long lower-at higher-at

  pub second-half : (i : ℕ) → i < 16 → get_or (pick_l 0 (lower ++ higher) second_turn) i 0 ≡ field_at fields 2 width (16 + i)
  second-half = second-turns lower higher (λ k r. get_or fields k 0 / 2 ^ (width * r) % 2 ^ width) lower-long lower-at higher-at

-- what a table has for each lane
pub fields-inside : (fields : List ℕ) → length fields ≡ 16 → ((i : ℕ) → i < 16 → get_or fields i 0 < 16) → SwzOk w8 16 16 0 fields
fields-inside fields long below =
    SwzOk-from_below w8 16 1 16 0 fields refl (omega (arith, long))
    (Each1-from_get_or (λ x. x < 16) fields 0 (λ i h. below i (omega (arith, h, long))))

pub looked_up : (table fields : List ℕ) (i : ℕ) → length fields ≡ 16 → i < 16 → get_or fields i 0 < 16
    → get_or (swz_l w8 16 table 0 fields) i 0 ≡ get_or table (get_or fields i 0) 0
looked_up table fields i long h below =
    let place : 16 * ((0 + i) / 16) + get_or fields i 0 ≡ get_or fields i 0 = omega (arith, h) in
    get_or-swz_l_below w8 16 table 0 fields i (omega (arith, h, long)) below ∙ ap (λ n. get_or table n 0) place

-- what a table has for the bits behind the lowest
pub behind-at : (table : List ℕ) (width i : ℕ) → i < 16
    → get_or (swz_l w8 16 table 0 (shifted (0 ∷ 1 ∷ 2 ∷ 3 ∷ 4 ∷ 5 ∷ 6 ∷ 7 ∷ 8 ∷ 9 ∷ 10 ∷ 11 ∷ 12 ∷ 13 ∷ 14 ∷ 15 ∷ []) width)) i 0 ≡ get_or table (i / 2 ^ width) 0
behind-at table width i h =
    let all : List ℕ = 0 ∷ 1 ∷ 2 ∷ 3 ∷ 4 ∷ 5 ∷ 6 ∷ 7 ∷ 8 ∷ 9 ∷ 10 ∷ 11 ∷ 12 ∷ 13 ∷ 14 ∷ 15 ∷ [] in
    let each : get_or all i 0 ≡ i = eqb-true _ _ (agree_below_at (λ n. eqb (get_or all n 0) n) (λ _. true) 16 i refl h) in
    let lane : get_or (shifted all width) i 0 ≡ i / 2 ^ width = shifted-at all width i refl h ∙ ap (λ n. n / 2 ^ width) each in
    looked_up table (shifted all width) i refl h (omega (arith, h, lane, shr_le i width)) ∙ ap (λ n. get_or table n 0) lane

-- what a table has for the two fields of each lane, where it has the same for all whose lowest bits are the same
module _ (table behind fields : List ℕ) (width : ℕ) (long : length fields ≡ 16) (below : (k : ℕ) → k < 16 → get_or fields k 0 < 16)
    (behind_is : (x : ℕ) → x < 16 → get_or behind x 0 ≡ get_or table (x / 2 ^ width) 0)
    (alike : (x : ℕ) → x < 16 → get_or table x 0 ≡ get_or table (x % 2 ^ width) 0) where
  abbrev firsts : List ℕ
  firsts = swz_l w8 16 table 0 fields

  abbrev seconds : List ℕ
  seconds = swz_l w8 16 behind 0 fields

  abbrev field : ℕ → ℕ → ℕ
  field k r = get_or table (get_or fields k 0 / 2 ^ (width * r) % 2 ^ width) 0

  same : (k r : ℕ) → k < 16 → get_or table (get_or fields k 0 / 2 ^ (width * r)) 0 ≡ field k r
  same k r h =
      let x : ℕ = get_or fields k 0 in
      alike (x / 2 ^ (width * r)) (omega (arith, below k h, shr_le x (width * r)))

  firsts-at : (k : ℕ) → k < 16 → get_or firsts k 0 ≡ field k 0
  firsts-at k h =
      looked_up table fields k long h (below k h)
      ∙ ap (λ x. get_or table x 0) (sym (from-start (get_or fields k 0) width)) ∙ same k 0 h

  seconds-at : (k : ℕ) → k < 16 → get_or seconds k 0 ≡ field k 1
  seconds-at k h =
      let one : width ≡ width * 1 = grind arith in
      looked_up behind fields k long h (below k h)
      ∙ behind_is (get_or fields k 0) (below k h)
      ∙ ap (λ n. get_or table (get_or fields k 0 / 2 ^ n) 0) one ∙ same k 1 h

  firsts-long : length firsts ≡ 16
  firsts-long = length-swz_l w8 16 table 0 fields ∙ long

  pub put-pairs : (codes : List ℕ) → length codes ≡ 32 → (i : ℕ) → i < 32
      → get_or (put_chunk 16 (put_chunk 0 codes (pick_l 0 (firsts ++ seconds) first_turn)) (pick_l 0 (firsts ++ seconds) second_turn)) i 0
      ≡ get_or table (field_at fields 2 width i) 0
  put-pairs codes all i h =
      let first : List ℕ = pick_l 0 (firsts ++ seconds) first_turn in
      let second : List ℕ = pick_l 0 (firsts ++ seconds) second_turn in
      let room : length (put_chunk 0 codes first) ≡ 32 = length-put_chunk 0 codes first ∙ all in
      elim (cases_lt i 16) [
        | inl front ↦
            let here : i ≡ 0 + i = omega arith in
            get_or-put_chunk_below 16 (put_chunk 0 codes first) second i 0 front
            ∙ ap (λ n. get_or (put_chunk 0 codes first) n 0) here
            ∙ get_or-put_chunk_at 0 codes first i 0 front (omega (arith, all))
            ∙ first-turns firsts seconds field firsts-long firsts-at seconds-at i front
        | inr past ↦
            let k : ℕ = i - 16 in
            let place : 16 + k ≡ i = omega (arith, past) in
            let lane : k < 16 = omega (arith, past, h) in
            ap (λ n. get_or (put_chunk 16 (put_chunk 0 codes first) second) n 0) (sym place)
            ∙ get_or-put_chunk_at 16 (put_chunk 0 codes first) second k 0 lane (omega (arith, room))
            ∙ second-turns firsts seconds field firsts-long firsts-at seconds-at k lane
            ∙ ap (λ n. get_or table (field_at fields 2 width n) 0) place
      ]

-- the four bits of a lane from a bit on
pub four-at : (lanes : List ℕ) (low i : ℕ) → length lanes ≡ 16 → i < 16
    → get_or (zip2 bit_and (shifted lanes low) (replicate 16 15)) i 0 ≡ get_or lanes i 0 / 2 ^ low % 2 ^ 4
four-at lanes low i long h =
    masked (shifted lanes low) 15 4 i refl (shifted-long lanes low long) h ∙ ap (λ x. x % 2 ^ 4) (shifted-at lanes low i long h)

-- what a table has for each field of the lanes of two vectors, one behind the other
pub put-both : (table fields front behind : List ℕ) (per width n : ℕ) → length front ≡ n
    → ((i : ℕ) → i < n → get_or front i 0 ≡ get_or table (field_at fields per width i) 0)
    → ((i : ℕ) → i < n → get_or behind i 0 ≡ get_or table (field_at fields per width (n + i)) 0)
    → (i : ℕ) → i < n + n → get_or (front ++ behind) i 0 ≡ get_or table (field_at fields per width i) 0
put-both table fields front behind per width n long first second i h =
    each-joined (λ m code. code ≡ get_or table (field_at fields per width m) 0) front behind n
    (λ k below. first k (omega (arith, below, long)))
    (λ k below. subst (λ m. get_or behind k 0 ≡ get_or table (field_at fields per width (m + k)) 0) (sym long) (second k below))
    i (omega (arith, h, long))

-- and of each field of their fields
pub put-halves : (table fields first second front behind : List ℕ) (per width : ℕ) → 0 < per → length front ≡ per * 16
    → ((k : ℕ) → k < 16 → get_or first k 0 ≡ field_at fields 2 (per * width) k)
    → ((k : ℕ) → k < 16 → get_or second k 0 ≡ field_at fields 2 (per * width) (16 + k))
    → ((i : ℕ) → i < per * 16 → get_or front i 0 ≡ get_or table (field_at first per width i) 0)
    → ((i : ℕ) → i < per * 16 → get_or behind i 0 ≡ get_or table (field_at second per width i) 0)
    → (i : ℕ) → i < per * 16 + per * 16 → get_or (front ++ behind) i 0 ≡ get_or table (field_at fields (2 * per) width i) 0
put-halves table fields first second front behind per width some long first_is second_is front_is behind_is =
    put-both table fields front behind (2 * per) width (per * 16) long
    (λ i h.
    let place : per * 0 + i ≡ i = grind arith in
    front_is i h
    ∙ ap (λ x. get_or table x 0)
    (field-of-half fields first per width 0 i some (λ k below. first_is k below ∙ ap (field_at fields 2 (per * width)) (omega arith)) h
    ∙ ap (field_at fields (2 * per) width) place))
    (λ i h. behind_is i h ∙ ap (λ x. get_or table x 0) (field-of-half fields second per width 16 i some second_is h))
