-- Where the images after a call come from.
use Rattle.std.proofs.Common.{◌≡◌, ◌<◌, ◌≤◌, ◌⊎◌, ◌&&◌, ◌||◌, ℕ, ◌+◌, min, max, Bool, true, false, if◌then◌else◌, nat_lt, nat_le, List, [], ◌∷◌, ◌++◌, length, get_or, take, map, refl, arith, sym, ap, ◌∙◌, ⊎_elim, inl, inr}
use Rattle.std.proofs.lemmas.Grind.{same_number_lists}
use Rattle.std.proofs.lemmas.Bool.Decides.{nat_tests}
use Rattle.std.proofs.lemmas.List.FromFn.{get_or-map-range_with_len, length-map-range_with_len, map-range_with_len_more}
use Rattle.std.proofs.lemmas.List.{places, get_or-take}
use Rattle.std.specs.List.{range_with_len}
use Rattle.dev_traits.specs.Images.{put_at, Same, Torn, Shorn}
use Rattle.mem_devices.specs.MemDiskState.{State, start, is_torn, filled_by, filled, IsImage}
use Rattle.mem_devices.specs.MemDiskImages.{IsBetween}

-- a list by its places
unfoldable pub build : (ℕ → ℕ) → ℕ → List ℕ
build f n = map f (range_with_len 0 n)

pub length-build : (f : ℕ → ℕ) (n : ℕ) → length (build f n) ≡ n
unfolding build
length-build f n = length-map-range_with_len f 0 n

pub get_or-build : (f : ℕ → ℕ) (n i : ℕ) → i < n → get_or (build f n) i 0 ≡ f i
unfolding build
get_or-build f n i lt = get_or-map-range_with_len f 0 n i i 0 lt (omega arith)

or_false : (a b : Bool) → (a || b) ≡ false → (a ≡ false) × (b ≡ false)
or_false true b e = cc
or_false false b e = (refl, e)

from_or : (a b : Bool) → a ≡ false → b ≡ false → (a || b) ≡ false
from_or true b e f = cc
from_or false b e f = f

-- a place that no range of the longer list has
pub untorn : (torn : List (ℕ × ℕ)) (r : ℕ × ℕ) (i : ℕ) → is_torn torn i ≡ false → (nat_le r.0 i && nat_lt i r.1) ≡ false → is_torn (torn ++ r ∷ []) i ≡ false
untorn [] r i none out = from_or (nat_le r.0 i && nat_lt i r.1) false out refl
untorn (x ∷ torn) r i none out =
    let parts = or_false (nat_le x.0 i && nat_lt i x.1) (is_torn torn i) none in
    from_or (nat_le x.0 i && nat_lt i x.1) (is_torn (torn ++ r ∷ []) i) parts.0 (untorn torn r i parts.1 out)

pub put_before : (at : ℕ) (bytes old : List ℕ) (i : ℕ) → i < at → i < length old → get_or (put_at at bytes old) i 0 ≡ get_or old i 0
put_before at bytes old i lt inside = grind (arith, places)

pub put_behind : (at : ℕ) (bytes old : List ℕ) (i : ℕ) → at + length bytes ≤ i → i < length old → get_or (put_at at bytes old) i 0 ≡ get_or old i 0
put_behind at bytes old i le inside = grind (arith, places)

-- within the range
abbrev pub inside : ℕ → ℕ → ℕ → Bool
inside a e i = nat_le a i && nat_lt i e

out_before : (a e i : ℕ) → i < a → inside a e i ≡ false
out_before a e i lt = grind (arith, nat_tests)

out_behind : (a e i : ℕ) → e ≤ i → inside a e i ≡ false
out_behind a e i le = grind (arith, nat_tests)

in_or_out : (b : Bool) → (b ≡ true) ⊎ (b ≡ false)
in_or_out true = inl refl
in_or_out false = inr refl

-- what the write's image was before it
abbrev pub before_write : List ℕ → ℕ → ℕ → ℕ → List ℕ → List ℕ
before_write seen most a e image = build (λ i. if inside a e i then get_or seen i 0 else get_or image i 0) (min (length image) most)

get_out : (seen : List ℕ) (most a e : ℕ) (image : List ℕ) (i : ℕ) → i < min (length image) most → inside a e i ≡ false → get_or (before_write seen most a e image) i 0 ≡ get_or image i 0
get_out seen most a e image i lt out = get_or-build (λ j. if inside a e j then get_or seen j 0 else get_or image j 0) (min (length image) most) i lt ∙ ap (λ b. if b then get_or seen i 0 else get_or image i 0) out

get_in : (seen : List ℕ) (most a e : ℕ) (image : List ℕ) (i : ℕ) → i < min (length image) most → inside a e i ≡ true → get_or (before_write seen most a e image) i 0 ≡ get_or seen i 0
get_in seen most a e image i lt within = get_or-build (λ j. if inside a e j then get_or seen j 0 else get_or image j 0) (min (length image) most) i lt ∙ ap (λ b. if b then get_or seen i 0 else get_or image i 0) within

lt_or_le : (i a : ℕ) → (i < a) ⊎ (a ≤ i)
lt_or_le i a = grind arith

-- the bytes that a write leaves, done or not
keeps : (done : Bool) (at : ℕ) (bytes seen : List ℕ) (i : ℕ) → inside at (at + length bytes) i ≡ false → i < length seen → get_or (if done then put_at at bytes seen else seen) i 0 ≡ get_or seen i 0
keeps true at bytes seen i out lt = ⊎_elim
    (λ (before : i < at). put_before at bytes seen i before lt)
    (λ (le : at ≤ i). let behind : at + length bytes ≤ i = grind (arith, nat_tests) in put_behind at bytes seen i behind lt)
    (lt_or_le i at)
keeps false at bytes seen i out lt = refl

pub write_comes : (s : State) (at : ℕ) (bytes : List ℕ) (done : Bool) (image : List ℕ) → IsBetween s
    → IsImage record { seen = if done then put_at at bytes s.seen else s.seen; least = s.least; most = max s.most (at + length bytes); torn = s.torn ++ (at, at + length bytes) ∷ [] } image
    → (v : List ℕ) × IsImage s v × Torn at (at + length bytes) v image
write_comes s at bytes done image b is =
    let e = at + length bytes in
    let v = before_write s.seen s.most at e image in
    let long : length v ≡ min (length image) s.most = length-build (λ i. if inside at e i then get_or s.seen i 0 else get_or image i 0) (min (length image) s.most) in (
      v,
      record {
        no_shorter = omega (arith, long, is.no_shorter, b.least, b.most);
        no_longer = omega (arith, long);
        stays = λ i lt below untorn_i. ⊎_elim
            (λ (within : inside at e i ≡ true). get_in s.seen s.most at e image i (omega (arith, long)) within)
            (λ (out : inside at e i ≡ false).
            let in_image : i < length image = omega (arith, long) in
            let in_seen : i < length s.seen = omega (arith, b.least) in
            get_out s.seen s.most at e image i (omega (arith, long)) out ∙ is.stays i in_image below (untorn s.torn (at, e) i untorn_i out) ∙ keeps done at bytes s.seen i out in_seen)
            (in_or_out (inside at e i));
      },
      record {
        before = λ i lt lt_at. sym (get_out s.seen s.most at e image i (omega (arith, long)) (out_before at e i lt_at));
        behind = λ i lt le. sym (get_out s.seen s.most at e image i (omega (arith, long)) (out_behind at e i le));
        no_shorter = omega (arith, long);
        no_longer = omega (arith, long, is.no_longer);
      },
    )

-- what the cut's image was before it
abbrev pub before_cut : List ℕ → ℕ → ℕ → List ℕ → List ℕ
before_cut seen least c image = build (λ i. if inside c least i then get_or seen i 0 else get_or image i 0) (max (length image) least)

pub cut_comes : (s : State) (c : ℕ) (done : Bool) (image : List ℕ) → IsBetween s
    → IsImage record { seen = if done then take c s.seen else s.seen; least = min s.least c; most = s.most; torn = s.torn } image
    → (v : List ℕ) × IsImage s v × Shorn c v image
cut_comes s c done image b is =
    let f : ℕ → ℕ = λ i. if inside c s.least i then get_or s.seen i 0 else get_or image i 0 in
    let n = max (length image) s.least in
    let v = before_cut s.seen s.least c image in
    let long : length v ≡ n = length-build f n in
    let out : (i : ℕ) → i < n → inside c s.least i ≡ false → get_or v i 0 ≡ get_or image i 0 = λ i lt no. get_or-build f n i lt ∙ ap (λ b. if b then get_or s.seen i 0 else get_or image i 0) no in
    let within : (i : ℕ) → i < n → inside c s.least i ≡ true → get_or v i 0 ≡ get_or s.seen i 0 = λ i lt yes. get_or-build f n i lt ∙ ap (λ b. if b then get_or s.seen i 0 else get_or image i 0) yes in (
      v,
      record {
        no_shorter = omega (arith, long);
        no_longer = omega (arith, long, is.no_longer, b.least, b.most);
        stays = λ i lt below untorn_i. ⊎_elim
            (λ (yes : inside c s.least i ≡ true). within i (omega (arith, long)) yes)
            (λ (no : inside c s.least i ≡ false).
            let before : i < c = grind (arith, nat_tests) in
            let in_image : i < length image = omega (arith, is.no_shorter) in
            out i (omega (arith, long)) no ∙ is.stays i in_image (omega (arith)) untorn_i ∙ taken done c s.seen i before)
            (in_or_out (inside c s.least i));
      },
      record {
        front = λ i lt before. sym (out i (omega (arith, long)) (out_before c s.least i before));
        no_shorter = omega (arith, long, is.no_shorter);
        no_longer = omega (arith, long);
      },
    )
  where
    taken : (done : Bool) (c : ℕ) (seen : List ℕ) (i : ℕ) → i < c → get_or (if done then take c seen else seen) i 0 ≡ get_or seen i 0
    taken true c seen i lt = get_or-take c seen i 0 lt
    taken false c seen i lt = refl

pub only_start : (bytes image : List ℕ) → IsImage (start bytes) image → image ≡ bytes
only_start bytes image is = same_number_lists image bytes (omega (arith, is.no_shorter, is.no_longer)) (λ i lt. is.stays i lt (omega (arith, is.no_longer)) refl)

pub sync_comes : (s : State) (done : Bool) (image : List ℕ) → IsBetween s → IsImage (if done then start s.seen else s) image → (v : List ℕ) × IsImage s v × Same v image
sync_comes s true image b is = (
  s.seen,
  record { no_shorter = b.least; no_longer = b.most; stays = λ i lt below no. refl },
  only_start s.seen image is,
)
sync_comes s false image b is = (image, is, refl)

-- one byte more of an image
pub filled_more : (seen : List ℕ) (least : ℕ) (torn : List (ℕ × ℕ)) (fill i x : ℕ) (old new : List ℕ) → new ≡ old ++ x ∷ [] → old ≡ filled_by seen least torn fill i → x ≡ (if nat_le least i || is_torn torn i then fill else get_or seen i 0) → new ≡ filled_by seen least torn fill (i + 1)
filled_more seen least torn fill i x old new pushed so_far is =
    let f : ℕ → ℕ = λ j. if nat_le least j || is_torn torn j then fill else get_or seen j 0 in
    pushed ∙ ap (λ (l : List ℕ). l ++ x ∷ []) so_far ∙ ap (λ (y : ℕ). filled_by seen least torn fill i ++ y ∷ []) is ∙ sym (map-range_with_len_more f 0 i i (omega arith))

-- an image whose open bytes are `fill`
pub filled_image : (s : State) (fill : ℕ) (long : Bool) → IsBetween s → IsImage s (filled s fill (if long then s.most else s.least))
filled_image s fill long b =
    let n = if long then s.most else s.least in
    let f : ℕ → ℕ = λ j. if nat_le s.least j || is_torn s.torn j then fill else get_or s.seen j 0 in
    let long_n : length (filled s fill n) ≡ n = length-map-range_with_len f 0 n in
    let bounds = between long s.least s.most (omega (arith, b.least, b.most)) in
    record {
      no_shorter = omega (arith, long_n, bounds.0);
      no_longer = omega (arith, long_n, bounds.1);
      stays = λ i lt below none.
          let inside_n : i < n = omega (arith, long_n) in
          let low : nat_le s.least i ≡ false = grind (arith, nat_tests) in
          get_or-map-range_with_len f 0 n i i 0 inside_n (omega arith) ∙ ap (λ q. if q then fill else get_or s.seen i 0) (ap (λ q. q || is_torn s.torn i) low ∙ none);
    }
  where
    between : (long : Bool) (m n : ℕ) → m ≤ n → (m ≤ (if long then n else m)) × ((if long then n else m) ≤ n)
    between true m n le = (le, omega arith)
    between false m n le = (omega arith, le)
