-- A file between two syncs, and the images that a crash may leave of it.
use Rattle.std.specs.Prelude.{◌≡◌, ◌<◌, ℕ, ◌+◌, ◌≤◌, ◌&&◌, ◌||◌, max, min, List, [], ◌∷◌, ◌++◌, length, take, map, nat_lt, nat_le, slice_index, Bool, false, if◌then◌else◌}
use Rattle.std.specs.List.{list_any, range_with_len}
use Rattle.dev_traits.specs.Images.{put_at}

-- What a read gives; the smallest and the greatest length since the last sync; the ranges written
-- since, whole or not, each by its first place and the place behind it.
pub record State : Type 0 where
  pub seen : List ℕ
  pub least : ℕ
  pub most : ℕ
  pub torn : List (ℕ × ℕ)

-- a file of these bytes, with nothing written since the last sync
abbrev pub start : List ℕ → State
start bytes = record { seen = bytes; least = length bytes; most = length bytes; torn = [] }

-- after a write that was done, or failed
abbrev pub after_write : State → ℕ → List ℕ → Bool → State
after_write s at bytes done = record {
  seen = if done then put_at at bytes s.seen else s.seen;
  least = s.least;
  most = max s.most (at + length bytes);
  torn = s.torn ++ (at, at + length bytes) ∷ [];
}

-- after a cut that was done, or failed
abbrev pub after_cut : State → ℕ → Bool → State
after_cut s len done = record {
  seen = if done then take len s.seen else s.seen;
  least = min s.least len;
  most = s.most;
  torn = s.torn;
}

-- after a sync that was done, or failed
abbrev pub after_sync : State → Bool → State
after_sync s done = if done then start s.seen else s

-- the place lies in one of the ranges
abbrev pub is_torn : List (ℕ × ℕ) → ℕ → Bool
is_torn torn i = list_any (λ r. nat_le r.0 i && nat_lt i r.1) torn

-- What a crash may leave: a length from the smallest to the greatest, and below the smallest the bytes
-- that a read gives but for the ranges.
pub record IsImage (s : State) (image : List ℕ) : Type 0 where
  pub no_shorter : s.least ≤ length image
  pub no_longer : length image ≤ s.most
  pub stays : (i : ℕ) → i < length image → i < s.least → is_torn s.torn i ≡ false → slice_index image i ≡ slice_index s.seen i

-- `len` bytes, where each that the model leaves open is `fill` and each other one is what a read gives
abbrev pub filled_by : List ℕ → ℕ → List (ℕ × ℕ) → ℕ → ℕ → List ℕ
filled_by seen least torn fill len = map (λ i. if nat_le least i || is_torn torn i then fill else slice_index seen i) (range_with_len 0 len)

-- the image of that length whose open bytes are all `fill`
abbrev pub filled : State → ℕ → ℕ → List ℕ
filled s fill len = filled_by s.seen s.least s.torn fill len
