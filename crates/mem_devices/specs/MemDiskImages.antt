-- What a read gives is among the images, and none is too long.
use Rattle.std.specs.Prelude.{◌≡◌, ◌<◌, ℕ, ◌+◌, ◌-◌, ◌≤◌, ◌^◌, max, List, [], ◌∷◌, ◌++◌, length, take, drop, replicate, true, false}
use Rattle.std.proofs.Common.{arith, subst, sym, length-append, length-drop}
use Rattle.std.proofs.lemmas.List.{length-take, length-replicate, take_all}
use Rattle.dev_traits.specs.Images.{put_at}
use Rattle.mem_devices.specs.MemDiskState.{State, start, IsImage}
use Rattle.mem_devices.specs.MemDiskRecord.{after, replay}
use Rattle.mem_devices.specs.declared.mem_disk.torn_file.Call.{Call}
use Rattle.mem_devices.specs.declared.mem_disk.torn_file.Call.TheVariants.{Write, Cut, Sync}

-- the length that a read sees is between the two
pub record IsBetween (s : State) : Type 0 where
  pub least : s.least ≤ length s.seen
  pub most : length s.seen ≤ s.most

pub length-put_at : (at : ℕ) (bytes old : List ℕ) → length (put_at at bytes old) ≡ max (length old) (at + length bytes)
length-put_at at bytes old =
    let gap = take at old ++ replicate (at - length old) 0 in
    omega (arith, length-append (gap ++ bytes) (drop (at + length bytes) old), length-append gap bytes, length-append (take at old) (replicate (at - length old) 0), length-take at old, length-replicate {A = ℕ} (at - length old) 0, length-drop (at + length bytes) old)

between_start : (bytes : List ℕ) → IsBetween (start bytes)
between_start bytes = record { least = omega arith; most = omega arith }

between_after : (s : State) (call : Call) → IsBetween s → IsBetween (after s call)
between_after s (Write at bytes true) b = record { least = omega (arith, length-put_at at bytes.items s.seen, b.least); most = omega (arith, length-put_at at bytes.items s.seen, b.most) }
between_after s (Write at bytes false) b = record { least = b.least; most = omega (arith, b.most) }
between_after s (Cut len true) b = record { least = omega (arith, length-take len s.seen, b.least); most = omega (arith, length-take len s.seen, b.most) }
between_after s (Cut len false) b = record { least = omega (arith, b.least); most = b.most }
between_after s (Sync true) b = record { least = omega arith; most = omega arith }
between_after s (Sync false) b = b

between_replay : (s : State) (calls : List Call) → IsBetween s → IsBetween (replay s calls)
between_replay s [] b = b
between_replay s (call ∷ calls) b = between_replay (after s call) calls (between_after s call b)

pub between_now : (first : List ℕ) (calls : List Call) → IsBetween (replay (start first) calls)
between_now first calls = between_replay (start first) calls (between_start first)

pub seen_is_image : (first : List ℕ) (calls : List Call) → IsImage (replay (start first) (take (length calls) calls)) (replay (start first) calls).seen
seen_is_image first calls =
    let b = between_now first calls in
    let here : IsImage (replay (start first) calls) (replay (start first) calls).seen = record {
      no_shorter = b.least;
      no_longer = b.most;
      stays = λ i inside below untorn. Rattle.std.specs.Prelude.refl;
    } in
    subst (λ l. IsImage (replay (start first) l) (replay (start first) calls).seen) (sym (take_all (length calls) calls (omega arith))) here

pub image_is_short : (s : State) (image : List ℕ) → s.most < 2 ^ 63 → IsImage s image → length image < 2 ^ 63
image_is_short s image below is = omega (arith, is.no_longer)
