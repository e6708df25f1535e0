-- The parts of a range: how many there are, where each stands, and that they go through the range.
use Rattle.std.specs.Prelude.{slice_get, option_map}
use Rattle.std.specs.Int.{div_ceil}
use Rattle.std.specs.List.{range_with_len}
use Rattle.std.proofs.Common.{◌≡◌, ◌∙◌, ap, ℕ, zero, suc, ◌+◌, ◌-◌, ◌*◌, ◌<◌, ◌≤◌, min, length, map, Some, arith}
use Rattle.std.proofs.lemmas.List.FromFn.{length-map-range_with_len}
use Rattle.std.proofs.lemmas.Option.{slice_get-map}
use Rattle.piece_plan.specs.Parts.{part_at, part_count, parts, GoThrough}
use Rattle.piece_plan.proofs.Quotients.{ceil_covers, below_ceil}
use Rattle.piece_plan.proofs.ListPlaces.{slice_get-range}

pub length-parts : (from to step : ℕ) → length (parts from to step) ≡ part_count from to step
unfolding parts
length-parts from to step = length-map-range_with_len (part_at from to step) 0 (part_count from to step)

pub slice_get-parts : (from to step k : ℕ) → k < part_count from to step
    → slice_get (parts from to step) k ≡ Some (part_at from to step k)
unfolding parts
slice_get-parts from to step k h =
    let here : 0 + k ≡ k = omega arith in
    slice_get-map (part_at from to step) (range_with_len 0 (part_count from to step)) k
    ∙ ap (option_map (part_at from to step)) (slice_get-range 0 (part_count from to step) k h)
    ∙ ap (λ j. Some (part_at from to step j)) here

-- the parts from the k-th on
rest-GoThrough : (from to step k n : ℕ) → from ≤ to → 0 < step → k + n ≡ part_count from to step
    → GoThrough (min (from + k * step) to) to (map (part_at from to step) (range_with_len k n))
rest-GoThrough from to step k zero order some count =
    let covers = ceil_covers (to - from) step some in
    let last : k ≡ div_ceil (to - from) step = omega arith in
    let end : k * step ≡ div_ceil (to - from) step * step = ap (λ (c : ℕ). c * step) last in
    omega (arith, covers, end)
rest-GoThrough from to step k (suc n) order some count =
    let begun : k * step < to - from = below_ceil (to - from) step k some (omega arith) in
    (omega (arith, begun), omega (arith, begun), rest-GoThrough from to step (k + 1) n order some (omega arith))

pub parts-GoThrough : (from to step : ℕ) → from ≤ to → 0 < step → GoThrough from to (parts from to step)
unfolding parts
parts-GoThrough from to step order some =
    let here : min (from + 0 * step) to ≡ from = omega arith in
    rw here at (rest-GoThrough from to step 0 (part_count from to step) order some (omega arith))
