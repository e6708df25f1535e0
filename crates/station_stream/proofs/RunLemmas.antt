-- The levels of the runs of one whole delay.
use Rattle.std.proofs.Common.{◌≡◌, ◌∙◌, refl, sym, ap, subst, ℕ, ◌+◌, ◌-◌, ◌*◌, ◌^◌, ◌<◌, ◌≤◌, ⊎_elim, ℤ, pos, ◌+ℤ◌, ◌-ℤ◌, ◌≤ℤ◌, ◌<ℤ◌, unsigned_abs, List, length, get_or, to_z, of_z, w64, FitsSigned, Option, arith}
use Rattle.std.proofs.lemmas.Bool.{cases_lt}
use Rattle.std.proofs.lemmas.Int.{ints}
use borrow.Rule.Slice.PartMut.{put_mid}
use Rattle.vdif_frame.specs.Shape.{ShapeFields, samples_per_frame}
use Rattle.corr_model.specs.Delay.{DelayModel, whole_at}
use Rattle.delay_track.specs.declared.runs.Run.{Run}
use Rattle.delay_line.specs.Stretch.{IsStretch}
use Rattle.delay_track.specs.Runs.{IsRun}
use Rattle.station_stream.specs.declared.thread_frames.ThreadFrames.{ThreadFrames}
use Rattle.station_stream.specs.ThreadFrames.{Reach, level_in_frames}
use Rattle.value_codes.specs.Taken.{IsTaken}
use Rattle.station_stream.proofs.PartLemmas.{get_or-before, get_or-inside, in_part}
use Rattle.station_stream.proofs.TakenLemmas.{level_past}

-- the samples that a run moves lie among those that all samples move to
run_within : (w : ℕ → ℤ) (from len at to end : ℕ) (first last : ℤ) → IsStretch w at to end → from ≤ at → to ≡ from + len
    → ((n : ℕ) → from ≤ n → n < from + len → (first ≤ℤ (pos n +ℤ w n)) × ((pos n +ℤ w n) <ℤ last))
    → (first ≤ℤ (pos at +ℤ w at)) × ((pos end +ℤ w at) ≤ℤ last)
run_within w from len at to end first last stretch begun whole delayed =
    let end_in : end ≤ to = stretch.within in
    let after : at < end = stretch.after in
    let same : w (end - 1) ≡ w at = stretch.same (end - 1) (omega arith) (omega arith) in
    let high : (pos (end - 1) +ℤ w (end - 1)) <ℤ last = (delayed (end - 1) (omega arith) (omega arith)).1 in
    let high' : (pos (end - 1) +ℤ w at) <ℤ last = subst (λ (z : ℤ). (pos (end - 1) +ℤ z) <ℤ last) same high in
    ((delayed at begun (omega arith)).0, omega (arith, ints, after, high'))

-- A run lies among the samples that are filled, and the samples to which it moves among those of the frames.
pub record RunLies (shape : ShapeFields) (f : ThreadFrames) (w : ℕ → ℤ) (from len : ℕ) (run : Run) (past : ℕ) : Type 0 where
  pub stretch : IsStretch w run.from (from + len) run.to
  pub begun : from ≤ run.from
  pub after : run.from < run.to
  pub end : run.to ≤ from + len
  pub low : f.start ≤ℤ (pos run.from +ℤ w run.from)
  pub past_is : past ≡ unsigned_abs ((pos run.from +ℤ w run.from) -ℤ f.start)
  pub inside : past + (run.to - run.from) ≤ length f.there.items * samples_per_frame shape
  pub near : past + (run.to - run.from) < 2 ^ 64

-- the place in the frames that the program works out
past_of : (at end past all : ℕ) (first last start whole : ℤ) → end ≤ 2 ^ 40 → at < end → FitsSigned w64 whole → FitsSigned w64 last → unsigned_abs start < 2 ^ 62
    → start ≤ℤ first → last ≤ℤ (start +ℤ pos all) → first ≤ℤ (pos at +ℤ whole) → (pos end +ℤ whole) ≤ℤ last
    → past ≡ unsigned_abs (to_z w64 (of_z w64 (to_z w64 at +ℤ to_z w64 (of_z w64 whole))) -ℤ to_z w64 (of_z w64 start))
    → (start ≤ℤ (pos at +ℤ whole)) × ((past ≡ unsigned_abs ((pos at +ℤ whole) -ℤ start)) × ((past + (end - at) ≤ all) × (past + (end - at) < 2 ^ 64)))
past_of at end past all first last start whole few after fits last_fits near begins ends low high is =
    let begun : start ≤ℤ (pos at +ℤ whole) = omega (arith, ints) in
    let place : past ≡ unsigned_abs ((pos at +ℤ whole) -ℤ start) = is ∙ omega (arith, ints) in
    (begun, (place, (omega (arith, ints, place, begun), omega (arith, ints, place, begun))))

pub RunLies-from : (shape : ShapeFields) (f : ThreadFrames) (first last : ℤ) (model m : DelayModel) (from len at to : ℕ) (run : Run) (past : ℕ)
    → model ≡ m
    → IsRun model at to run
    → from ≤ at
    → to ≡ from + len
    → from + len ≤ 2 ^ 40
    → FitsSigned w64 last
    → FitsSigned w64 run.whole
    → Reach shape first last f
    → ((n : ℕ) → from ≤ n → n < from + len → (first ≤ℤ (pos n +ℤ whole_at m n)) × ((pos n +ℤ whole_at m n) <ℤ last))
    → past ≡ unsigned_abs (to_z w64 (of_z w64 (to_z w64 run.from +ℤ to_z w64 (of_z w64 run.whole))) -ℤ to_z w64 (of_z w64 f.start))
    → RunLies shape f (whole_at m) from len run past
RunLies-from shape f first last model m from len at to run past same is begun all few last_fits fits reach delayed place =
    let w : ℕ → ℤ = whole_at m in
    let stretch_at : IsStretch w at to run.to = subst (λ (x : DelayModel). IsStretch (whole_at x) at to run.to) same is.stretch in
    let stretch_from : IsStretch w run.from to run.to = subst (λ (n : ℕ). IsStretch w n to run.to) (sym is.begins) stretch_at in
    let stretch : IsStretch w run.from (from + len) run.to = subst (λ (n : ℕ). IsStretch w run.from n run.to) all stretch_from in
    let begun' : from ≤ run.from = omega (arith, is.begins) in
    let whole : run.whole ≡ w run.from = is.whole ∙ ap (λ (x : DelayModel). whole_at x at) same ∙ ap w (sym is.begins) in
    let lies = run_within w from len run.from (from + len) run.to first last stretch begun' refl delayed in
    let low : first ≤ℤ (pos run.from +ℤ run.whole) = subst (λ (z : ℤ). first ≤ℤ (pos run.from +ℤ z)) (sym whole) lies.0 in
    let high : (pos run.to +ℤ run.whole) ≤ℤ last = subst (λ (z : ℤ). (pos run.to +ℤ z) ≤ℤ last) (sym whole) lies.1 in
    let end : run.to ≤ from + len = stretch.within in
    let after : run.from < run.to = stretch.after in
    let found = past_of run.from run.to past (length f.there.items * samples_per_frame shape) first last f.start run.whole (omega arith) after fits last_fits reach.near reach.begins reach.ends low high place in record {
      stretch = stretch;
      begun = begun';
      after = after;
      end = end;
      low = subst (λ (z : ℤ). f.start ≤ℤ (pos run.from +ℤ z)) whole found.0;
      past_is = found.1.0 ∙ ap (λ (z : ℤ). unsigned_abs ((pos run.from +ℤ z) -ℤ f.start)) whole;
      inside = found.1.1.0;
      near = found.1.1.1;
    }

-- the bytes of one more run
pub IsTaken-run : (shape : ShapeFields) (f : ThreadFrames) (index : ℕ) (w : ℕ → ℤ) (from at to end past n : ℕ) (codes part : List ℕ)
    → IsStretch w at to end
    → from ≤ at
    → to ≡ from + length codes
    → length part ≡ end - at
    → f.start ≤ℤ (pos at +ℤ w at)
    → past ≡ unsigned_abs ((pos at +ℤ w at) -ℤ f.start)
    → ((k : ℕ) → from + k < at → IsTaken (get_or codes k 0) (level_in_frames shape f index (pos (from + k) +ℤ w (from + k))))
    → ((k : ℕ) → k < end - at → IsTaken (get_or part k 0) (level_past shape f index (past + k)))
    → (k : ℕ) → from + k < end
    → IsTaken (get_or (put_mid (at - from) n codes part) k 0) (level_in_frames shape f index (pos (from + k) +ℤ w (from + k)))
IsTaken-run shape f index w from at to end past n codes part stretch begun whole long low place before taken k h =
    let level : Option ℤ = level_in_frames shape f index (pos (from + k) +ℤ w (from + k)) in
    let end_in : end ≤ to = stretch.within in
    ⊎_elim
    (λ (early : from + k < at). subst (λ (code : ℕ). IsTaken code level) (sym (get_or-before codes part (at - from) n k 0 (omega arith) (omega arith))) (before k early))
    (λ (late : at ≤ from + k).
    let j : ℕ = k - (at - from) in
    let inside = in_part from at end k begun late h in
    let sum : at + j ≡ from + k = omega arith in
    let same : w (from + k) ≡ w at = stretch.same (from + k) late h in
    let code : get_or (put_mid (at - from) n codes part) k 0 ≡ get_or part j 0 =
    ap (λ (i : ℕ). get_or (put_mid (at - from) n codes part) i 0) inside.0 ∙ get_or-inside codes part (at - from) n j 0 (omega (arith, long, inside.1)) (omega arith) in
    let moved : past + j ≡ unsigned_abs ((pos (from + k) +ℤ w at) -ℤ f.start) = moved_by at j (from + k) past (w at) f.start low place sum in
    subst (λ (c : ℕ). IsTaken c level) (sym code)
    (subst (λ (l : Option ℤ). IsTaken (get_or part j 0) l)
    (ap (level_past shape f index) moved ∙ ap (λ (z : ℤ). level_in_frames shape f index (pos (from + k) +ℤ z)) (sym same))
    (taken j inside.1)))
    (cases_lt (from + k) at)
  where
    moved_by : (at j n past : ℕ) (z start : ℤ) → start ≤ℤ (pos at +ℤ z) → past ≡ unsigned_abs ((pos at +ℤ z) -ℤ start) → at + j ≡ n
        → past + j ≡ unsigned_abs ((pos n +ℤ z) -ℤ start)
    moved_by at j n past z start low place sum = omega (arith, ints)
