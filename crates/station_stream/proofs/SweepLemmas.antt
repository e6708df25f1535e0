-- The recorded samples of a sweep that goes on over a run.
use Rattle.std.specs.Int.{int_min, int_max}
use Rattle.std.proofs.Common.{◌≡◌, ◌∙◌, sym, ap, subst, ℕ, ◌≤◌, ◌<◌, ◌^◌, ◌⊎◌, ⊎_elim, ℤ, pos, ◌+ℤ◌, ◌≤ℤ◌, ◌<ℤ◌, unsigned_abs, to_z, of_z, w64, arith}
use Rattle.std.proofs.lemmas.Bool.{cases_lt}
use Rattle.std.proofs.lemmas.Int.{ints}
use Rattle.corr_model.specs.Delay.{DelayModel, whole_at}
use Rattle.delay_track.specs.Runs.{RunsFields, IsRun}
use Rattle.delay_track.specs.Track.{model_of}
use Rattle.delay_track.specs.declared.runs.Run.{Run}
use Rattle.delay_track.specs.declared.track.Track.{Track}
use Rattle.station_stream.specs.Sweep.{recorded_at, LieIn}

-- a run in numbers: the samples from `at` up to `to`, all of the same whole delay
pub record Goes (track : Track) (at to : ℕ) (whole : ℤ) : Type 0 where
  pub some : at < to
  pub same : (n : ℕ) → at ≤ n → n < to → whole_at (model_of track) n ≡ whole

-- that of the next run
pub Goes-run : (track : Track) (left : RunsFields) (run : Run) (end : ℕ) (whole : ℤ) → left.model ≡ model_of track → left.at ≡ end → IsRun left.model left.at left.to run
    → whole ≡ whole_at (model_of track) run.from
    → Goes track end run.to whole
Goes-run track left run end whole is at_is run_is same =
    let of_model : IsRun (model_of track) left.at left.to run = subst (λ (m : DelayModel). IsRun m left.at left.to run) is run_is in
    let here : IsRun (model_of track) end left.to run = subst (λ (at : ℕ). IsRun (model_of track) at left.to run) at_is of_model in
    record {
      some = here.stretch.after;
      same = λ n low high. here.stretch.same n low high ∙ ap (whole_at (model_of track)) (sym here.begins) ∙ sym same;
    }

-- a recorded sample as the program works it out
pub recorded_is : (n end : ℕ) (whole : ℤ) → n ≤ 2 ^ 40 → n ≡ end → unsigned_abs whole ≤ 2 ^ 28
    → to_z w64 (of_z w64 (to_z w64 n +ℤ to_z w64 (of_z w64 whole))) ≡ pos end +ℤ whole
recorded_is n end whole few same near = omega (arith, ints, few, same, near)

-- what has grown over the recorded samples of a run
pub record Grown (first last begins ends more_first more_last : ℤ) : Type 0 where
  pub order : more_first ≤ℤ more_last
  pub near_first : unsigned_abs more_first < 2 ^ 60
  pub near_last : unsigned_abs more_last < 2 ^ 60
  pub low : more_first ≤ℤ first
  pub run_low : more_first ≤ℤ begins
  pub high : last ≤ℤ more_last
  pub run_high : ends ≤ℤ more_last

-- the smaller and the greater of two
min_cases : (x y : ℤ) → ((int_min x y ≡ x) × (x ≤ℤ y)) ⊎ ((int_min x y ≡ y) × (y ≤ℤ x))
min_cases x y = grind (arith, ints)

max_cases : (x y : ℤ) → ((int_max x y ≡ x) × (y ≤ℤ x)) ⊎ ((int_max x y ≡ y) × (x ≤ℤ y))
max_cases x y = grind (arith, ints)

pub passed : (x : ℤ) → unsigned_abs x < 2 ^ 60 → to_z w64 (of_z w64 x) ≡ x
passed x near = omega (arith, ints, near)

-- one of two that is in order with both is near where both are
near_pick : (x y picked z : ℤ) (Before : ℤ → ℤ → Type 0) → ((w : ℤ) → Before w w) → ((picked ≡ x) × Before x y) ⊎ ((picked ≡ y) × Before y x) → z ≡ picked
    → unsigned_abs x < 2 ^ 60 → unsigned_abs y < 2 ^ 60
    → (unsigned_abs z < 2 ^ 60) × (Before z x × Before z y)
near_pick x y picked z Before same cases is near_x near_y =
    let Picked : ℤ → Type 0 = λ w. (unsigned_abs w < 2 ^ 60) × (Before w x × Before w y) in
    ⊎_elim
    (λ h. subst Picked (sym (is ∙ h.0)) (near_x, (same x, h.1)))
    (λ h. subst Picked (sym (is ∙ h.0)) (near_y, (h.1, same y)))
    cases

no_later : (x : ℤ) → x ≤ℤ x
no_later x = omega (arith, ints)

near_min : (x y low : ℤ) → low ≡ int_min x y → unsigned_abs x < 2 ^ 60 → unsigned_abs y < 2 ^ 60 → (unsigned_abs low < 2 ^ 60) × ((low ≤ℤ x) × (low ≤ℤ y))
near_min x y low is near_x near_y = near_pick x y (int_min x y) low (λ a b. a ≤ℤ b) no_later (min_cases x y) is near_x near_y

near_max : (x y high : ℤ) → high ≡ int_max x y → unsigned_abs x < 2 ^ 60 → unsigned_abs y < 2 ^ 60 → (unsigned_abs high < 2 ^ 60) × ((x ≤ℤ high) × (y ≤ℤ high))
near_max x y high is near_x near_y = near_pick x y (int_max x y) high (λ a b. b ≤ℤ a) no_later (max_cases x y) is near_x near_y

pub grown : (first last begins ends low high begins_is ends_is : ℤ) → begins ≡ begins_is → ends ≡ ends_is → low ≡ int_min first begins → high ≡ int_max last ends → first ≤ℤ last
    → unsigned_abs first < 2 ^ 60 → unsigned_abs last < 2 ^ 60 → unsigned_abs begins_is < 2 ^ 60 → unsigned_abs ends_is < 2 ^ 60
    → Grown first last begins_is ends_is (to_z w64 (of_z w64 low)) (to_z w64 (of_z w64 high))
grown first last begins ends low high begins_is ends_is e f low_is high_is order near_first near_last near_begins near_ends =
    let lowest = near_min first begins_is low (low_is ∙ ap (int_min first) e) near_first near_begins in
    let highest = near_max last ends_is high (high_is ∙ ap (int_max last) f) near_last near_ends in
    rw (passed low lowest.0, passed high highest.0) (record {
      order = omega (arith, ints, lowest.1.0, order, highest.1.0);
      near_first = lowest.0;
      near_last = highest.0;
      low = lowest.1.0;
      run_low = lowest.1.1;
      high = highest.1.0;
      run_high = highest.1.1;
    })

-- the samples of a run lie in what has grown over it
pub LieIn-run : (track : Track) (from at to : ℕ) (whole first last more_first more_last : ℤ) → Goes track at to whole → LieIn track from at first last
    → more_first ≤ℤ first → more_first ≤ℤ (pos at +ℤ whole) → last ≤ℤ more_last → (pos to +ℤ whole) ≤ℤ more_last
    → LieIn track from to more_first more_last
LieIn-run track from at to whole first last more_first more_last run lie low run_low high run_high = λ n begun under.
    ⊎_elim
    (λ old. let there = lie n begun old in (omega (arith, ints, there.0), omega (arith, ints, there.1)))
    (λ new. let is = run.same n new under in (omega (arith, ints, is), omega (arith, ints, is)))
    (cases_lt n at)

-- a run that does not go on from the samples before it has some before it
pub some-before : (track : Track) (from end to : ℕ) (whole first last : ℤ) → from ≤ end → Goes track end to whole
    → (end ≡ from → first ≡ recorded_at track from) → (end ≡ from → last ≡ recorded_at track from)
    → (last <ℤ (pos end +ℤ whole)) ⊎ ((pos to +ℤ whole) <ℤ first)
    → from < end
some-before track from end to whole first last begun run first_is last_is apart =
    ⊎_elim
    (λ before. before)
    (λ none.
    let same : end ≡ from = omega (arith, begun, none) in
    let is : whole_at (model_of track) from ≡ whole = run.same from (omega (arith, same)) (omega (arith, same, run.some)) in
    absurd (⊎_elim
    (λ behind. omega (arith, ints, behind, last_is same, is, same))
    (λ under. omega (arith, ints, under, first_is same, is, same, run.some))
    apart))
    (cases_lt from end)
