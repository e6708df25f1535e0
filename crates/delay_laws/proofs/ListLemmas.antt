-- The list of runs that an iterator gives, and all lists of them.
use Rattle.std.proofs.Common.{◌≡◌, ℕ, ℤ, int_eq, ◌-◌, ◌≤◌, List, [], ◌∷◌, map, refl, sym, ap, subst, ◌∙◌, arith}
use Rattle.std.proofs.lemmas.Bool.Decides.{Decides-int_eq}
use Rattle.std.specs.Iterator.{DrainsIf, Yields}
use Rattle.corr_model.specs.Delay.{DelayModel, whole_at}
use Rattle.delay_track.specs.declared.runs.Run.{Run}
use Rattle.delay_track.specs.Runs.{RunsFields, IsNextRun}
use Rattle.delay_laws.specs.Stretches.{Stretch}
use Rattle.delay_laws.specs.Runs.{stretch_of_run, AreRuns, HasOneListOfRuns}
use Rattle.delay_laws.proofs.StretchLemmas.{none, first_then_rest}
use Rattle.delay_laws.proofs.OnlyLemmas.{only, some_list}

-- what a walk to the end of a range gives
runs_of_walk : (s : RunsFields) (runs : List Run) (t : RunsFields) → Yields IsNextRun s runs t → t.at ≡ t.to → AreRuns s.model s.at s.to runs
runs_of_walk s [] t same ends = none _ _ _ (ap (λ (k : RunsFields). k.at) same ∙ ends ∙ sym (ap (λ (k : RunsFields). k.to) same))
runs_of_walk s (run ∷ runs) t walk ends =
    let behind = subst (λ (k : RunsFields). AreRuns k.model k.at k.to runs) walk.1.1 (runs_of_walk walk.0 runs t walk.2 ends) in
    first_then_rest (whole_at s.model) s.at s.to (stretch_of_run run) (map stretch_of_run runs)
    (record { begins = walk.1.0.begins; value = walk.1.0.whole; stretch = walk.1.0.stretch }) behind

pub runs_of_drained : (s : RunsFields) (runs : List Run) → DrainsIf IsNextRun (Unit {0}) s runs → AreRuns s.model s.at s.to runs
runs_of_drained s runs drained = runs_of_walk s runs drained.0 drained.1 (drained.2 tt).1.0

-- a list of other things that show the same stretches
module _ {R X : Type 0} (shown : R → Stretch X) (back : Stretch X → R) (there : (r : R) → back (shown r) ≡ r) (here : (s : Stretch X) → shown (back s) ≡ s) where
  pub shown_back : (stretches : List (Stretch X)) → map shown (map back stretches) ≡ stretches
  shown_back [] = refl
  shown_back (s ∷ stretches) = λ i. here s i ∷ shown_back stretches i

  pub back_shown : (rs : List R) → map back (map shown rs) ≡ rs
  back_shown [] = refl
  back_shown (r ∷ rs) = λ i. there r i ∷ back_shown rs i

  pub shown_once : (one other : List R) → map shown one ≡ map shown other → one ≡ other
  shown_once one other same = sym (back_shown one) ∙ ap (map back) same ∙ back_shown other

abbrev run_of : Stretch ℤ → Run
run_of s = record { from = s.from; to = s.to; whole = s.value }

pub one_list_of_runs : (m : DelayModel) (from to : ℕ) → from ≤ to → HasOneListOfRuns m from to
one_list_of_runs m from to order =
    let list = some_list int_eq Decides-int_eq (whole_at m) to (to - from) from (omega (arith, order)) in
    let shows = shown_back stretch_of_run run_of (λ r. refl) (λ s. refl) list.0 in
    let are : AreRuns m from to (map run_of list.0) = rw shows list.1 in
    record {
      runs = map run_of list.0;
      are = are;
      only = λ other are_too. shown_once stretch_of_run run_of (λ r. refl) (λ s. refl) (map run_of list.0) other (only (whole_at m) from to _ _ are are_too);
    }
