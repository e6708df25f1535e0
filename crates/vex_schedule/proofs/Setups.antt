-- Setups by the places of their defs.
use Rattle.std.proofs.Common.{◌≡◌, ℕ, ◌<◌, List, length, slice_get, get_or, filter, codes, Some, None, Result, Ok, sym, ap, ◌∙◌}
use Rattle.std.specs.Prelude.{Option, option_map}
use Rattle.std.proofs.lemmas.List.{length-map}
use Rattle.std.proofs.lemmas.Option.{slice_get-map, slice_get_read}
use Rattle.vex_reader.specs.declared.file.Item.{Item}
use Rattle.vex_reader.specs.declared.file.Statement.{Statement}
use Rattle.vex_reader.specs.declared.file.VexFile.{VexFile}
use Rattle.vex_schedule.specs.declared.fault.SchedKind.TheVariants.{UnknownRef}
use Rattle.vex_schedule.specs.declared.fault.SchedFault.{SchedFault}
use Rattle.vex_schedule.specs.declared.part.Setup.{Setup}
use Rattle.read_steps.specs.Steps.{◌>>=◌, seen}
use Rattle.vex_schedule.specs.Answers.{given}
use Rattle.vex_schedule.specs.Statements.{only, is_setup}
use Rattle.vex_schedule.specs.Values.{word_at}
use Rattle.vex_schedule.specs.Schedule.{defs_in, def_of, setup_in, setup_at, setup_of}
use Rattle.vex_schedule.specs.Setups.{part_of, AreSetups}

-- there are as many as defs
pub AreSetups-length : (file : VexFile) (setups : List (Result Setup SchedFault)) → AreSetups file setups → length setups ≡ length (defs_in file (codes "$FREQ"))
AreSetups-length file setups are =
    sym (length-map setups (seen part_of)) ∙ ap length are ∙ length-map (defs_in file (codes "$FREQ")) (λ def. setup_in def.1)

-- what stands at a def's place is what the def gives
module _ (file : VexFile) (setups : List (Result Setup SchedFault)) (i at : ℕ) (answer : Result Setup SchedFault) where
  pub setup-there : AreSetups file setups → slice_get setups i ≡ Some answer → (def : Option Item) → option_map (λ x. x.1) (slice_get (defs_in file (codes "$FREQ")) i) ≡ def
      → (given def UnknownRef at >>= setup_in) ≡ seen part_of answer
  setup-there are is def there =
      let both : Some (seen part_of answer) ≡ option_map (λ x. setup_in x.1) (slice_get (defs_in file (codes "$FREQ")) i) =
      ap (option_map (seen part_of)) (sym is) ∙ sym (slice_get-map (seen part_of) setups i) ∙ ap (λ l. slice_get l i) are
      ∙ slice_get-map (λ x. setup_in x.1) (defs_in file (codes "$FREQ")) i in
      by (slice_get (defs_in file (codes "$FREQ")) i) there both
    where
      by : (o : Option (List ℕ × Item)) → option_map (λ x. x.1) o ≡ def → Some (seen part_of answer) ≡ option_map (λ x. setup_in x.1) o
          → (given def UnknownRef at >>= setup_in) ≡ seen part_of answer
      by None is_def same = absurd cc
      by (Some x) is_def same = rw (← is_def) (let given_it : seen part_of answer ≡ setup_in x.1 = cc in sym given_it)

-- what a mode gives a station is what stands at the place of the def that the covering ref names
pub setup_of-through : (file : VexFile) (mode : Item) (key : List ℕ) (ref : Statement) (name : List ℕ) (setups : List (Result Setup SchedFault)) (i : ℕ) (answer : Result Setup SchedFault)
    → Ok ref ≡ only mode.at (filter (is_setup key) mode.statements) → word_at ref.values 0 ≡ Some name → AreSetups file setups → i < length (defs_in file (codes "$FREQ"))
    → answer ≡ get_or setups i answer → option_map (λ x. x.1) (slice_get (defs_in file (codes "$FREQ")) i) ≡ def_of file (codes "$FREQ") name → seen part_of answer ≡ setup_of file mode key
unfolding setup_of setup_at
setup_of-through file mode key ref name setups i answer one word are within is there =
    let stands : slice_get setups i ≡ Some answer = slice_get_read setups (length (defs_in file (codes "$FREQ"))) i answer (sym (AreSetups-length file setups are)) within is in
    rw (← one, word) (sym (setup-there file setups i ref.at answer are stands (def_of file (codes "$FREQ") name) there))
