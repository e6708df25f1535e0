-- Where the causes of a schedule's faults stand.
use Rattle.std.proofs.Common.{◌≡◌, ◌⊎◌, inl, inr, ⊎_elim, ℕ, Bool, true, false, cond, List, [], ◌∷◌, filter, codes, Contains, refl, sym, subst}
use Rattle.std.proofs.lemmas.List.Elements.{Contains-append_cases}
use Rattle.vex_reader.specs.declared.file.Item.{Item}
use Rattle.vex_reader.specs.declared.file.Statement.{Statement}
use Rattle.vex_reader.specs.declared.file.VexFile.{VexFile}
use Rattle.vex_schedule.specs.declared.fault.SchedKind.{SchedKind}
use Rattle.vex_schedule.specs.declared.fault.SchedKind.TheVariants.{NoSched, MissingStatement, DoubleStatement, UnknownRef, BadValue, StationTwice, BadRange, Memory}
use Rattle.vex_schedule.specs.Answers.{given}
use Rattle.vex_schedule.specs.Statements.{has_key, only, is_setup}
use Rattle.vex_schedule.specs.Values.{only_word}
use Rattle.vex_schedule.specs.Schedule.{def_of, mode_of}
use Rattle.vex_schedule.specs.Laws.{IsTheOne}
use Rattle.vex_laws.specs.Stands.{HasScan, HasItem, BeginsAt, HasPlace}
use Rattle.vex_laws.specs.Causes.{Observes, SetsUp, IsSetup, WantsOne, one_start, one_mode, one_ref, one_rate, HasForm, start_form, mode_form, station_form, ref_form, rate_form, chan_form, NamesDef, mode_def, ref_def, IsCause}
use Rattle.read_steps.proofs.StepLemmas.{bind-ok}
use Rattle.vex_schedule.proofs.Given.{given-ok}
use Rattle.vex_laws.proofs.Steps.{mode_named, mode_said, Contains-middle, Contains-first, Contains-behind, Contains-one}
use Rattle.vex_laws.proofs.CauseLemmas.{cause_at_place}

Contains-filter : {A : Type 0} (p : A → Bool) (xs : List A) (y : A) → Contains (filter p xs) y → Contains xs y
Contains-filter p [] y there = there
Contains-filter {A} p (x ∷ xs) y there = by (p x) (Contains-filter p xs y) there
  where
    by : (b : Bool) → (Contains (filter p xs) y → Contains xs y) → Contains (cond b (x ∷ filter p xs) (filter p xs)) y → Contains (x ∷ xs) y
    by true rest there =
        ⊎_elim
        (λ first. let P : A → Type 0 = λ z. Contains (x ∷ xs) z in subst P (Contains-one x y first) (Contains-first x xs))
        (λ behind. Contains-behind x xs y (rest behind))
        (Contains-append_cases (x ∷ []) (filter p xs) y there)
    by false rest there = Contains-behind x xs y (rest there)

module _ (file : VexFile) where
  -- scans and defs
  a_scan : (name : List ℕ) (scan : Item) → HasScan file name scan → HasItem file scan
  a_scan name scan there = inl (name, there)

  a_mode : (mode : Item) (key : List ℕ) → Observes file mode key → HasItem file mode
  unfolding mode_of
  a_mode mode key observes =
      let said = bind-ok (only observes.scan.at (filter (has_key (codes "mode")) observes.scan.statements)) (mode_said file) mode observes.in_mode in
      let name = bind-ok (given (only_word said.0.values) BadValue said.0.at) (mode_named file said.0) mode said.2 in
      inr (codes "$MODE", name.0, given-ok (def_of file (codes "$MODE") name.0) UnknownRef said.0.at mode name.2)

  a_setup : (def : Item) → IsSetup file def → HasItem file def
  a_setup def setup = inr (codes "$FREQ", setup.name, setup.there)

  -- one of their statements that passes a test
  within : (item : Item) (test : Statement → Bool) (s : Statement) → HasItem file item → Contains (filter test item.statements) s → BeginsAt file s.at
  within item test s there among = record { item = item; there = there; begins = inr (s, Contains-filter test item.statements s among, refl) }

  the_one : (item : Item) (test : Statement → Bool) (s : Statement) → HasItem file item → IsTheOne test item.statements s → BeginsAt file s.at
  the_one item test s there one = within item test s there (subst (λ all. Contains all s) (sym one) (Contains-first s []))

  the_ref : (ref : Statement) → SetsUp file ref → BeginsAt file ref.at
  the_ref ref up = the_one up.mode (is_setup up.key) ref (a_mode up.mode up.key up.observes) up.one

  wants_item : (item : Item) (test : Statement → Bool) → WantsOne file item test → HasItem file item
  wants_item item test (one_start name scan there) = a_scan name scan there
  wants_item item test (one_mode name scan there) = a_scan name scan there
  wants_item item test (one_ref mode key observes) = a_mode mode key observes
  wants_item item test (one_rate def setup) = a_setup def setup

  form_place : (s : Statement) (b : Bool) → HasForm file s b → BeginsAt file s.at
  form_place s b (start_form name scan statement there one) = the_one scan (has_key (codes "start")) statement (a_scan name scan there) one
  form_place s b (mode_form name scan statement there one) = the_one scan (has_key (codes "mode")) statement (a_scan name scan there) one
  form_place s b (station_form name scan statement there among) = within scan (has_key (codes "station")) statement (a_scan name scan there) among
  form_place s b (ref_form statement up) = the_ref statement up
  form_place s b (rate_form def statement setup one) = the_one def (has_key (codes "sample_rate")) statement (a_setup def setup) one
  form_place s b (chan_form def statement setup among) = within def (has_key (codes "chan_def")) statement (a_setup def setup) among

  names_place : (s : Statement) (block def : List ℕ) → NamesDef file s block def → BeginsAt file s.at
  names_place s block def (mode_def name scan statement word there one says) = the_one scan (has_key (codes "mode")) statement (a_scan name scan there) one
  names_place s block def (ref_def statement word up says) = the_ref statement up

  moved : (at place : ℕ) → at ≡ place → BeginsAt file at → BeginsAt file place
  moved at place same begins = subst (BeginsAt file) same begins

  item_place : (item : Item) → HasItem file item → BeginsAt file item.at
  item_place item there = record { item = item; there = there; begins = inl refl }

  cause_place : (kind : SchedKind) (at : ℕ) → IsCause file kind at → ((kind ≡ NoSched) × (at ≡ 0)) ⊎ BeginsAt file at
  cause_place NoSched at cause = inl (refl, cause.0)
  cause_place MissingStatement at cause = inr (moved cause.item.at at cause.place (item_place cause.item (wants_item cause.item cause.test cause.wants)))
  cause_place DoubleStatement at (inl cause) =
      inr (moved cause.second.at at cause.place
      (within cause.item cause.test cause.second (wants_item cause.item cause.test cause.wants)
      (subst (λ all. Contains all cause.second) (sym cause.twice) (Contains-middle (cause.first ∷ []) cause.second cause.behind))))
  cause_place DoubleStatement at (inr cause) =
      inr (moved cause.statement.at at cause.place
      (within cause.def (has_key (codes "chan_def")) cause.statement (a_setup cause.def cause.setup)
      (subst (λ all. Contains all cause.statement) (sym cause.again.cut) (Contains-middle cause.again.front cause.statement cause.again.behind))))
  cause_place UnknownRef at cause = inr (moved cause.statement.at at cause.place (names_place cause.statement cause.block cause.def cause.names))
  cause_place BadValue at (inl cause) = inr (moved cause.of.scan.at at cause.place (item_place cause.of.scan (a_scan cause.of.name cause.of.scan cause.of.there)))
  cause_place BadValue at (inr cause) = inr (moved cause.statement.at at cause.place (form_place cause.statement false cause.bad))
  cause_place StationTwice at cause =
      inr (moved cause.statement.at at cause.place
      (within cause.of.scan (has_key (codes "station")) cause.statement (a_scan cause.of.name cause.of.scan cause.of.there)
      (subst (λ all. Contains all cause.statement) (sym cause.again.cut) (Contains-middle cause.again.front cause.statement cause.again.behind))))
  cause_place BadRange at cause =
      inr (moved cause.statement.at at cause.place (within cause.of.scan (has_key (codes "station")) cause.statement (a_scan cause.of.name cause.of.scan cause.of.there) cause.among))
  cause_place Memory at cause = absurd cause

  pub placed_fault : HasPlace file
  placed_fault found told = cause_place found.kind found.at (cause_at_place file found told)
