-- The causes of the faults of a schedule's steps.
use Rattle.std.proofs.Common.{◌≡◌, inl, inr, ℕ, Bool, true, false, cond, not, List, [], ◌∷◌, ◌++◌, filter, is_some, codes, Some, Ok, Err, Result, IfErr, IsOkAnd, Contains, Any, option_map, bytes_eq, refl, sym, ap, ◌∙◌, subst}
use Rattle.std.specs.List.{list_any}
use Rattle.vex_reader.specs.declared.file.Item.{Item}
use Rattle.vex_reader.specs.declared.file.Block.{Block}
use Rattle.vex_reader.specs.declared.file.Statement.{Statement}
use Rattle.vex_reader.specs.declared.file.VexFile.{VexFile}
use Rattle.named_list.specs.Named.{named}
use Rattle.vex_schedule.specs.declared.fault.SchedKind.TheVariants.{NoSched, DoubleStatement, UnknownRef, BadValue, StationTwice, BadRange}
use Rattle.vex_schedule.specs.declared.fault.SchedFault.{SchedFault}
use Rattle.scan_list.specs.declared.scan.Chan.{Chan}
use Rattle.read_steps.specs.Steps.{in_turn}
use Rattle.vex_schedule.specs.Answers.{fault, given}
use Rattle.vex_schedule.specs.Statements.{has_key, only, is_setup}
use Rattle.vex_schedule.specs.Values.{is_name, word_at, only_word, start_in, rate_in, stay_in, chan_in}
use Rattle.vex_schedule.specs.Schedule.{is_in_order, def_of, start_of, mode_of, stay_of, stays_of, setup_rate, chan_of, chans_of, setup_in, setup_at, setup_of, pass_of, passes_of, scan_of, scans_of, schedule_of}
use Rattle.vex_laws.specs.Stands.{HasScan}
use Rattle.vex_laws.specs.Causes.{Observes, SetsUp, IsSetup, WantsOne, one_start, one_mode, one_ref, one_rate, HasForm, start_form, mode_form, station_form, ref_form, rate_form, chan_form, mode_def, ref_def, IsBadForm, IsCause, HasCause}
use Rattle.read_steps.proofs.StepLemmas.{bind-ok}
use Rattle.vex_schedule.proofs.Given.{given-ok}
use Rattle.vex_laws.proofs.Steps.{Stay, with_chans, with_rate, mode_named, mode_said, setup_named, with_setup, with_passes, with_stays, with_mode, with_second, Contains-middle, only-ok, bind-faults, given-faults, only-faults, in_turn-faults, says_again}

-- a station that was read, and a channel, are what their statements say
stay-says : (before : List Stay) (s : Statement) (stay : Stay) → stay_of before s ≡ Ok stay → stay_in s.values ≡ Some stay
unfolding stay_of
stay-says before s stay is =
    let b = bind-ok (given (stay_in s.values) BadValue s.at)
    (λ st. cond (list_any (λ (other : Stay). bytes_eq other.key st.key) before) (Err (fault StationTwice s.at)) (cond (not (is_in_order st)) (Err (fault BadRange s.at)) (Ok st))) stay is in
    given-ok (stay_in s.values) BadValue s.at b.0 b.1 ∙ ap Some (by b.0 (list_any (λ (other : Stay). bytes_eq other.key b.0.key) before) (is_in_order b.0) b.2)
  where
    by : (st : Stay) (t o : Bool) → cond t (Err (fault StationTwice s.at)) (cond (not o) (Err (fault BadRange s.at)) (Ok st)) ≡ Ok stay → st ≡ stay
    by st true o is = absurd cc
    by st false false is = absurd cc
    by st false true is = cc

chan-says : (before : List Chan) (s : Statement) (chan : Chan) → chan_of before s ≡ Ok chan → chan_in s.values ≡ Some chan
unfolding chan_of
chan-says before s chan is =
    let b = bind-ok (given (chan_in s.values) BadValue s.at)
    (λ c. cond (list_any (λ (other : Chan). bytes_eq other.id c.id) before) (Err (fault DoubleStatement s.at)) (Ok c)) chan is in
    given-ok (chan_in s.values) BadValue s.at b.0 b.1 ∙ ap Some (by b.0 (list_any (λ (other : Chan). bytes_eq other.id b.0.id) before) b.2)
  where
    by : (c : Chan) (t : Bool) → cond t (Err (fault DoubleStatement s.at)) (Ok c) ≡ Ok chan → c ≡ chan
    by c true is = absurd cc
    by c false is = cc

module _ (file : VexFile) where
  abbrev Caused : SchedFault → Type 0
  Caused e = IsCause file e.kind e.at

  one : (item : Item) (test : Statement → Bool) → WantsOne file item test → IfErr (only item.at (filter test item.statements)) Caused
  one item test wants = only-faults Caused item.at (filter test item.statements)
      (λ lacks. record { item = item; test = test; wants = wants; none = lacks; place = refl })
      (λ first second behind is. inl (record { item = item; test = test; wants = wants; first = first; second = second; behind = behind; twice = is; place = refl }))

  formless : (s : Statement) (b : Bool) → HasForm file s b → b ≡ false → IsBadForm file s.at
  formless s b has is = record { statement = s; bad = subst (HasForm file s) is has; place = refl }

  module _ (name : List ℕ) (scan : Item) (there : HasScan file name scan) where
    start-caused : IfErr (start_of scan) Caused
    unfolding start_of
    start-caused =
        let statements = filter (has_key (codes "start")) scan.statements in
        bind-faults Caused (only scan.at statements) (λ s. given (start_in s.values) BadValue s.at)
        (one scan (has_key (codes "start")) (one_start name scan there))
        (λ s is. given-faults Caused (start_in s.values) BadValue s.at
        (λ lacks. inr (formless s (is_some (start_in s.values)) (start_form name scan s there (only-ok scan.at statements s is)) (ap is_some lacks))))

    mode-caused : IfErr (mode_of file scan) Caused
    unfolding mode_of
    mode-caused =
        let statements = filter (has_key (codes "mode")) scan.statements in
        bind-faults Caused (only scan.at statements) (mode_said file)
        (one scan (has_key (codes "mode")) (one_mode name scan there))
        (λ s is. bind-faults Caused (given (only_word s.values) BadValue s.at) (mode_named file s)
        (given-faults Caused (only_word s.values) BadValue s.at
        (λ lacks. inr (formless s (is_some (only_word s.values)) (mode_form name scan s there (only-ok scan.at statements s is)) (ap is_some lacks))))
        (λ word says. given-faults Caused (def_of file (codes "$MODE") word) UnknownRef s.at
        (λ lacks. record {
          statement = s;
          block = codes "$MODE";
          def = word;
          names = mode_def name scan s word there (only-ok scan.at statements s is) (given-ok (only_word s.values) BadValue s.at word says);
          none = lacks;
          place = refl;
        })))

    stay-caused : (front : List Statement) (s : Statement) (behind : List Statement) (so_far : List Stay) → filter (has_key (codes "station")) scan.statements ≡ front ++ s ∷ behind
        → in_turn stay_of [] front ≡ Ok so_far → IfErr (stay_of so_far s) Caused
    unfolding stay_of
    stay-caused front s behind so_far cut told =
        bind-faults Caused (given (stay_in s.values) BadValue s.at)
        (λ stay. cond (list_any (λ (other : Stay). bytes_eq other.key stay.key) so_far) (Err (fault StationTwice s.at)) (cond (not (is_in_order stay)) (Err (fault BadRange s.at)) (Ok stay)))
        (given-faults Caused (stay_in s.values) BadValue s.at (λ lacks. inr (formless s (is_some (stay_in s.values)) (station_form name scan s there among) (ap is_some lacks))))
        (λ stay is. by stay (given-ok (stay_in s.values) BadValue s.at stay is) (list_any (λ (other : Stay). bytes_eq other.key stay.key) so_far) (is_in_order stay) refl refl)
      where
        among : Contains (filter (has_key (codes "station")) scan.statements) s
        among = subst (λ all. Contains all s) (sym cut) (Contains-middle front s behind)

        by : (stay : Stay) → stay_in s.values ≡ Some stay → (t o : Bool) → list_any (λ (other : Stay). bytes_eq other.key stay.key) so_far ≡ t → is_in_order stay ≡ o
            → IfErr (cond t (Err (fault StationTwice s.at)) (cond (not o) (Err (fault BadRange s.at)) (Ok stay))) Caused
        by stay says true o twice order = record {
          of = record { name = name; scan = scan; there = there };
          statement = s;
          again = says_again stay_of stay_in (λ stay. stay.key) stay-says (filter (has_key (codes "station")) scan.statements) front s behind so_far stay cut told says twice;
          place = refl;
        }
        by stay says false false new order =
            record { of = record { name = name; scan = scan; there = there }; statement = s; among = among; order = ap (option_map is_in_order) says ∙ ap Some order; place = refl }
        by stay says false true new order = tt

    stays-caused : IfErr (stays_of scan) Caused
    unfolding stays_of
    stays-caused = in_turn-faults Caused stay_of [] (filter (has_key (codes "station")) scan.statements) stay-caused

  module _ (def : Item) (setup : IsSetup file def) where
    rate-caused : IfErr (setup_rate def) Caused
    unfolding setup_rate
    rate-caused =
        let statements = filter (has_key (codes "sample_rate")) def.statements in
        bind-faults Caused (only def.at statements) (λ s. given (rate_in s.values) BadValue s.at)
        (one def (has_key (codes "sample_rate")) (one_rate def setup))
        (λ s is. given-faults Caused (rate_in s.values) BadValue s.at
        (λ lacks. inr (formless s (is_some (rate_in s.values)) (rate_form def s setup (only-ok def.at statements s is)) (ap is_some lacks))))

    chan-caused : (front : List Statement) (s : Statement) (behind : List Statement) (so_far : List Chan) → filter (has_key (codes "chan_def")) def.statements ≡ front ++ s ∷ behind
        → in_turn chan_of [] front ≡ Ok so_far → IfErr (chan_of so_far s) Caused
    unfolding chan_of
    chan-caused front s behind so_far cut told =
        bind-faults Caused (given (chan_in s.values) BadValue s.at)
        (λ chan. cond (list_any (λ (other : Chan). bytes_eq other.id chan.id) so_far) (Err (fault DoubleStatement s.at)) (Ok chan))
        (given-faults Caused (chan_in s.values) BadValue s.at (λ lacks. inr (formless s (is_some (chan_in s.values)) (chan_form def s setup among) (ap is_some lacks))))
        (λ chan is. by chan (given-ok (chan_in s.values) BadValue s.at chan is) (list_any (λ (other : Chan). bytes_eq other.id chan.id) so_far) refl)
      where
        among : Contains (filter (has_key (codes "chan_def")) def.statements) s
        among = subst (λ all. Contains all s) (sym cut) (Contains-middle front s behind)

        by : (chan : Chan) → chan_in s.values ≡ Some chan → (t : Bool) → list_any (λ (other : Chan). bytes_eq other.id chan.id) so_far ≡ t
            → IfErr (cond t (Err (fault DoubleStatement s.at)) (Ok chan)) Caused
        by chan says true twice = inr (record {
          def = def;
          setup = setup;
          statement = s;
          again = says_again chan_of chan_in (λ chan. chan.id) chan-says (filter (has_key (codes "chan_def")) def.statements) front s behind so_far chan cut told says twice;
          place = refl;
        })
        by chan says false new = tt

    setup-caused : IfErr (setup_in def) Caused
    unfolding setup_in chans_of
    setup-caused =
        bind-faults Caused (setup_rate def) (with_rate def) rate-caused
        (λ rate _. bind-faults Caused (chans_of def) (with_chans rate)
        (in_turn-faults Caused chan_of [] (filter (has_key (codes "chan_def")) def.statements) chan-caused)
        (λ chans _. tt))

  ref-caused : (ref : Statement) → SetsUp file ref → IfErr (setup_at file ref) Caused
  unfolding setup_at
  ref-caused ref sets_up =
      bind-faults Caused (given (word_at ref.values 0) BadValue ref.at) (setup_named file ref)
      (given-faults Caused (word_at ref.values 0) BadValue ref.at (λ lacks. inr (formless ref (is_some (word_at ref.values 0)) (ref_form ref sets_up) (ap is_some lacks))))
      (λ name is.
      let says = given-ok (word_at ref.values 0) BadValue ref.at name is in
      bind-faults Caused (given (def_of file (codes "$FREQ") name) UnknownRef ref.at) setup_in
      (given-faults Caused (def_of file (codes "$FREQ") name) UnknownRef ref.at
      (λ lacks. record { statement = ref; block = codes "$FREQ"; def = name; names = ref_def ref name sets_up says; none = lacks; place = refl }))
      (λ def there. setup-caused def (record { ref = ref; sets_up = sets_up; name = name; says = says; there = given-ok (def_of file (codes "$FREQ") name) UnknownRef ref.at def there })))

  pass-caused : (mode : Item) (stay : Stay) → Observes file mode stay.key → IfErr (pass_of file mode stay) Caused
  unfolding pass_of setup_of
  pass-caused mode stay observes =
      let refs = filter (is_setup stay.key) mode.statements in
      bind-faults Caused (setup_of file mode stay.key)
      (with_setup stay)
      (bind-faults Caused (only mode.at refs) (setup_at file) (one mode (is_setup stay.key) (one_ref mode stay.key observes))
      (λ ref is. ref-caused ref (record { mode = mode; key = stay.key; observes = observes; one = only-ok mode.at refs ref is })))
      (λ setup _. tt)

  scan-caused : (name : List ℕ) (scan : Item) → HasScan file name scan → IfErr (scan_of file name scan) Caused
  unfolding scan_of passes_of
  scan-caused name scan there =
      bind-faults Caused (cond (is_name name) (start_of scan) (Err (fault BadValue scan.at)))
      (with_second file name scan)
      (by (is_name name) refl)
      (λ second _. bind-faults Caused (mode_of file scan) (with_mode file name scan second)
      (mode-caused name scan there)
      (λ mode in_mode. bind-faults Caused (stays_of scan) (with_stays file name second mode)
      (stays-caused name scan there)
      (λ stays stations. bind-faults Caused (passes_of file mode stays) (with_passes name second)
      (in_turn-faults Caused (λ before (stay : Stay). pass_of file mode stay) [] stays
      (λ front stay behind so_far cut _. pass-caused mode stay (record { name = name; scan = scan; there = there; in_mode = in_mode; station = station stays stay stations front behind cut })))
      (λ passes _. tt))))
    where
      station : (stays : List Stay) (stay : Stay) → stays_of scan ≡ Ok stays → (front behind : List Stay) → stays ≡ front ++ stay ∷ behind
          → IsOkAnd (stays_of scan) (λ all. Any (λ other. other.key ≡ stay.key) all)
      station stays stay stations front behind cut =
          let among : Contains stays stay = subst (λ all. Contains all stay) (sym cut) (Contains-middle front stay behind) in
          let P : Result (List Stay) SchedFault → Type 0 = λ answer. IsOkAnd answer (λ all. Any (λ (other : Stay). other.key ≡ stay.key) all) in
          subst P (sym stations) (among.0, stay, among.1, among.2, refl)

      by : (b : Bool) → is_name name ≡ b → IfErr (cond b (start_of scan) (Err (fault BadValue scan.at))) Caused
      by true e = start-caused name scan there
      by false e = inl (record { of = record { name = name; scan = scan; there = there }; bad = e; place = refl })

  schedule-caused : IfErr (schedule_of file) Caused
  unfolding schedule_of scans_of
  schedule-caused =
      bind-faults Caused (given (named file.blocks (codes "$SCHED")) NoSched 0) (λ (sched : Block). scans_of file sched.scans)
      (given-faults Caused (named file.blocks (codes "$SCHED")) NoSched 0 (λ lacks. (refl, lacks)))
      (λ (block : Block) is. in_turn-faults Caused (λ before (scan : List ℕ × Item). scan_of file scan.0 scan.1) [] block.scans
      (λ front entry behind so_far cut _. scan-caused entry.0 entry.1 (record {
        block = block;
        there = given-ok (named file.blocks (codes "$SCHED")) NoSched 0 block is;
        among = subst (λ all. Contains all entry) (sym cut) (Contains-middle front entry behind);
      })))

  pub cause_at_place : HasCause file
  cause_at_place found told = subst (λ answer. IfErr answer Caused) told schedule-caused
