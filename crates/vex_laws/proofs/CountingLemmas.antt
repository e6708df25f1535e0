-- The schedule of a file without what does not count.
use Rattle.std.proofs.Common.{◌≡◌, ℕ, ℤ, Bool, true, false, cond, ◌||◌, ◌&&◌, List, [], ◌∷◌, ◌++◌, map, filter, bytes_eq, codes, Option, None, Some, Result, Ok, Err, option_map, refl, sym, ap, ◌∙◌}
use Rattle.std.specs.Option.{option_map_or}
use Rattle.std.proofs.lemmas.Slice.Eq.{bytes_eq-Decides}
use Rattle.vex_reader.specs.declared.file.Item.{Item}
use Rattle.vex_reader.specs.declared.file.Block.{Block}
use Rattle.vex_reader.specs.declared.file.Statement.{Statement}
use Rattle.vex_reader.specs.declared.file.VexFile.{VexFile}
use Rattle.named_list.specs.Named.{named}
use Rattle.vex_schedule.specs.declared.fault.SchedKind.{SchedKind}
use Rattle.vex_schedule.specs.declared.fault.SchedKind.TheVariants.{NoSched, UnknownRef, BadValue}
use Rattle.vex_schedule.specs.declared.fault.SchedFault.{SchedFault}
use Rattle.read_steps.specs.Steps.{◌>>=◌, in_turn, seen}
use Rattle.vex_schedule.specs.Answers.{fault, given}
use Rattle.vex_schedule.specs.Statements.{has_key, only, covers, is_some_text, is_setup}
use Rattle.vex_schedule.specs.Values.{is_name, word_at, only_word, start_in, rate_in}
use Rattle.vex_schedule.specs.Schedule.{def_of, start_of, mode_of, stay_of, stays_of, setup_rate, chan_of, chans_of, setup_in, setup_at, setup_of, pass_of, passes_of, scan_of, scans_of, schedule_of}
use Rattle.vex_laws.proofs.Steps.{Stay, with_chans, mode_named, mode_said, setup_named, with_setup, with_passes, with_stays, with_mode, with_second}
use Rattle.vex_laws.specs.Counting.{counts_in_scan, counts_in_mode, counts_in_setup, only_with, each_with, counted_defs, counted_block, counted, HaveSameItems, IsOfWhatCounts, HaveOneSchedule}

-- two steps that give the same, one after the other
bind-same : {A B : Type 0} (r : Result A SchedFault) (f g : A → Result B SchedFault) → ((x : A) → f x ≡ g x) → (r >>= f) ≡ (r >>= g)
bind-same (Ok x) f g same = same x
bind-same (Err e) f g same = refl

bind-seen : {A B C : Type 0} (view : A → B) (r : Result A SchedFault) (f : B → Result C SchedFault) (g : A → Result C SchedFault) → ((x : A) → f (view x) ≡ g x)
    → (seen view r >>= f) ≡ (r >>= g)
bind-seen view (Ok x) f g same = same x
bind-seen view (Err e) f g same = refl

given-map : {A B : Type 0} (view : A → B) (o : Option A) (kind : SchedKind) (at : ℕ) → given (option_map view o) kind at ≡ seen view (given o kind at)
given-map view None kind at = refl
given-map view (Some x) kind at = refl

in_turn-same : {A B C : Type 0} (view : A → C) (read : List B → C → Result B SchedFault) (other : List B → A → Result B SchedFault)
    → ((before : List B) (x : A) → read before (view x) ≡ other before x) → (before : List B) (xs : List A) → in_turn read before (map view xs) ≡ in_turn other before xs
in_turn-same view read other same before [] = refl
in_turn-same {A} {B} view read other same before (x ∷ xs) =
    ap (λ r. r >>= λ y. in_turn read (before ++ y ∷ []) (map view xs)) (same before x)
    ∙ bind-same (other before x) (λ y. in_turn read (before ++ y ∷ []) (map view xs)) (λ y. in_turn other (before ++ y ∷ []) xs)
    (λ y. in_turn-same view read other same (before ++ y ∷ []) xs)

in_turn-read : {A B : Type 0} (read other : List B → A → Result B SchedFault) → ((before : List B) (x : A) → read before x ≡ other before x)
    → (before : List B) (xs : List A) → in_turn read before xs ≡ in_turn other before xs
in_turn-read read other same before xs = λ i. in_turn (λ b x. same b x i) before xs

-- a test behind one that lets all through that pass it
filter-within : {A : Type 0} (p q : A → Bool) → ((x : A) → p x ≡ true → q x ≡ true) → (xs : List A) → filter p (filter q xs) ≡ filter p xs
filter-within p q within [] = refl
filter-within {A} p q within (x ∷ xs) = by (p x) (q x) refl refl (filter-within p q within xs)
  where
    by : (b c : Bool) → p x ≡ b → q x ≡ c → filter p (filter q xs) ≡ filter p xs → filter p (cond c (x ∷ filter q xs) (filter q xs)) ≡ cond b (x ∷ filter p xs) (filter p xs)
    by true true e f rest = (λ i. cond (e i) (x ∷ filter p (filter q xs)) (filter p (filter q xs))) ∙ ap (λ ys. x ∷ ys) rest
    by true false e f rest = absurd (let one = within x e in cc)
    by false true e f rest = (λ i. cond (e i) (x ∷ filter p (filter q xs)) (filter p (filter q xs))) ∙ rest
    by false false e f rest = rest

-- what stands under a name, where each is changed by a function of its name
named-map : {A B : Type 0} (change : List ℕ → A → B) (xs : List (List ℕ × A)) (name : List ℕ)
    → named (map (λ x. (x.0, change x.0 x.1)) xs) name ≡ option_map (change name) (named xs name)
named-map change [] name = refl
named-map {A} {B} change (x ∷ xs) name = by (bytes_eq x.0 name) refl (named-map change xs name)
  where
    by : (b : Bool) → bytes_eq x.0 name ≡ b → named (map (λ y. (y.0, change y.0 y.1)) xs) name ≡ option_map (change name) (named xs name)
        → cond b (Some (change x.0 x.1)) (named (map (λ y. (y.0, change y.0 y.1)) xs) name) ≡ option_map (change name) (cond b (Some x.1) (named xs name))
    by true e rest = ap (λ key. Some (change key x.1)) ((bytes_eq-Decides x.0 name).0 e)
    by false e rest = rest

-- the tests of the steps are among those of what counts
or-first : (a b : Bool) → a ≡ true → (a || b) ≡ true
or-first true b is = refl
or-first false b is = absurd cc

or-second : (a b : Bool) → b ≡ true → (a || b) ≡ true
or-second true b is = refl
or-second false b is = is

and-first : (a b : Bool) → (a && b) ≡ true → a ≡ true
and-first true b is = refl
and-first false b is = absurd cc

start-counts : (s : Statement) → has_key (codes "start") s ≡ true → counts_in_scan s ≡ true
start-counts s is = or-first (has_key (codes "start") s || has_key (codes "mode") s) (has_key (codes "station") s) (or-first (has_key (codes "start") s) (has_key (codes "mode") s) is)

mode-counts : (s : Statement) → has_key (codes "mode") s ≡ true → counts_in_scan s ≡ true
mode-counts s is = or-first (has_key (codes "start") s || has_key (codes "mode") s) (has_key (codes "station") s) (or-second (has_key (codes "start") s) (has_key (codes "mode") s) is)

station-counts : (s : Statement) → has_key (codes "station") s ≡ true → counts_in_scan s ≡ true
station-counts s is = or-second (has_key (codes "start") s || has_key (codes "mode") s) (has_key (codes "station") s) is

setup-counts : (key : List ℕ) (s : Statement) → is_setup key s ≡ true → counts_in_mode s ≡ true
unfolding is_setup
setup-counts key s is = and-first (is_some_text (codes "$FREQ") s.target) (covers key s.values) is

rate-counts : (s : Statement) → has_key (codes "sample_rate") s ≡ true → counts_in_setup s ≡ true
rate-counts s is = or-first (has_key (codes "sample_rate") s) (has_key (codes "chan_def") s) is

chan-counts : (s : Statement) → has_key (codes "chan_def") s ≡ true → counts_in_setup s ≡ true
chan-counts s is = or-second (has_key (codes "sample_rate") s) (has_key (codes "chan_def") s) is

-- a def of `$FREQ` gives what its counting statements give
setup-same : (def : Item) → setup_in (only_with counts_in_setup def) ≡ setup_in def
unfolding setup_in setup_rate chans_of
setup-same def =
    let rates = filter-within (has_key (codes "sample_rate")) counts_in_setup rate-counts def.statements in
    let chans = filter-within (has_key (codes "chan_def")) counts_in_setup chan-counts def.statements in
    λ i. (only def.at (rates i) >>= λ statement. given (rate_in statement.values) BadValue statement.at) >>= λ rate. in_turn chan_of [] (chans i) >>= with_chans rate

start-same : (scan : Item) → start_of (only_with counts_in_scan scan) ≡ start_of scan
unfolding start_of
start-same scan = ap (λ statements. only scan.at statements >>= λ statement. given (start_in statement.values) BadValue statement.at)
    (filter-within (has_key (codes "start")) counts_in_scan start-counts scan.statements)

stays-same : (scan : Item) → stays_of (only_with counts_in_scan scan) ≡ stays_of scan
unfolding stays_of
stays-same scan = ap (in_turn stay_of []) (filter-within (has_key (codes "station")) counts_in_scan station-counts scan.statements)

module _ (file : VexFile) where
  -- the defs that count
  counted-def : (key : List ℕ) (counts : Statement → Bool) (name : List ℕ)
      → ((defs : List (List ℕ × Item)) → counted_defs key defs ≡ each_with counts defs)
      → def_of (counted file) key name ≡ option_map (only_with counts) (def_of file key name)
  unfolding def_of
  counted-def key counts name are =
      ap (λ block. named (option_map_or (λ (b : Block). b.defs) block []) name) (named-map counted_block file.blocks key)
      ∙ by (named file.blocks key)
    where
      by : (block : Option Block) → named (option_map_or (λ (b : Block). b.defs) (option_map (counted_block key) block) []) name
          ≡ option_map (only_with counts) (named (option_map_or (λ (b : Block). b.defs) block []) name)
      by None = refl
      by (Some block) = ap (λ defs. named defs name) (are block.defs) ∙ named-map (λ _. only_with counts) block.defs name

  mode-def : (name : List ℕ) → def_of (counted file) (codes "$MODE") name ≡ option_map (only_with counts_in_mode) (def_of file (codes "$MODE") name)
  mode-def name = counted-def (codes "$MODE") counts_in_mode name (λ _. refl)

  setup-def : (name : List ℕ) → def_of (counted file) (codes "$FREQ") name ≡ option_map (only_with counts_in_setup) (def_of file (codes "$FREQ") name)
  setup-def name = counted-def (codes "$FREQ") counts_in_setup name (λ _. refl)

  -- the mode of a scan
  word-same : (s : Statement) (name : Result (List ℕ) SchedFault) → (name >>= mode_named (counted file) s) ≡ seen (only_with counts_in_mode) (name >>= mode_named file s)
  word-same s (Ok name) = ap (λ def. given def UnknownRef s.at) (mode-def name) ∙ given-map (only_with counts_in_mode) (def_of file (codes "$MODE") name) UnknownRef s.at
  word-same s (Err e) = refl

  said-same : (r : Result Statement SchedFault) → (r >>= mode_said (counted file)) ≡ seen (only_with counts_in_mode) (r >>= mode_said file)
  said-same (Ok s) = word-same s (given (only_word s.values) BadValue s.at)
  said-same (Err e) = refl

  mode-same : (scan : Item) → mode_of (counted file) (only_with counts_in_scan scan) ≡ seen (only_with counts_in_mode) (mode_of file scan)
  unfolding mode_of
  mode-same scan =
      ap (λ statements. only scan.at statements >>= mode_said (counted file)) (filter-within (has_key (codes "mode")) counts_in_scan mode-counts scan.statements)
      ∙ said-same (only scan.at (filter (has_key (codes "mode")) scan.statements))

  -- what a ref gives
  named-same : (ref : Statement) (name : List ℕ) → setup_named (counted file) ref name ≡ setup_named file ref name
  named-same ref name =
      ap (λ r. r >>= setup_in) (ap (λ def. given def UnknownRef ref.at) (setup-def name) ∙ given-map (only_with counts_in_setup) (def_of file (codes "$FREQ") name) UnknownRef ref.at)
      ∙ bind-seen (only_with counts_in_setup) (given (def_of file (codes "$FREQ") name) UnknownRef ref.at) setup_in setup_in setup-same

  ref-same : (ref : Statement) → setup_at (counted file) ref ≡ setup_at file ref
  unfolding setup_at
  ref-same ref = bind-same (given (word_at ref.values 0) BadValue ref.at) (setup_named (counted file) ref) (setup_named file ref) (named-same ref)

  pass-same : (mode : Item) (stay : Stay) → pass_of (counted file) (only_with counts_in_mode mode) stay ≡ pass_of file mode stay
  unfolding pass_of setup_of
  pass-same mode stay =
      ap (λ statements. (only mode.at statements >>= setup_at (counted file)) >>= with_setup stay) (filter-within (is_setup stay.key) counts_in_mode (setup-counts stay.key) mode.statements)
      ∙ ap (λ r. r >>= with_setup stay) (bind-same (only mode.at (filter (is_setup stay.key) mode.statements)) (setup_at (counted file)) (setup_at file) ref-same)

  passes-same : (mode : Item) (stays : List Stay) → passes_of (counted file) (only_with counts_in_mode mode) stays ≡ passes_of file mode stays
  unfolding passes_of
  passes-same mode stays = in_turn-read (λ before stay. pass_of (counted file) (only_with counts_in_mode mode) stay) (λ before stay. pass_of file mode stay) (λ before. pass-same mode) [] stays

  -- a scan
  mode-behind : (name : List ℕ) (scan : Item) (second : ℤ) (mode : Item)
      → with_mode (counted file) name (only_with counts_in_scan scan) second (only_with counts_in_mode mode) ≡ with_mode file name scan second mode
  mode-behind name scan second mode =
      ap (λ r. r >>= with_stays (counted file) name second (only_with counts_in_mode mode)) (stays-same scan)
      ∙ bind-same (stays_of scan) (with_stays (counted file) name second (only_with counts_in_mode mode)) (with_stays file name second mode)
      (λ stays. ap (λ r. r >>= with_passes name second) (passes-same mode stays))

  second-behind : (name : List ℕ) (scan : Item) (second : ℤ) → with_second (counted file) name (only_with counts_in_scan scan) second ≡ with_second file name scan second
  second-behind name scan second =
      ap (λ r. r >>= with_mode (counted file) name (only_with counts_in_scan scan) second) (mode-same scan)
      ∙ bind-seen (only_with counts_in_mode) (mode_of file scan) (with_mode (counted file) name (only_with counts_in_scan scan) second) (with_mode file name scan second) (mode-behind name scan second)

  scan-same : (name : List ℕ) (scan : Item) → scan_of (counted file) name (only_with counts_in_scan scan) ≡ scan_of file name scan
  unfolding scan_of
  scan-same name scan =
      ap (λ r. cond (is_name name) r (Err (fault BadValue scan.at)) >>= with_second (counted file) name (only_with counts_in_scan scan)) (start-same scan)
      ∙ bind-same (cond (is_name name) (start_of scan) (Err (fault BadValue scan.at))) (with_second (counted file) name (only_with counts_in_scan scan)) (with_second file name scan)
      (second-behind name scan)

  pub what_counts : IsOfWhatCounts file
  unfolding schedule_of scans_of
  what_counts =
      ap (λ sched. given sched NoSched 0 >>= λ (block : Block). in_turn (λ before (scan : List ℕ × Item). scan_of (counted file) scan.0 scan.1) [] block.scans)
      (named-map counted_block file.blocks (codes "$SCHED"))
      ∙ by (named file.blocks (codes "$SCHED"))
    where
      by : (sched : Option Block)
          → (given (option_map (counted_block (codes "$SCHED")) sched) NoSched 0 >>= λ (block : Block). in_turn (λ before (scan : List ℕ × Item). scan_of (counted file) scan.0 scan.1) [] block.scans)
          ≡ (given sched NoSched 0 >>= λ (block : Block). in_turn (λ before (scan : List ℕ × Item). scan_of file scan.0 scan.1) [] block.scans)
      by None = refl
      by (Some block) = in_turn-same (λ (item : List ℕ × Item). (item.0, only_with counts_in_scan item.1))
          (λ before (scan : List ℕ × Item). scan_of (counted file) scan.0 scan.1) (λ before (scan : List ℕ × Item). scan_of file scan.0 scan.1)
          (λ before scan. scan-same scan.0 scan.1) [] block.scans

-- files that have the same scans and defs
module _ (file other : VexFile) (same : HaveSameItems file other) where
  mode-alike : (scan : Item) → mode_of file scan ≡ mode_of other scan
  unfolding mode_of
  mode-alike scan =
      bind-same (only scan.at (filter (has_key (codes "mode")) scan.statements)) (mode_said file) (mode_said other)
      (λ s. bind-same (given (only_word s.values) BadValue s.at) (mode_named file s) (mode_named other s) (λ name. ap (λ def. given def UnknownRef s.at) (same.modes name)))

  ref-alike : (ref : Statement) → setup_at file ref ≡ setup_at other ref
  unfolding setup_at
  ref-alike ref =
      bind-same (given (word_at ref.values 0) BadValue ref.at) (setup_named file ref) (setup_named other ref) (λ name. ap (λ def. given def UnknownRef ref.at >>= setup_in) (same.setups name))

  pass-alike : (mode : Item) (stay : Stay) → pass_of file mode stay ≡ pass_of other mode stay
  unfolding pass_of setup_of
  pass-alike mode stay = ap (λ r. r >>= with_setup stay) (bind-same (only mode.at (filter (is_setup stay.key) mode.statements)) (setup_at file) (setup_at other) ref-alike)

  passes-alike : (mode : Item) (stays : List Stay) → passes_of file mode stays ≡ passes_of other mode stays
  unfolding passes_of
  passes-alike mode stays = in_turn-read (λ before stay. pass_of file mode stay) (λ before stay. pass_of other mode stay) (λ before. pass-alike mode) [] stays

  second-alike : (name : List ℕ) (scan : Item) (second : ℤ) → with_second file name scan second ≡ with_second other name scan second
  second-alike name scan second =
      ap (λ r. r >>= with_mode file name scan second) (mode-alike scan)
      ∙ bind-same (mode_of other scan) (with_mode file name scan second) (with_mode other name scan second)
      (λ mode. bind-same (stays_of scan) (with_stays file name second mode) (with_stays other name second mode) (λ stays. ap (λ r. r >>= with_passes name second) (passes-alike mode stays)))

  scan-alike : (name : List ℕ) (scan : Item) → scan_of file name scan ≡ scan_of other name scan
  unfolding scan_of
  scan-alike name scan = bind-same (cond (is_name name) (start_of scan) (Err (fault BadValue scan.at))) (with_second file name scan) (with_second other name scan) (second-alike name scan)

  schedule-alike : schedule_of file ≡ schedule_of other
  unfolding schedule_of scans_of
  schedule-alike = by (named file.blocks (codes "$SCHED")) (named other.blocks (codes "$SCHED")) same.scans
    where
      by : (one two : Option Block) → option_map (λ (block : Block). block.scans) one ≡ option_map (λ (block : Block). block.scans) two
          → (given one NoSched 0 >>= λ (block : Block). in_turn (λ before (scan : List ℕ × Item). scan_of file scan.0 scan.1) [] block.scans)
          ≡ (given two NoSched 0 >>= λ (block : Block). in_turn (λ before (scan : List ℕ × Item). scan_of other scan.0 scan.1) [] block.scans)
      by None None e = refl
      by None (Some b) e = absurd cc
      by (Some a) None e = absurd cc
      by (Some a) (Some b) e =
          let scans : a.scans ≡ b.scans = cc in
          ap (in_turn (λ before (scan : List ℕ × Item). scan_of file scan.0 scan.1) []) scans
          ∙ in_turn-read (λ before (scan : List ℕ × Item). scan_of file scan.0 scan.1) (λ before (scan : List ℕ × Item). scan_of other scan.0 scan.1)
          (λ before scan. scan-alike scan.0 scan.1) [] b.scans

pub nothing_else_counts : (file other : VexFile) → HaveOneSchedule file other
nothing_else_counts file other same = sym (what_counts file) ∙ schedule-alike (counted file) (counted other) same ∙ what_counts other
