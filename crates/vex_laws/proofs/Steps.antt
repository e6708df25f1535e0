-- Steps one after the other: what is behind each, what it gave, and the faults that it can have.
use Rattle.std.proofs.Common.{◌≡◌, ◌⊎◌, inl, inr, ⊎_elim, ℕ, zero, suc, ℤ, true, List, [], ◌∷◌, ◌++◌, None, Some, Option, Ok, Err, Result, IfErr, Contains, bytes_eq, arith, codes, refl, sym, ap, ◌∙◌, subst}
use Rattle.std.specs.List.{list_any}
use Rattle.std.proofs.lemmas.List.Elements.{Contains-append_right, Contains-append_cases}
use Rattle.std.proofs.lemmas.List.Folds.{Any-from_list_any}
use Rattle.std.proofs.lemmas.Slice.Eq.{bytes_eq-Decides}
use Rattle.vex_reader.specs.declared.file.Item.{Item}
use Rattle.vex_reader.specs.declared.file.Statement.{Statement}
use Rattle.vex_reader.specs.declared.file.VexFile.{VexFile}
use Rattle.vex_schedule.specs.declared.fault.SchedKind.{SchedKind}
use Rattle.vex_schedule.specs.declared.fault.SchedKind.TheVariants.{MissingStatement, DoubleStatement, UnknownRef, BadValue}
use Rattle.vex_schedule.specs.declared.fault.SchedFault.{SchedFault}
use Rattle.scan_list.specs.declared.scan.Chan.{Chan}
use Rattle.scan_list.specs.declared.scan.Pass.{Pass}
use Rattle.scan_list.specs.declared.scan.Scan.{Scan}
use Rattle.read_steps.specs.Steps.{◌>>=◌, in_turn}
use Rattle.read_steps.proofs.StepLemmas.{bind-ok}
use Rattle.vex_schedule.specs.Answers.{fault, given}
use Rattle.vex_schedule.specs.Statements.{only}
use Rattle.vex_schedule.specs.Values.{only_word, stay_in}
use Rattle.vex_schedule.specs.Schedule.{def_of, mode_of, stays_of, chans_of, Part, setup_in, passes_of}
use Rattle.vex_laws.specs.Causes.{SaysAgain}

-- what a `station` says: the type of it
abbrev Thing : {A : Type 0} → Option A → Type 0
Thing {A} o = A

abbrev pub Stay : Type 0
Stay = Thing (stay_in [])

-- what is behind each step of a def of `$FREQ`, of a ref, and of a scan
abbrev pub with_chans : ℕ → List Chan → Result Part SchedFault
with_chans rate chans = Ok (record { rate = rate; chans = chans })

abbrev pub with_rate : Item → ℕ → Result Part SchedFault
with_rate def rate = chans_of def >>= with_chans rate

abbrev pub mode_named : VexFile → Statement → List ℕ → Result Item SchedFault
mode_named file statement name = given (def_of file (codes "$MODE") name) UnknownRef statement.at

abbrev pub mode_said : VexFile → Statement → Result Item SchedFault
mode_said file statement = given (only_word statement.values) BadValue statement.at >>= mode_named file statement

abbrev pub setup_named : VexFile → Statement → List ℕ → Result Part SchedFault
setup_named file ref name = given (def_of file (codes "$FREQ") name) UnknownRef ref.at >>= setup_in

abbrev pub with_setup : Stay → Part → Result Pass SchedFault
with_setup stay setup = Ok (record { key = stay.key; from_us = stay.from_us; to_us = stay.to_us; samples = None; rate = setup.rate; chans = setup.chans })

abbrev pub with_passes : List ℕ → ℤ → List Pass → Result Scan SchedFault
with_passes name second passes = Ok (record { name = name; second = second; passes = passes })

abbrev pub with_stays : VexFile → List ℕ → ℤ → Item → List Stay → Result Scan SchedFault
with_stays file name second mode stays = passes_of file mode stays >>= with_passes name second

abbrev pub with_mode : VexFile → List ℕ → Item → ℤ → Item → Result Scan SchedFault
with_mode file name scan second mode = stays_of scan >>= with_stays file name second mode

abbrev pub with_second : VexFile → List ℕ → Item → ℤ → Result Scan SchedFault
with_second file name scan second = mode_of file scan >>= with_mode file name scan second

-- the one in the middle, and one behind the first
pub Contains-middle : {A : Type 0} (front : List A) (x : A) (behind : List A) → Contains (front ++ x ∷ behind) x
Contains-middle front x behind = Contains-append_right front (x ∷ behind) x (0, omega arith, refl)

pub Contains-behind : {A : Type 0} (x : A) (xs : List A) (y : A) → Contains xs y → Contains (x ∷ xs) y
Contains-behind x xs y there = Contains-append_right (x ∷ []) xs y there

pub Contains-first : {A : Type 0} (x : A) (xs : List A) → Contains (x ∷ xs) x
Contains-first x xs = Contains-middle [] x xs

pub Contains-one : {A : Type 0} (x y : A) → Contains (x ∷ []) y → x ≡ y
Contains-one x y (zero, less, is) = is
Contains-one x y (suc k, less, is) = absurd (omega (arith, less))

Contains-none : {A : Type 0} (y : A) → Contains [] y → ⊥
Contains-none y there = let less = there.1 in omega arith

-- what a step gave
pub only-ok : (at : ℕ) (xs : List Statement) (x : Statement) → only at xs ≡ Ok x → xs ≡ x ∷ []
unfolding only
only-ok at [] x is = absurd cc
only-ok at (y ∷ []) x is = cc
only-ok at (y ∷ z ∷ more) x is = absurd cc

module _ (P : SchedFault → Type 0) where
  -- each fault has a property, where each step's has
  pub bind-faults : {A B : Type 0} (r : Result A SchedFault) (f : A → Result B SchedFault) → IfErr r P → ((x : A) → r ≡ Ok x → IfErr (f x) P) → IfErr (r >>= f) P
  bind-faults (Ok x) f first second = second x refl
  bind-faults (Err e) f first second = first

  pub given-faults : {A : Type 0} (o : Option A) (kind : SchedKind) (at : ℕ) → (o ≡ None → P (fault kind at)) → IfErr (given o kind at) P
  given-faults (Some x) kind at lacks = tt
  given-faults None kind at lacks = lacks refl

  pub only-faults : (at : ℕ) (xs : List Statement) → (xs ≡ [] → P (fault MissingStatement at))
      → ((first second : Statement) (behind : List Statement) → xs ≡ first ∷ second ∷ behind → P (fault DoubleStatement second.at)) → IfErr (only at xs) P
  unfolding only
  only-faults at [] lacks twice = lacks refl
  only-faults at (x ∷ []) lacks twice = tt
  only-faults at (x ∷ y ∷ more) lacks twice = twice x y more refl

  pub in_turn-faults : {A B : Type 0} (read : List B → A → Result B SchedFault) (before : List B) (xs : List A)
      → ((front : List A) (x : A) (behind : List A) (so_far : List B) → xs ≡ front ++ x ∷ behind → in_turn read before front ≡ Ok so_far → IfErr (read so_far x) P)
      → IfErr (in_turn read before xs) P
  in_turn-faults read before [] each = tt
  in_turn-faults {A} {B} read before (x ∷ xs) each =
      bind-faults (read before x) (λ y. in_turn read (before ++ y ∷ []) xs)
      (each [] x xs before refl refl)
      (λ y is. in_turn-faults read (before ++ y ∷ []) xs
      (λ front z behind so_far cut told. each (x ∷ front) z behind so_far (ap (λ ys. x ∷ ys) cut) (ap (λ r. r >>= λ w. in_turn read (before ++ w ∷ []) front) is ∙ told)))

-- a thing that was read is there from the first or is read of one of those that were read
module _ {A B : Type 0} (read : List B → A → Result B SchedFault) where
  abbrev pub IsReadOf : List A → B → Type 0
  IsReadOf xs y = (x : A) × Contains xs x × ((before : List B) × (read before x ≡ Ok y))

  pub in_turn-source : (before : List B) (xs : List A) (all : List B) → in_turn read before xs ≡ Ok all → (y : B) → Contains all y → Contains before y ⊎ IsReadOf xs y
  in_turn-source before [] all told y among =
      let same : before ≡ all = cc in
      inl (subst (λ ys. Contains ys y) (sym same) among)
  in_turn-source before (x ∷ xs) all told y among =
      let first = bind-ok (read before x) (λ z. in_turn read (before ++ z ∷ []) xs) all told in
      ⊎_elim
      (λ there. ⊎_elim inl
      (λ last. let same : first.0 ≡ y = Contains-one first.0 y last in
      let P : B → Type 0 = λ z. read before x ≡ Ok z in
      inr (x, Contains-first x xs, (before, subst P same first.1)))
      (Contains-append_cases before (first.0 ∷ []) y there))
      (λ (behind : IsReadOf xs y). inr (behind.0, Contains-behind x xs behind.0 behind.1, behind.2))
      (in_turn-source (before ++ first.0 ∷ []) xs all first.2 y among)

-- a statement that says a name that was read before says it again
pub says_again : {A : Type 0} (step : List A → Statement → Result A SchedFault) (read : List (List (List ℕ)) → Option A) (name : A → List ℕ)
    → ((before : List A) (s : Statement) (y : A) → step before s ≡ Ok y → read s.values ≡ Some y)
    → (statements front : List Statement) (s : Statement) (behind : List Statement) (so_far : List A) (y : A)
    → statements ≡ front ++ s ∷ behind → in_turn step [] front ≡ Ok so_far → read s.values ≡ Some y
    → list_any (λ other. bytes_eq (name other) (name y)) so_far ≡ true → SaysAgain read name statements s
says_again {A} step read name reads statements front s behind so_far y cut told says there =
    let found = Any-from_list_any (λ other. bytes_eq (name other) (name y)) so_far there in
    ⊎_elim
    (λ none. absurd (Contains-none found.1 none))
    (λ (source : IsReadOf step front found.1). record {
      front = front;
      behind = behind;
      cut = cut;
      earlier = source.0;
      before = source.1;
      said = found.1;
      says = y;
      first = reads source.2.0 source.0 found.1 source.2.1;
      second = says;
      same = (bytes_eq-Decides (name found.1) (name y)).0 found.4;
    })
    (in_turn-source step [] front so_far told found.1 (found.0, found.2, found.3))
