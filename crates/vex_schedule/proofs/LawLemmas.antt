-- The steps of a schedule and the relation between a file and its scans.
use Rattle.std.proofs.Common.{◌≡◌, ◌≢◌, ◌↔◌, ℕ, ℤ, ◌<◌, Bool, true, false, cond, not, List, [], ◌∷◌, ◌++◌, length, map, take, filter, get_or, Some, None, Ok, Err, Result, AllPairs, bytes_eq, arith, refl, sym, ap, ◌∙◌, append_assoc, length-append, subst}
use Rattle.std.specs.Prelude.{codes}
use Rattle.std.specs.List.{AllZip, list_any}
use Rattle.std.proofs.lemmas.List.{append-nil, get_or-map, get_or_append_left, length-map}
use Rattle.std.proofs.Math.Seq.{get_or-append_seam}
use Rattle.std.proofs.lemmas.List.Folds.{Any-from_list_any}
use Rattle.std.proofs.lemmas.Slice.Eq.{bytes_eq-Decides}
use Rattle.vex_reader.specs.declared.file.Item.{Item}
use Rattle.vex_reader.specs.declared.file.Statement.{Statement}
use Rattle.vex_reader.specs.declared.file.VexFile.{VexFile}
use Rattle.named_list.specs.Named.{named}
use Rattle.vex_schedule.specs.declared.fault.SchedKind.TheVariants.{NoSched, DoubleStatement, UnknownRef, BadValue, StationTwice, BadRange}
use Rattle.vex_schedule.specs.declared.fault.SchedFault.{SchedFault}
use Rattle.scan_list.specs.declared.scan.Chan.{Chan}
use Rattle.scan_list.specs.declared.scan.Pass.{Pass}
use Rattle.scan_list.specs.declared.scan.Scan.{Scan}
use Rattle.vex_schedule.specs.declared.stay.Stay.{Stay}
use Rattle.read_steps.specs.Steps.{◌>>=◌, in_turn}
use Rattle.read_steps.proofs.StepLemmas.{bind-ok, bind-to}
use Rattle.vex_schedule.proofs.Given.{given-ok, given-to}
use Rattle.vex_schedule.specs.Answers.{fault, given}
use Rattle.vex_schedule.specs.Statements.{has_key, only, is_setup}
use Rattle.vex_schedule.specs.Values.{is_name, word_at, only_word, offset_at, start_in, rate_in, stay_in, chan_in}
use Rattle.vex_schedule.specs.Schedule.{is_in_order, def_of, start_of, mode_of, stay_of, stays_of, setup_rate, chan_of, chans_of, Part, setup_in, setup_at, setup_of, pass_of, passes_of, scan_of, scans_of, schedule_of}
use Rattle.vex_schedule.specs.Laws.{IsStart, IsMode, IsStayOf, IsSetupOf, IsPassOf, IsScanOf, AreScansOf, LaterValuesDoNotCount}
use Rattle.vex_schedule.proofs.Names.{names-push}
use Rattle.vex_schedule.proofs.Reading.{stay_of-new, chan_of-new}

only-from : (at : ℕ) (xs : List Statement) (x : Statement) → only at xs ≡ Ok x → xs ≡ x ∷ []
unfolding only
only-from at [] x is = absurd cc
only-from at (y ∷ []) x is = cc
only-from at (y ∷ z ∷ more) x is = absurd cc

only-to : (at : ℕ) (xs : List Statement) (x : Statement) → xs ≡ x ∷ [] → only at xs ≡ Ok x
unfolding only
only-to at xs x is = rw is refl

-- what each thing in its turn gives, one by one
abbrev Turns : {A B : Type 0} → (List B → A → Result B SchedFault) → List B → List A → List B → Type 0
Turns read before [] [] = Unit {0}
Turns read before [] (y ∷ ys) = ⊥
Turns read before (x ∷ xs) [] = ⊥
Turns read before (x ∷ xs) (y ∷ ys) = (read before x ≡ Ok y) × Turns read (before ++ y ∷ []) xs ys

turns-from : {A B : Type 0} (read : List B → A → Result B SchedFault) (before : List B) (xs : List A) (all : List B) → in_turn read before xs ≡ Ok all
    → (ys : List B) × (all ≡ before ++ ys) × Turns read before xs ys
turns-from read before [] all is = ([], (let same : before ≡ all = cc in sym same ∙ sym (append-nil before)), tt)
turns-from {A} {B} read before (x ∷ xs) all is =
    let first = bind-ok (read before x) (λ y. in_turn read (before ++ y ∷ []) xs) all is in
    let behind = turns-from read (before ++ first.0 ∷ []) xs all first.2 in
    (first.0 ∷ behind.0, behind.1 ∙ append_assoc before (first.0 ∷ []) behind.0, (first.1, behind.2))

turns-to : {A B : Type 0} (read : List B → A → Result B SchedFault) (before : List B) (xs : List A) (ys : List B) → Turns read before xs ys → in_turn read before xs ≡ Ok (before ++ ys)
turns-to read before [] [] t = ap Ok (sym (append-nil before))
turns-to read before [] (y ∷ ys) t = absurd t
turns-to read before (x ∷ xs) [] t = absurd t
turns-to read before (x ∷ xs) (y ∷ ys) t =
    bind-to (read before x) (λ z. in_turn read (before ++ z ∷ []) xs) y (before ++ y ∷ ys) t.0
    (turns-to read (before ++ y ∷ []) xs ys t.1 ∙ ap Ok (append_assoc before (y ∷ []) ys))

-- where what was read before does not count
module _ {A B : Type 0} (read : A → Result B SchedFault) (R : A → B → Type 0) where
  plain-from : ((x : A) (y : B) → read x ≡ Ok y → R x y) → (before : List B) (xs : List A) (ys : List B) → Turns (λ _ x. read x) before xs ys → AllZip R xs ys
  plain-from is before [] [] t = tt
  plain-from is before [] (y ∷ ys) t = absurd t
  plain-from is before (x ∷ xs) [] t = absurd t
  plain-from is before (x ∷ xs) (y ∷ ys) t = (is x y t.0, plain-from is (before ++ y ∷ []) xs ys t.1)

  plain-to : ((x : A) (y : B) → R x y → read x ≡ Ok y) → (before : List B) (xs : List A) (ys : List B) → AllZip R xs ys → Turns (λ _ x. read x) before xs ys
  plain-to is before [] [] z = tt
  plain-to is before [] (y ∷ ys) z = absurd z
  plain-to is before (x ∷ xs) [] z = absurd z
  plain-to is before (x ∷ xs) (y ∷ ys) z = (is x y z.0, plain-to is (before ++ y ∷ []) xs ys z.1)

-- where none may have the name of one that was read before
module _ {A B : Type 0} (read : List B → A → Result B SchedFault) (R : A → B → Type 0) (name : B → List ℕ) where
  abbrev IsNew : List B → B → Type 0
  IsNew before y = list_any (λ other. bytes_eq (name other) (name y)) before ≡ false

  differ-from : ((before : List B) (x : A) (y : B) → read before x ≡ Ok y → R x y × IsNew before y) → (before : List B) (xs : List A) (ys : List B)
      → AllPairs (λ a b. a ≢ b) (map name before) → Turns read before xs ys → AllZip R xs ys × AllPairs (λ a b. a ≢ b) (map name (before ++ ys))
  differ-from is before [] [] differ t = (tt, rw (append-nil before) differ)
  differ-from is before [] (y ∷ ys) differ t = absurd t
  differ-from is before (x ∷ xs) [] differ t = absurd t
  differ-from is before (x ∷ xs) (y ∷ ys) differ t =
      let one = is before x y t.0 in
      let behind = differ-from is (before ++ y ∷ []) xs ys (names-push name before y differ one.1) t.1 in
      let P : List B → Type 0 = λ all. AllPairs (λ a b. a ≢ b) (map name all) in
      ((one.0, behind.0), subst P (append_assoc before (y ∷ []) ys) behind.1)

  new-from : (before ys : List B) (y : B) → AllPairs (λ a b. a ≢ b) (map name (before ++ y ∷ ys)) → IsNew before y
  new-from before ys y differ = by (list_any (λ other. bytes_eq (name other) (name y)) before) refl
    where
      by : (b : Bool) → list_any (λ other. bytes_eq (name other) (name y)) before ≡ b → b ≡ false
      by false e = refl
      by true e =
          let found = Any-from_list_any (λ other. bytes_eq (name other) (name y)) before e in
          let same : name found.1 ≡ name y = (bytes_eq-Decides (name found.1) (name y)).0 found.4 in
          let all = before ++ y ∷ ys in
          let many = length-append before (y ∷ ys) in
          let long : found.0 < length all = omega (arith, many, found.2) in
          let far : length before < length all = omega (arith, many) in
          let here : get_or (map name all) found.0 (name y) ≡ name found.1 = get_or-map name all found.0 found.1 (name y) long ∙ ap name (get_or_append_left before (y ∷ ys) found.1 found.0 found.2 ∙ found.3) in
          let there : get_or (map name all) (length before) (name y) ≡ name y = get_or-map name all (length before) y (name y) far ∙ ap name (get_or-append_seam before y ys y) in
          absurd (differ found.0 (length before) (name y) found.2 (let lm = length-map all name in omega (arith, lm, far)) (here ∙ same ∙ sym there))

  differ-to : ((before : List B) (x : A) (y : B) → R x y → IsNew before y → read before x ≡ Ok y) → (before : List B) (xs : List A) (ys : List B)
      → AllZip R xs ys → AllPairs (λ a b. a ≢ b) (map name (before ++ ys)) → Turns read before xs ys
  differ-to is before [] [] z differ = tt
  differ-to is before [] (y ∷ ys) z differ = absurd z
  differ-to is before (x ∷ xs) [] z differ = absurd z
  differ-to is before (x ∷ xs) (y ∷ ys) z differ =
      let P : List B → Type 0 = λ all. AllPairs (λ a b. a ≢ b) (map name all) in
      (is before x y z.0 (new-from before ys y differ), differ-to is (before ++ y ∷ []) xs ys z.1 (subst P (sym (append_assoc before (y ∷ []) ys)) differ))

no_pairs : {B : Type 0} (name : B → List ℕ) → AllPairs (λ a b. a ≢ b) (map name [])
no_pairs name = λ i j d less within. absurd (omega (arith, less, within))

-- both, from the first on
module _ {A B : Type 0} (R : A → B → Type 0) (xs : List A) (ys : List B) where
  each-from : (read : A → Result B SchedFault) → ((x : A) (y : B) → read x ≡ Ok y → R x y) → in_turn (λ _ x. read x) [] xs ≡ Ok ys → AllZip R xs ys
  each-from read is told =
      let t = turns-from (λ _ x. read x) [] xs ys told in
      let P : List B → Type 0 = λ zs. AllZip R xs zs in
      subst P (sym t.1) (plain-from read R is [] xs t.0 t.2)

  each-to : (read : A → Result B SchedFault) → ((x : A) (y : B) → R x y → read x ≡ Ok y) → AllZip R xs ys → in_turn (λ _ x. read x) [] xs ≡ Ok ys
  each-to read is z = turns-to (λ _ x. read x) [] xs ys (plain-to read R is [] xs ys z)

  apart-from : (read : List B → A → Result B SchedFault) (name : B → List ℕ) → ((before : List B) (x : A) (y : B) → read before x ≡ Ok y → R x y × IsNew read R name before y)
      → in_turn read [] xs ≡ Ok ys → AllZip R xs ys × AllPairs (λ a b. a ≢ b) (map name ys)
  apart-from read name is told =
      let t = turns-from read [] xs ys told in
      let P : List B → Type 0 = λ zs. AllZip R xs zs × AllPairs (λ a b. a ≢ b) (map name zs) in
      subst P (sym t.1) (differ-from read R name is [] xs t.0 (no_pairs name) t.2)

  apart-to : (read : List B → A → Result B SchedFault) (name : B → List ℕ) → ((before : List B) (x : A) (y : B) → R x y → IsNew read R name before y → read before x ≡ Ok y)
      → AllZip R xs ys → AllPairs (λ a b. a ≢ b) (map name ys) → in_turn read [] xs ≡ Ok ys
  apart-to read name is z differ = turns-to read [] xs ys (differ-to read R name is [] xs ys z differ)

start-from : (scan : Item) (second : ℤ) → start_of scan ≡ Ok second → IsStart scan second
unfolding start_of
start-from scan second is =
    let s = bind-ok (only scan.at (filter (has_key (codes "start")) scan.statements)) (λ st. given (start_in st.values) BadValue st.at) second is in
    record { statement = s.0; one = only-from scan.at (filter (has_key (codes "start")) scan.statements) s.0 s.1; says = given-ok (start_in s.0.values) BadValue s.0.at second s.2 }

start-to : (scan : Item) (second : ℤ) → IsStart scan second → start_of scan ≡ Ok second
unfolding start_of
start-to scan second h =
    bind-to (only scan.at (filter (has_key (codes "start")) scan.statements)) (λ st. given (start_in st.values) BadValue st.at) h.statement second
    (only-to scan.at (filter (has_key (codes "start")) scan.statements) h.statement h.one) (given-to (start_in h.statement.values) BadValue h.statement.at second h.says)

module _ (file : VexFile) where
  mode_name : Statement → Result Item SchedFault
  mode_name st = given (only_word st.values) BadValue st.at >>= λ name. given (def_of file (codes "$MODE") name) UnknownRef st.at

  mode-from : (scan mode : Item) → mode_of file scan ≡ Ok mode → IsMode file scan mode
  unfolding mode_of mode_name
  mode-from scan mode is =
      let s = bind-ok (only scan.at (filter (has_key (codes "mode")) scan.statements)) mode_name mode is in
      let n = bind-ok (given (only_word s.0.values) BadValue s.0.at) (λ name. given (def_of file (codes "$MODE") name) UnknownRef s.0.at) mode s.2 in
      record {
        statement = s.0;
        one = only-from scan.at (filter (has_key (codes "mode")) scan.statements) s.0 s.1;
        name = n.0;
        says = given-ok (only_word s.0.values) BadValue s.0.at n.0 n.1;
        there = given-ok (def_of file (codes "$MODE") n.0) UnknownRef s.0.at mode n.2;
      }

  mode-to : (scan mode : Item) → IsMode file scan mode → mode_of file scan ≡ Ok mode
  unfolding mode_of mode_name
  mode-to scan mode h =
      bind-to (only scan.at (filter (has_key (codes "mode")) scan.statements)) mode_name h.statement mode
      (only-to scan.at (filter (has_key (codes "mode")) scan.statements) h.statement h.one)
      (bind-to (given (only_word h.statement.values) BadValue h.statement.at) (λ name. given (def_of file (codes "$MODE") name) UnknownRef h.statement.at) h.name mode
      (given-to (only_word h.statement.values) BadValue h.statement.at h.name h.says) (given-to (def_of file (codes "$MODE") h.name) UnknownRef h.statement.at mode h.there))

stay-from : (before : List Stay) (s : Statement) (stay : Stay) → stay_of before s ≡ Ok stay → IsStayOf s stay × (list_any (λ (other : Stay). bytes_eq other.key stay.key) before ≡ false)
unfolding stay_of
stay-from before s stay is =
    let b = bind-ok (given (stay_in s.values) BadValue s.at)
    (λ st. cond (list_any (λ (other : Stay). bytes_eq other.key st.key) before) (Err (fault StationTwice s.at)) (cond (not (is_in_order st)) (Err (fault BadRange s.at)) (Ok st))) stay is in
    by b.0 (given-ok (stay_in s.values) BadValue s.at b.0 b.1) (list_any (λ (other : Stay). bytes_eq other.key b.0.key) before) (is_in_order b.0) refl refl b.2
  where
    by : (st : Stay) → stay_in s.values ≡ Some st → (t o : Bool) → list_any (λ (other : Stay). bytes_eq other.key st.key) before ≡ t → is_in_order st ≡ o
        → cond t (Err (fault StationTwice s.at)) (cond (not o) (Err (fault BadRange s.at)) (Ok st)) ≡ Ok stay
        → IsStayOf s stay × (list_any (λ (other : Stay). bytes_eq other.key stay.key) before ≡ false)
    by st says true o there order is = absurd cc
    by st says false false new order is = absurd cc
    by st says false true new order is =
        let same : st ≡ stay = cc in
        let P : Stay → Type 0 = λ z. IsStayOf s z × (list_any (λ (other : Stay). bytes_eq other.key z.key) before ≡ false) in
        subst P same (record { says = says; order = order }, new)

chan-from : (before : List Chan) (s : Statement) (chan : Chan) → chan_of before s ≡ Ok chan → (chan_in s.values ≡ Some chan) × (list_any (λ (other : Chan). bytes_eq other.id chan.id) before ≡ false)
unfolding chan_of
chan-from before s chan is =
    let b = bind-ok (given (chan_in s.values) BadValue s.at)
    (λ c. cond (list_any (λ (other : Chan). bytes_eq other.id c.id) before) (Err (fault DoubleStatement s.at)) (Ok c)) chan is in
    by b.0 (given-ok (chan_in s.values) BadValue s.at b.0 b.1) (list_any (λ (other : Chan). bytes_eq other.id b.0.id) before) refl b.2
  where
    by : (c : Chan) → chan_in s.values ≡ Some c → (t : Bool) → list_any (λ (other : Chan). bytes_eq other.id c.id) before ≡ t
        → cond t (Err (fault DoubleStatement s.at)) (Ok c) ≡ Ok chan → (chan_in s.values ≡ Some chan) × (list_any (λ (other : Chan). bytes_eq other.id chan.id) before ≡ false)
    by c says true there is = absurd cc
    by c says false new is =
        let same : c ≡ chan = cc in
        let P : Chan → Type 0 = λ z. (chan_in s.values ≡ Some z) × (list_any (λ (other : Chan). bytes_eq other.id z.id) before ≡ false) in
        subst P same (says, new)

abbrev IsChanOf : Statement → Chan → Type 0
IsChanOf statement chan = chan_in statement.values ≡ Some chan

setup-from : (def : Item) (part : Part) → setup_in def ≡ Ok part → IsSetupOf def part.rate part.chans
unfolding setup_in setup_rate chans_of
setup-from def part is =
    let rates = filter (has_key (codes "sample_rate")) def.statements in
    let defs = filter (has_key (codes "chan_def")) def.statements in
    let r = bind-ok (setup_rate def) (λ rate. chans_of def >>= λ chans. Ok (record { rate = rate; chans = chans })) part is in
    let k = bind-ok (chans_of def) (λ chans. Ok (record { rate = r.0; chans = chans })) part r.2 in
    let s = bind-ok (only def.at rates) (λ st. given (rate_in st.values) BadValue st.at) r.0 r.1 in
    let z = apart-from IsChanOf defs k.0 chan_of (λ chan. chan.id) chan-from k.1 in
    let made : Part = record { rate = r.0; chans = k.0 } in
    let same : made ≡ part = cc in
    let P : Part → Type 0 = λ p. IsSetupOf def p.rate p.chans in
    subst P same (record {
      statement = s.0;
      one = only-from def.at rates s.0 s.1;
      says = given-ok (rate_in s.0.values) BadValue s.0.at r.0 s.2;
      each = z.0;
      differ = z.1;
    })

setup-to : (def : Item) (rate : ℕ) (chans : List Chan) → IsSetupOf def rate chans → setup_in def ≡ Ok (record { rate = rate; chans = chans })
unfolding setup_in setup_rate chans_of
setup-to def rate chans h =
    let rates = filter (has_key (codes "sample_rate")) def.statements in
    let defs = filter (has_key (codes "chan_def")) def.statements in
    bind-to (setup_rate def) (λ rate. chans_of def >>= λ chans. Ok (record { rate = rate; chans = chans })) rate (record { rate = rate; chans = chans })
    (bind-to (only def.at rates) (λ st. given (rate_in st.values) BadValue st.at) h.statement rate (only-to def.at rates h.statement h.one) (given-to (rate_in h.statement.values) BadValue h.statement.at rate h.says))
    (bind-to (chans_of def) (λ chans. Ok (record { rate = rate; chans = chans })) chans (record { rate = rate; chans = chans })
    (apart-to IsChanOf defs chans chan_of (λ chan. chan.id) chan_of-new h.each h.differ) refl)

module _ (file : VexFile) where
  module _ (mode : Item) where
    pass-from : (stay : Stay) (pass : Pass) → pass_of file mode stay ≡ Ok pass → IsPassOf file mode stay pass
    unfolding pass_of setup_of setup_at
    pass-from stay pass is =
        let refs = filter (is_setup stay.key) mode.statements in
        let made : Part → Pass = λ (setup : Part). record { key = stay.key; from_us = stay.from_us; to_us = stay.to_us; samples = None; rate = setup.rate; chans = setup.chans } in
        let p = bind-ok (setup_of file mode stay.key) (λ setup. Ok (record { key = stay.key; from_us = stay.from_us; to_us = stay.to_us; samples = None; rate = setup.rate; chans = setup.chans })) pass is in
        let r = bind-ok (only mode.at refs) (setup_at file) p.0 p.1 in
        let n = bind-ok (given (word_at r.0.values 0) BadValue r.0.at) (λ name. given (def_of file (codes "$FREQ") name) UnknownRef r.0.at >>= setup_in) p.0 r.2 in
        let d = bind-ok (given (def_of file (codes "$FREQ") n.0) UnknownRef r.0.at) setup_in p.0 n.2 in
        let same : made p.0 ≡ pass = cc in
        let P : Pass → Type 0 = λ z. IsPassOf file mode stay z in
        subst P same (record {
          ref = r.0;
          one = only-from mode.at refs r.0 r.1;
          name = n.0;
          says = given-ok (word_at r.0.values 0) BadValue r.0.at n.0 n.1;
          def = d.0;
          there = given-ok (def_of file (codes "$FREQ") n.0) UnknownRef r.0.at d.0 d.1;
          setup = setup-from d.0 p.0 d.2;
          station = refl;
          starts = refl;
          stops = refl;
          samples = refl;
        })

    pass-to : (stay : Stay) (pass : Pass) → IsPassOf file mode stay pass → pass_of file mode stay ≡ Ok pass
    unfolding pass_of setup_of setup_at
    pass-to stay pass h =
        let refs = filter (is_setup stay.key) mode.statements in
        let part : Part = record { rate = pass.rate; chans = pass.chans } in
        let made : Pass = record { key = stay.key; from_us = stay.from_us; to_us = stay.to_us; samples = None; rate = pass.rate; chans = pass.chans } in
        let same : made ≡ pass = λ i. record { key = sym h.station i; from_us = sym h.starts i; to_us = sym h.stops i; samples = sym h.samples i; rate = pass.rate; chans = pass.chans } in
        let P : Pass → Type 0 = λ z. pass_of file mode stay ≡ Ok z in
        subst P same
        (bind-to (setup_of file mode stay.key) (λ setup. Ok (record { key = stay.key; from_us = stay.from_us; to_us = stay.to_us; samples = None; rate = setup.rate; chans = setup.chans })) part made
        (bind-to (only mode.at refs) (setup_at file) h.ref part (only-to mode.at refs h.ref h.one)
        (bind-to (given (word_at h.ref.values 0) BadValue h.ref.at) (λ name. given (def_of file (codes "$FREQ") name) UnknownRef h.ref.at >>= setup_in) h.name part (given-to (word_at h.ref.values 0) BadValue h.ref.at h.name h.says)
        (bind-to (given (def_of file (codes "$FREQ") h.name) UnknownRef h.ref.at) setup_in h.def part (given-to (def_of file (codes "$FREQ") h.name) UnknownRef h.ref.at h.def h.there)
        (setup-to h.def pass.rate pass.chans h.setup)))) refl)

  first_step : List ℕ → Item → Result ℤ SchedFault
  first_step name scan = cond (is_name name) (start_of scan) (Err (fault BadValue scan.at))

  first-from : (name : List ℕ) (scan : Item) (second : ℤ) → first_step name scan ≡ Ok second → (is_name name ≡ true) × (start_of scan ≡ Ok second)
  unfolding first_step
  first-from name scan second is = by (is_name name) refl is
    where
      by : (b : Bool) → is_name name ≡ b → cond b (start_of scan) (Err (fault BadValue scan.at)) ≡ Ok second → (is_name name ≡ true) × (start_of scan ≡ Ok second)
      by true e is = (e, is)
      by false e is = absurd cc

  first-to : (name : List ℕ) (scan : Item) (second : ℤ) → is_name name ≡ true → start_of scan ≡ Ok second → first_step name scan ≡ Ok second
  unfolding first_step
  first-to name scan second short is = rw short is

  scan-from : (entry : List ℕ × Item) (scan : Scan) → scan_of file entry.0 entry.1 ≡ Ok scan → IsScanOf file entry scan
  unfolding scan_of stays_of passes_of first_step
  scan-from entry scan is =
      let stations = filter (has_key (codes "station")) entry.1.statements in
      let f = bind-ok (first_step entry.0 entry.1)
      (λ second. mode_of file entry.1 >>= λ mode. stays_of entry.1 >>= λ stays. passes_of file mode stays >>= λ passes. Ok (record { name = entry.0; second = second; passes = passes })) scan is in
      let m = bind-ok (mode_of file entry.1) (λ mode. stays_of entry.1 >>= λ stays. passes_of file mode stays >>= λ passes. Ok (record { name = entry.0; second = f.0; passes = passes })) scan f.2 in
      let s = bind-ok (stays_of entry.1) (λ stays. passes_of file m.0 stays >>= λ passes. Ok (record { name = entry.0; second = f.0; passes = passes })) scan m.2 in
      let p = bind-ok (passes_of file m.0 s.0) (λ passes. Ok (record { name = entry.0; second = f.0; passes = passes })) scan s.2 in
      let first = first-from entry.0 entry.1 f.0 f.1 in
      let z = apart-from IsStayOf stations s.0 stay_of (λ stay. stay.key) stay-from s.1 in
      let made : Scan = record { name = entry.0; second = f.0; passes = p.0 } in
      let same : made ≡ scan = cc in
      let P : Scan → Type 0 = λ all. IsScanOf file entry all in
      subst P same (record {
        name = refl;
        short = first.0;
        start = start-from entry.1 f.0 first.1;
        mode = m.0;
        is_mode = mode-from file entry.1 m.0 m.1;
        stays = s.0;
        each = z.0;
        differ = z.1;
        parts = each-from (IsPassOf file m.0) s.0 p.0 (pass_of file m.0) (pass-from m.0) p.1;
      })

  scan-to : (entry : List ℕ × Item) (scan : Scan) → IsScanOf file entry scan → scan_of file entry.0 entry.1 ≡ Ok scan
  unfolding scan_of stays_of passes_of first_step
  scan-to entry scan h =
      let stations = filter (has_key (codes "station")) entry.1.statements in
      let made : Scan = record { name = entry.0; second = scan.second; passes = scan.passes } in
      let same : made ≡ scan = λ i. record { name = sym h.name i; second = scan.second; passes = scan.passes } in
      let P : Scan → Type 0 = λ all. scan_of file entry.0 entry.1 ≡ Ok all in
      subst P same
      (bind-to (first_step entry.0 entry.1)
      (λ second. mode_of file entry.1 >>= λ mode. stays_of entry.1 >>= λ stays. passes_of file mode stays >>= λ passes. Ok (record { name = entry.0; second = second; passes = passes })) scan.second made
      (first-to entry.0 entry.1 scan.second h.short (start-to entry.1 scan.second h.start))
      (bind-to (mode_of file entry.1) (λ mode. stays_of entry.1 >>= λ stays. passes_of file mode stays >>= λ passes. Ok (record { name = entry.0; second = scan.second; passes = passes })) h.mode made
      (mode-to file entry.1 h.mode h.is_mode)
      (bind-to (stays_of entry.1) (λ stays. passes_of file h.mode stays >>= λ passes. Ok (record { name = entry.0; second = scan.second; passes = passes })) h.stays made
      (apart-to IsStayOf stations h.stays stay_of (λ stay. stay.key) (λ before s stay is new. stay_of-new before s stay is.says new is.order) h.each h.differ)
      (bind-to (passes_of file h.mode h.stays) (λ passes. Ok (record { name = entry.0; second = scan.second; passes = passes })) scan.passes made
      (each-to (IsPassOf file h.mode) h.stays scan.passes (pass_of file h.mode) (pass-to h.mode) h.parts) refl))))

  pub scans-by_relation : (scans : List Scan) → (schedule_of file ≡ Ok scans) ↔ AreScansOf file scans
  unfolding schedule_of scans_of
  scans-by_relation scans = (
    λ is.
        let b = bind-ok (given (named file.blocks (codes "$SCHED")) NoSched 0) (λ sched. scans_of file sched.scans) scans is in
        record {
          block = b.0;
          there = given-ok (named file.blocks (codes "$SCHED")) NoSched 0 b.0 b.1;
          each = each-from (IsScanOf file) b.0.scans scans (λ entry. scan_of file entry.0 entry.1) scan-from b.2;
        },
    λ h. bind-to (given (named file.blocks (codes "$SCHED")) NoSched 0) (λ sched. scans_of file sched.scans) h.block scans
        (given-to (named file.blocks (codes "$SCHED")) NoSched 0 h.block h.there)
        (each-to (IsScanOf file) h.block.scans scans (λ entry. scan_of file entry.0 entry.1) scan-to h.each),
  )

first_three : (values : List (List (List ℕ))) → stay_in values ≡ stay_in (take 3 values)
unfolding stay_in word_at offset_at
first_three [] = refl
first_three (a ∷ []) = refl
first_three (a ∷ b ∷ []) = refl
first_three (a ∷ b ∷ c ∷ more) = refl

pub later_values : (statement other : Statement) → LaterValuesDoNotCount statement other
unfolding stay_of
later_values statement other place same before =
    let says : stay_in statement.values ≡ stay_in other.values = first_three statement.values ∙ ap stay_in same ∙ sym (first_three other.values) in
    rw (says, place) refl
