-- Names that differ, and the names beside a list of things, as the statements under a key give them one after another.
use Rattle.std.proofs.Common.{◌≡◌, ◌≢◌, ℕ, ◌<◌, true, false, List, [], ◌∷◌, ◌++◌, length, map, get_or, filter, All, AllPairs, bytes_eq, is_some, None, Some, Result, Ok, cond, Bool, ◌||◌, arith, sym, ap, refl, ◌∙◌}
use Rattle.vex_reader.specs.declared.file.Statement.{Statement}
use Rattle.named_list.specs.Named.{named, names, put}
use Rattle.read_steps.specs.Steps.{in_turn}
use Rattle.read_steps.proofs.StepLemmas.{in_turn-read}
use Rattle.vex_schedule.specs.declared.fault.SchedFault.{SchedFault}
use Rattle.vex_schedule.specs.Statements.{has_key}
use Rattle.std.specs.List.{list_any}
use Rattle.std.proofs.lemmas.List.{map_push, get_or-map, length-map}
use Rattle.std.proofs.lemmas.List.Elements.{All-push}
use Rattle.std.proofs.lemmas.List.Folds.{list_any_at}
use Rattle.std.proofs.lemmas.List.Quantifiers.{all_pairs_push}
use Rattle.std.proofs.lemmas.Slice.Eq.{bytes_eq-Decides}

-- one that none of them has goes behind them
pub names-push : {A : Type 0} (name : A → List ℕ) (xs : List A) (x : A) → AllPairs (λ a b. a ≢ b) (map name xs)
    → list_any (λ other. bytes_eq (name other) (name x)) xs ≡ false → AllPairs (λ a b. a ≢ b) (map name (xs ++ x ∷ []))
names-push name xs x differ new =
    let differs : (k : ℕ) (d : List ℕ) → k < length (map name xs) → get_or (map name xs) k d ≢ name x =
    λ k d less same.
    let within : k < length xs = omega (arith, less, length-map xs name) in
    let here : name (get_or xs k x) ≡ name x = sym (get_or-map name xs k x d within) ∙ same in
    let equal : bytes_eq (name (get_or xs k x)) (name x) ≡ true = (bytes_eq-Decides (name (get_or xs k x)) (name x)).1 here in
    let found : list_any (λ other. bytes_eq (name other) (name x)) xs ≡ true = list_any_at (λ other. bytes_eq (name other) (name x)) xs k x within equal in
    absurd cc in
    rw (map_push name xs x) (all_pairs_push (λ a b. a ≢ b) (map name xs) (name x) differ differs)

-- a new name goes behind the others
pub names-put : {T : Type 0} (xs : List (List ℕ × T)) (name : List ℕ) (thing : T) → named xs name ≡ None → names (put xs name thing) ≡ names xs ++ name ∷ []
names-put [] name thing new = refl
names-put {T} (x ∷ xs) name thing new = by (bytes_eq x.0 name) refl (names-put xs name thing)
  where
    by : (b : Bool) → bytes_eq x.0 name ≡ b → (named xs name ≡ None → names (put xs name thing) ≡ names xs ++ name ∷ [])
        → names (cond b ((x.0, thing) ∷ xs) (x ∷ put xs name thing)) ≡ x.0 ∷ (names xs ++ name ∷ [])
    by true e rest = absurd (let there : named (x ∷ xs) name ≡ Some x.1 = λ i. cond (e i) (Some x.1) (named xs name) in cc)
    by false e rest =
        let behind : named xs name ≡ None = sym (λ i. cond (e i) (Some x.1) (named xs name)) ∙ new in
        ap (λ others. x.0 ∷ others) (rest behind)

any_name : {T : Type 0} (xs : List (List ℕ × T)) (name : List ℕ) → list_any (λ other. bytes_eq other name) (names xs) ≡ is_some (named xs name)
any_name [] name = refl
any_name (x ∷ xs) name = by (bytes_eq x.0 name) (any_name xs name)
  where
    by : (b : Bool) → list_any (λ other. bytes_eq other name) (names xs) ≡ is_some (named xs name)
        → (b || list_any (λ other. bytes_eq other name) (names xs)) ≡ is_some (cond b (Some x.1) (named xs name))
    by true rest = refl
    by false rest = rest

any_map : {A : Type 0} (name_of : A → List ℕ) (ones : List A) (name : List ℕ) → list_any (λ other. bytes_eq (name_of other) name) ones ≡ list_any (λ other. bytes_eq other name) (map name_of ones)
any_map name_of [] name = refl
any_map name_of (a ∷ ones) name = ap (λ b. bytes_eq (name_of a) name || b) (any_map name_of ones name)

-- whether one of some things has a name, where their names stand beside them
pub beside : {A T : Type 0} (name_of : A → List ℕ) (ones : List A) (xs : List (List ℕ × T)) (name : List ℕ) → names xs ≡ map name_of ones
    → list_any (λ other. bytes_eq (name_of other) name) ones ≡ is_some (named xs name)
beside name_of ones xs name same =
    any_map name_of ones name ∙ ap (list_any (λ other. bytes_eq other name)) (sym same) ∙ any_name xs name

-- and they stand beside them when one more is put there
pub beside-push : {A T : Type 0} (name_of : A → List ℕ) (ones : List A) (a : A) (xs ys : List (List ℕ × T)) (thing : T) → names xs ≡ map name_of ones → named xs (name_of a) ≡ None
    → ys ≡ put xs (name_of a) thing → names ys ≡ map name_of (ones ++ a ∷ [])
beside-push name_of ones a xs ys thing same new puts =
    ap names puts ∙ names-put xs (name_of a) thing new ∙ ap (λ front. front ++ name_of a ∷ []) same ∙ sym (map_push name_of ones a)

-- What the statements under a key gave so far: it and those that are left give all; the names differ, and stand beside.
abbrev pub AreGiven : {A T : Type 0} → (List A → Statement → Result A SchedFault) → (A → List ℕ) → (A → Type 0) → List ℕ → Result (List A) SchedFault
    → List (List ℕ × T) → List Statement → List A → Type 0
AreGiven read name_of IsSound key whole xs rest ones = record {
  so_far : in_turn read ones (filter (has_key key) rest) ≡ whole;
  sound : All IsSound ones;
  beside : names xs ≡ map name_of ones;
  distinct : AllPairs (λ x y. x ≢ y) (map name_of ones);
}

-- and so behind one more
pub given-more : {A T : Type 0} (read : List A → Statement → Result A SchedFault) (name_of : A → List ℕ) (IsSound : A → Type 0) (key : List ℕ) (whole : Result (List A) SchedFault)
    (xs ys : List (List ℕ × T)) (thing : T) (rest behind : List Statement) (s : Statement) (ones more : List A) (a : A)
    → AreGiven read name_of IsSound key whole xs rest ones → filter (has_key key) rest ≡ s ∷ filter (has_key key) behind → read ones s ≡ Ok a → IsSound a
    → named xs (name_of a) ≡ None → ys ≡ put xs (name_of a) thing → more ≡ ones ++ a ∷ [] → AreGiven read name_of IsSound key whole ys behind more
given-more read name_of IsSound key whole xs ys thing rest behind s ones more a given is one sound new puts pushed = record {
  so_far = in_turn-read read ones more (filter (has_key key) rest) (filter (has_key key) behind) s a whole is one pushed given.so_far;
  sound = rw pushed (All-push IsSound ones a given.sound sound);
  beside = rw pushed (beside-push name_of ones a xs ys thing given.beside new puts);
  distinct = rw pushed (names-push name_of ones a given.distinct (beside name_of ones xs (name_of a) given.beside ∙ ap is_some new));
}
