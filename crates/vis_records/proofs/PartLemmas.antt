-- Parts of a text, one after another.
use Rattle.std.proofs.Common.{◌≡◌, ◌≤◌, ◌<◌, ◌+◌, ℕ, Bool, true, suc, List, [], ◌∷◌, ◌++◌, length, take, drop, get_or, map, subst, ap, sym, refl, ◌∙◌, arith, drop-cons}
use Rattle.std.specs.List.{flat_map, range_with_len}
use Rattle.std.proofs.lemmas.List.{take_more, take_all, take-append-drop, map-append}
use Rattle.std.proofs.lemmas.List.FromFn.{get_or-range_with_len, length-range_with_len}
use Rattle.vis_records.specs.declared.fault.VisKind.{VisKind}
use Rattle.vis_records.specs.declared.fault.Stop.{Stop}
use Rattle.vis_records.specs.Parts.{Part, Took, Stops, chain, checked, in_turn, one_more, StopsBy}

-- a part that was read, and what comes behind it
pub took-later : {A B : Type 0} {part : Part A} {a : A} {rest : List ℕ} {whole : Part B} (behind : A → List ℕ → Part B)
    → part ≡ Took a rest
    → behind a rest ≡ whole
    → chain part behind ≡ whole
unfolding chain
took-later behind first second = ap (λ part. chain part behind) first ∙ second

-- a rule that is broken in the first part
pub stops-first : {A B : Type 0} {part : Part A} {stop : Stop} (behind : A → List ℕ → Part B)
    → StopsBy part stop
    → StopsBy (chain part behind) stop
unfolding chain
stops-first behind fact = record { stops = λ other. ap (λ part. chain part behind) (fact.stops other) }

-- a rule that is broken behind a part that was read
pub stops-later : {A B : Type 0} {part : Part A} {a : A} {rest : List ℕ} {stop : Stop} (behind : A → List ℕ → Part B)
    → part ≡ Took a rest
    → StopsBy (behind a rest) stop
    → StopsBy (chain part behind) stop
unfolding chain
stops-later behind first fact = record {
  stops = λ other. ap (λ part. chain part behind) first ∙ fact.stops other;
}

pub checked-ok : {A : Type 0} {ok : Bool} {a : A} {rest : List ℕ} (kind : VisKind) (left : ℕ)
    → ok ≡ true
    → checked ok a rest kind left ≡ Took a rest
unfolding checked
checked-ok kind left is = rw is refl

-- things in two lists
turns-append : {S Y : Type 0} (step : S → Y → List ℕ → Part S) (ys : List Y) (behind : S → List ℕ → Part S) (xs : List Y)
    (part : Part S)
    → ((s : S) (text : List ℕ) → in_turn step s (xs ++ ys) text ≡ chain (in_turn step s xs text) behind)
    → chain part (λ s rest. in_turn step s (xs ++ ys) rest) ≡ chain (chain part (λ s rest. in_turn step s xs rest)) behind
unfolding chain
turns-append step ys behind xs (Took s rest) before = before s rest
turns-append step ys behind xs (Stops kind left) before = refl

pub in_turn-append : {S Y : Type 0} (step : S → Y → List ℕ → Part S) (xs ys : List Y) (s : S) (text : List ℕ)
    → in_turn step s (xs ++ ys) text ≡ chain (in_turn step s xs text) (λ s' rest. in_turn step s' ys rest)
unfolding in_turn chain
in_turn-append step [] ys s text = refl
in_turn-append step (x ∷ xs) ys s text =
    turns-append step ys (λ s' rest. in_turn step s' ys rest) xs (step s x text) (λ s' rest. in_turn-append step xs ys s' rest)

pub in_turn-cons : {S Y : Type 0} (step : S → Y → List ℕ → Part S) (y : Y) (ys : List Y) (s : S) (text : List ℕ)
    → in_turn step s (y ∷ ys) text ≡ chain (step s y text) (λ s' rest. in_turn step s' ys rest)
unfolding in_turn
in_turn-cons step y ys s text = refl

pub in_turn-none : {S Y : Type 0} (step : S → Y → List ℕ → Part S) (s : S) (text : List ℕ)
    → in_turn step s [] text ≡ Took s text
unfolding in_turn
in_turn-none step s text = refl

-- the first things, and one more
pub in_turn-next : {S Y : Type 0} {s s' : S} {t t' : List ℕ} (step : S → Y → List ℕ → Part S) (s₀ : S) (t₀ : List ℕ) (ys : List Y) (i : ℕ) (y : Y)
    → i < length ys
    → get_or ys i y ≡ y
    → in_turn step s₀ (take i ys) t₀ ≡ Took s t
    → step s y t ≡ Took s' t'
    → in_turn step s₀ (take (i + 1) ys) t₀ ≡ Took s' t'
in_turn-next {s = s} {s' = s'} {t = t} {t' = t'} step s₀ t₀ ys i y within is before one =
    let all : take (i + 1) ys ≡ take i ys ++ y ∷ [] = take_more ys i y within ∙ ap (λ (x : _). take i ys ++ x ∷ []) is in
    let last : in_turn step s (y ∷ []) t ≡ Took s' t' = in_turn-cons step y [] s t ∙ took-later _ one (in_turn-none step s' t') in
    ap (λ xs. in_turn step s₀ xs t₀) all ∙ in_turn-append step (take i ys) (y ∷ []) s₀ t₀ ∙ took-later _ before last

-- a rule that is broken at one of the things
pub in_turn-stops : {S Y : Type 0} {s : S} {t : List ℕ} {stop : Stop} (step : S → Y → List ℕ → Part S) (s₀ : S) (t₀ : List ℕ) (ys : List Y) (i : ℕ) (y : Y)
    → i < length ys
    → get_or ys i y ≡ y
    → in_turn step s₀ (take i ys) t₀ ≡ Took s t
    → StopsBy (step s y t) stop
    → StopsBy (in_turn step s₀ ys t₀) stop
in_turn-stops {s = s} {t = t} {stop = stop} step s₀ t₀ ys i y within is before one =
    let rest : drop i ys ≡ y ∷ drop (suc i) ys = drop-cons ys i y within ∙ ap (λ x. x ∷ drop (suc i) ys) is in
    let all : take i ys ++ y ∷ drop (suc i) ys ≡ ys = ap (λ xs. take i ys ++ xs) (sym rest) ∙ take-append-drop i ys in
    let last : StopsBy (in_turn step s (y ∷ drop (suc i) ys) t) stop =
    subst (λ part. StopsBy part stop) (sym (in_turn-cons step y (drop (suc i) ys) s t)) (stops-first _ one) in
    let both : StopsBy (in_turn step s₀ (take i ys ++ y ∷ drop (suc i) ys) t₀) stop =
    subst (λ part. StopsBy part stop) (sym (in_turn-append step (take i ys) (y ∷ drop (suc i) ys) s₀ t₀)) (stops-later _ before last) in
    subst (λ xs. StopsBy (in_turn step s₀ xs t₀) stop) all both

-- all of the things
pub in_turn-all : {S Y : Type 0} {s : S} {t : List ℕ} (step : S → Y → List ℕ → Part S) (s₀ : S) (t₀ : List ℕ) (ys : List Y) (i : ℕ)
    → length ys ≤ i
    → in_turn step s₀ (take i ys) t₀ ≡ Took s t
    → in_turn step s₀ ys t₀ ≡ Took s t
in_turn-all {s = s} {t = t} step s₀ t₀ ys i past before =
    subst (λ xs. in_turn step s₀ xs t₀ ≡ Took s t) (take_all i ys past) before

-- the same for the numbers below one
pub turns-next : {S : Type 0} {s s' : S} {t t' : List ℕ} (step : S → ℕ → List ℕ → Part S) (s₀ : S) (t₀ : List ℕ) (n i : ℕ)
    → i < n
    → in_turn step s₀ (take i (range_with_len 0 n)) t₀ ≡ Took s t
    → step s i t ≡ Took s' t'
    → in_turn step s₀ (take (i + 1) (range_with_len 0 n)) t₀ ≡ Took s' t'
turns-next step s₀ t₀ n i within before one =
    in_turn-next step s₀ t₀ (range_with_len 0 n) i i (omega (arith, length-range_with_len 0 n)) (omega (arith, get_or-range_with_len 0 n i i within)) before one

pub turns-stop : {S : Type 0} {s : S} {t : List ℕ} {stop : Stop} (step : S → ℕ → List ℕ → Part S) (s₀ : S) (t₀ : List ℕ) (n i : ℕ)
    → i < n
    → in_turn step s₀ (take i (range_with_len 0 n)) t₀ ≡ Took s t
    → StopsBy (step s i t) stop
    → StopsBy (in_turn step s₀ (range_with_len 0 n) t₀) stop
turns-stop step s₀ t₀ n i within before one =
    in_turn-stops step s₀ t₀ (range_with_len 0 n) i i (omega (arith, length-range_with_len 0 n)) (omega (arith, get_or-range_with_len 0 n i i within)) before one

pub turns-all : {S : Type 0} {s : S} {t : List ℕ} (step : S → ℕ → List ℕ → Part S) (s₀ : S) (t₀ : List ℕ) (n i : ℕ)
    → n ≤ i
    → in_turn step s₀ (take i (range_with_len 0 n)) t₀ ≡ Took s t
    → in_turn step s₀ (range_with_len 0 n) t₀ ≡ Took s t
turns-all step s₀ t₀ n i past before = in_turn-all step s₀ t₀ (range_with_len 0 n) i (omega (arith, length-range_with_len 0 n)) before

-- one more thing in a list
pub one_more-took : {A Y : Type 0} {xs xs' : List A} {x : A} {t' : List ℕ} (one : List A → List ℕ → Part A) (y : Y) (t : List ℕ)
    → xs' ≡ xs ++ x ∷ []
    → one xs t ≡ Took x t'
    → one_more one xs y t ≡ Took xs' t'
one_more-took {xs = xs} {t' = t'} one y t grown taken = took-later (λ x rest. Took (xs ++ x ∷ []) rest) taken (ap (λ all. Took all t') (sym grown))

-- things in the order of others that they are made from
turns-map : {S X Y : Type 0} (step : S → Y → List ℕ → Part S) (f : X → Y) (xs : List X) (part : Part S)
    → ((s : S) (text : List ℕ) → in_turn step s (map f xs) text ≡ in_turn (λ s' x. step s' (f x)) s xs text)
    → chain part (λ s rest. in_turn step s (map f xs) rest) ≡ chain part (λ s rest. in_turn (λ s' x. step s' (f x)) s xs rest)
unfolding chain
turns-map step f xs (Took s rest) before = before s rest
turns-map step f xs (Stops kind left) before = refl

pub in_turn-map : {S X Y : Type 0} (step : S → Y → List ℕ → Part S) (f : X → Y) (xs : List X) (s : S) (text : List ℕ)
    → in_turn step s (map f xs) text ≡ in_turn (λ s' x. step s' (f x)) s xs text
unfolding in_turn
in_turn-map step f [] s text = refl
in_turn-map step f (x ∷ xs) s text =
    turns-map step f xs (step s (f x) text) (λ s' rest. in_turn-map step f xs s' rest)

turns-flat_map : {S X Y : Type 0} (step : S → Y → List ℕ → Part S) (f : X → List Y) (xs : List X) (part : Part S)
    → ((s : S) (text : List ℕ) → in_turn step s (flat_map f xs) text ≡ in_turn (λ s' x. in_turn step s' (f x)) s xs text)
    → chain part (λ s rest. in_turn step s (flat_map f xs) rest)
    ≡ chain part (λ s rest. in_turn (λ s' x. in_turn step s' (f x)) s xs rest)
unfolding chain
turns-flat_map step f xs (Took s rest) before = before s rest
turns-flat_map step f xs (Stops kind left) before = refl

pub in_turn-flat_map : {S X Y : Type 0} (step : S → Y → List ℕ → Part S) (f : X → List Y) (xs : List X) (s : S) (text : List ℕ)
    → in_turn step s (flat_map f xs) text ≡ in_turn (λ s' x. in_turn step s' (f x)) s xs text
in_turn-flat_map step f [] s text = in_turn-none step s text ∙ sym (in_turn-none (λ s' x. in_turn step s' (f x)) s text)
in_turn-flat_map step f (x ∷ xs) s text =
    in_turn-append step (f x) (flat_map f xs) s text
    ∙ turns-flat_map step f xs (in_turn step s (f x) text) (λ s' rest. in_turn-flat_map step f xs s' rest)
    ∙ sym (in_turn-cons (λ s' y. in_turn step s' (f y)) x xs s text)

-- what a loop over the numbers below one reads
pub ruleset turns = (in_turn-none, turns-next, turns-all, one_more-took, map-append)
