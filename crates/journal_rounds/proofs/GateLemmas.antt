-- How many bytes stand before a gate of a journal.
use Rattle.std.proofs.Common.{◌≡◌, ◌∙◌, inl, inr, ℕ, ◌+◌, ◌*◌, ◌<◌, ◌≤◌, Bool, true, false, if◌then◌else◌, List, [], ◌∷◌, ◌++◌, length, refl, sym, ap, subst, arith, length-append}
use Rattle.piece_plan.specs.declared.epoch.EpochPlan.{EpochPlan}
use Rattle.piece_plan.specs.Epochs.{JobSizes, IsJob, IsOfPlan, cell_count}
use Rattle.journal_image.specs.Image.{Due, Thing, Kept, Turn, range_text, text, next, ThingsGo, things_text, KeptEpoch, records, start, Reading, Reads, Keeps, gate_of}
use Rattle.journal_image.proofs.ReadingLemmas.{reads-AtGate}
use Rattle.journal_image.proofs.ThingLemmas.{epoch-IsOfPlan, text-old}

-- the bytes of kept epochs and of their gates, without ranges and with them
abbrev pub least_of : List KeptEpoch → ℕ
least_of [] = 0
least_of (k ∷ kept) = 1 + length k.body + least_of kept

abbrev pub most_of : List KeptEpoch → ℕ
most_of [] = 0
most_of (k ∷ kept) = 29 + length k.body + most_of kept

-- each body has two cells at least, and at most 4,194,304
abbrev pub AreSized : List KeptEpoch → Type 0
AreSized [] = Unit {0}
AreSized (k ∷ kept) = (48 ≤ length k.body) × (length k.body ≤ 100663296) × AreSized kept

pub most_of-append : (old more : List KeptEpoch) → most_of (old ++ more) ≡ most_of old + most_of more
most_of-append [] more = omega arith
most_of-append (k ∷ old) more = omega (arith, most_of-append old more)

pub sized-old : (old more : List KeptEpoch) → AreSized (old ++ more) → AreSized old
sized-old [] more sized = tt
sized-old (k ∷ old) more sized = (sized.0, sized.1, sized-old old more sized.2)

pub sized-more : (old more : List KeptEpoch) → AreSized (old ++ more) → AreSized more
sized-more [] more sized = sized
sized-more (k ∷ old) more sized = sized-more old more sized.2

-- ranges make it at most 77 of 49 times as much
pub most-by-least : (kept : List KeptEpoch) → AreSized kept → 49 * most_of kept ≤ 77 * least_of kept
most-by-least [] sized = omega arith
most-by-least (k ∷ kept) sized = omega (arith, sized.0, most-by-least kept sized.2)

pub most-by-count : (kept : List KeptEpoch) → AreSized kept → most_of kept ≤ 100663325 * length kept
most-by-count [] sized = omega arith
most-by-count (k ∷ kept) sized = omega (arith, sized.1, most-by-count kept sized.2)

-- ---- the things of a row

-- a mark may stand where records have no range
abbrev mark_size : Bool → ℕ
mark_size ranged = if ranged then 0 else 25

text-most : (due : Due) (e : EpochPlan) (body : List ℕ) → length (text due (Kept e body)) ≤ 28 + length body
text-most due e body = of_ranged due.ranged
  where
    of_ranged : (b : Bool) → length (if b then range_text e ++ body else body) ≤ 28 + length body
    of_ranged true = omega (arith, length-append (range_text e) body)
    of_ranged false = omega arith

text-least : (due : Due) (e : EpochPlan) (body : List ℕ) → length body ≤ length (text due (Kept e body))
text-least due e body = of_ranged due.ranged
  where
    of_ranged : (b : Bool) → length body ≤ length (if b then range_text e ++ body else body)
    of_ranged true = omega (arith, length-append (range_text e) body)
    of_ranged false = omega arith

pub text-below : (job : JobSizes) (due end : Due) (things : List Thing) → ThingsGo job due things end
    → length (things_text job due things) ≤ mark_size due.ranged + most_of (records things)
text-below job due end [] goes = omega arith
text-below job due end (Kept e body ∷ things) goes =
    let rest = text-below job (next job due (Kept e body)) end things goes.1 in
    omega (arith, length-append (text due (Kept e body)) (things_text job (next job due (Kept e body)) things), text-most due e body, rest)
text-below job due end (Turn mark ∷ things) goes =
    let rest = text-below job (next job due (Turn mark)) end things goes.1 in
    let here : mark_size due.ranged ≡ 25 = ap mark_size goes.0.old in
    omega (arith, length-append mark (things_text job (next job due (Turn mark)) things), goes.0.size, rest, here)

pub text-above : (job : JobSizes) (due : Due) (things : List Thing) → least_of (records things) ≤ length (things_text job due things)
text-above job due [] = omega arith
text-above job due (Kept e body ∷ things) =
    let rest = text-above job (next job due (Kept e body)) things in
    omega (arith, length-append (text due (Kept e body)) (things_text job (next job due (Kept e body)) things), text-least due e body, rest)
text-above job due (Turn mark ∷ things) =
    let rest = text-above job (next job due (Turn mark)) things in
    omega (arith, length-append mark (things_text job (next job due (Turn mark)) things), rest)

-- where records have a range, all later ones have one
stays_ranged : (job : JobSizes) (due end : Due) (things : List Thing) → ThingsGo job due things end → due.ranged ≡ true → end.ranged ≡ true
stays_ranged job due end [] goes ranged = ap (λ (d : Due). d.ranged) (sym goes) ∙ ranged
stays_ranged job due end (Kept e body ∷ things) goes ranged = stays_ranged job (next job due (Kept e body)) end things goes.1 ranged
stays_ranged job due end (Turn mark ∷ things) goes ranged = stays_ranged job (next job due (Turn mark)) end things goes.1 refl

-- a row whose last records have no range has none
pub text-old_row : (job : JobSizes) (due end : Due) (things : List Thing) → ThingsGo job due things end → end.ranged ≡ false
    → length (things_text job due things) ≤ least_of (records things)
text-old_row job due end [] goes old = omega arith
text-old_row job due end (Kept e body ∷ things) goes old =
    of_ranged due.ranged refl (text-old_row job (next job due (Kept e body)) end things goes.1 old)
  where
    of_ranged : (b : Bool) → due.ranged ≡ b → length (things_text job (next job due (Kept e body)) things) ≤ least_of (records things)
        → length (things_text job due (Kept e body ∷ things)) ≤ least_of (records (Kept e body ∷ things))
    of_ranged true is rest = let never : true ≡ false = sym (stays_ranged job due end (Kept e body ∷ things) goes is) ∙ old in cc
    of_ranged false is rest =
        let here : length (text due (Kept e body)) ≡ length body = ap length (text-old due e body is) in
        omega (arith, length-append (text due (Kept e body)) (things_text job (next job due (Kept e body)) things), here, rest)
text-old_row job due end (Turn mark ∷ things) goes old =
    let never : true ≡ false = sym (stays_ranged job (next job due (Turn mark)) end things goes.1 refl) ∙ old in cc

-- an epoch of a job has two cells at least
two_cells : (e : EpochPlan) → IsOfPlan e → 2 ≤ cell_count e
two_cells e is = two e.products e.baselines e.lags is.products is.baselines is.lags.some
  where
    two : (p b l : ℕ) → 0 < p → 0 < b → 2 ≤ l → 2 ≤ p * b * l
    two p b l some_p some_b some_l = grind arith

pub row-sized : (job : JobSizes) → IsJob job → (due end : Due) (things : List Thing) → ThingsGo job due things end → AreSized (records things)
row-sized job is due end [] goes = tt
row-sized job is due end (Kept e body ∷ things) goes =
    let of_plan = epoch-IsOfPlan job e is goes.0.epoch in
    let two = two_cells e of_plan in
    (omega (arith, goes.0.size, two), omega (arith, goes.0.size, of_plan.cells), row-sized job is (next job due (Kept e body)) end things goes.1)
row-sized job is due end (Turn mark ∷ things) goes = row-sized job is (next job due (Turn mark)) end things goes.1

-- ---- images

-- a kept epoch is one of the job, so its body has a size
pub kept-sized : (id : List ℕ) (job : JobSizes) (image : List ℕ) (kept : List KeptEpoch) → IsJob job → Keeps id job image kept → AreSized kept
kept-sized id job image kept is (inl blank) = subst AreSized (sym blank.1) tt
kept-sized id job image kept is (inr said) = subst AreSized (sym said.2) (row-sized job is (start job said.0.old) said.0.due said.0.things said.1.row.goes)

-- an image that keeps epochs is longer than these with the identity
pub kept-long : (id : List ℕ) (job : JobSizes) (image : List ℕ) (r : Reading) → Reads id job image r → 1 + length id + least_of (records r.things) < length image
kept-long id job image r reads =
    omega (arith, (reads-AtGate id job image r reads).inside, text-above job (start job r.old) r.things)

-- the gate behind the last record
pub gate-below : (id : List ℕ) (job : JobSizes) (image : List ℕ) (r : Reading) → Reads id job image r → gate_of id job r ≤ 26 + length id + most_of (records r.things)
gate-below id job image r reads =
    let most : mark_size (start job r.old).ranged ≤ 25 = mark-most (start job r.old).ranged in
    omega (arith, text-below job (start job r.old) r.due r.things reads.row.goes, most)
  where
    mark-most : (b : Bool) → mark_size b ≤ 25
    mark-most true = omega arith
    mark-most false = omega arith

pub gate-above : (id : List ℕ) (job : JobSizes) (r : Reading) → 1 + length id + least_of (records r.things) ≤ gate_of id job r
gate-above id job r = omega (arith, text-above job (start job r.old) r.things)

-- that of an old journal without a mark
pub gate-old : (id : List ℕ) (job : JobSizes) (image : List ℕ) (r : Reading) → Reads id job image r → r.due.ranged ≡ false
    → gate_of id job r ≤ 1 + length id + least_of (records r.things)
gate-old id job image r reads old = omega (arith, text-old_row job (start job r.old) r.due r.things reads.row.goes old)
