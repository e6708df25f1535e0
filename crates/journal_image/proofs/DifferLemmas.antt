-- An image with a fault says nothing, and has one first fault.
use Rattle.std.specs.Prelude.{slice_get}
use Rattle.std.proofs.Common.{◌≡◌, ◌≢◌, ◌∙◌, ◌⊎◌, inl, inr, ⊎_elim, ℕ, zero, suc, ◌+◌, ◌<◌, ◌≤◌, Bool, true, false, List, [], ◌∷◌, ◌++◌, length, get_or, take, drop, set, Option, Some, None, refl, sym, ap, subst, arith, append_assoc, length-append}
use Rattle.std.proofs.lemmas.Bool.{cases_lt}
use Rattle.std.proofs.lemmas.List.{length-take, length-drop, get_or-take, get_or-drop, get_or_append_left, get_or-set_same, get_or-set_other, get_or_past, take-append-drop, drop-drop}
use Rattle.std.proofs.lemmas.Option.{slice_get-get_or}
use Rattle.piece_plan.specs.Epochs.{JobSizes, IsJob}
use Rattle.piece_plan.specs.Order.{Place}
use Rattle.journal_image.specs.declared.difference.Differs.{Differs}
use Rattle.journal_image.specs.Head.{place_text}
use Rattle.journal_image.specs.Image.{Due, Thing, text, Fits, next, Covers, ThingsGo, things_text, IsRowOf, IsIdentity, begin, start}
use Rattle.journal_image.specs.Difference.{due_at, StandsFirst, IsOurs, IsOfFront, IsReadTo, end_of, IsOfPlace, IsOfEnd, IsCutShort, IsOfThing, IsOfRow}
use Rattle.journal_image.specs.Laws.{HasNoReading, DiffersOnce}
use Rattle.journal_image.proofs.RowLemmas.{row-on, rows-compare}
use Rattle.journal_image.proofs.ThingLemmas.{told, more_due}
use Rattle.journal_image.proofs.FrontLemmas.{length-begin, same_begin}
use Rattle.journal_image.proofs.GateLemmas.{thing-none}

some_get : (xs : List ℕ) (i : ℕ) → i < length xs → slice_get xs i ≡ Some (get_or xs i 0)
some_get xs i inside = slice_get-get_or xs i 0 inside

eq_or_ne : (p q : ℕ) → (p ≡ q) ⊎ (p ≢ q)
eq_or_ne p q = grind arith

-- each byte of a front that stands in an image is ours
begin-IsOurs : (id image x : List ℕ) (old : Bool) (k : ℕ) → IsIdentity id → image ≡ begin id old ++ x → k < length (1 ∷ id) → IsOurs id image k
begin-IsOurs id image x old k named is inside = which old is
  where
    there : (b : Bool) → image ≡ begin id b ++ x → slice_get image k ≡ Some (get_or (begin id b) k 0)
    there b e =
        let long = length-begin id b in
        some_get image k (omega (arith, ap length e, length-append (begin id b) x, long, inside))
        ∙ ap (λ (n : ℕ). Some n) (ap (λ (l : List ℕ). get_or l k 0) e ∙ get_or_append_left (begin id b) x 0 k (omega (arith, long, inside)))

    old_byte : (j : ℕ) → j < length (1 ∷ id) → (get_or (begin id true) j 0 ≡ get_or (1 ∷ id) j 0) ⊎ ((j ≡ 8) × (get_or (begin id true) j 0 ≡ 49))
    old_byte zero h = inl refl
    old_byte (suc j) h = ⊎_elim
        (λ (e : j ≡ 7). inr (omega (arith, e), ap (λ (i : ℕ). get_or (set id 7 49) i 0) e ∙ get_or-set_same id 7 49 0 (omega (arith, named.long))))
        (λ (ne : j ≢ 7). inl (get_or-set_other id 7 j 49 0 ne))
        (eq_or_ne j 7)

    which : (b : Bool) → image ≡ begin id b ++ x → IsOurs id image k
    which false e = inl (there false e ∙ sym (some_get (1 ∷ id) k inside))
    which true e = ⊎_elim
        (λ (same : get_or (begin id true) k 0 ≡ get_or (1 ∷ id) k 0). inl (there true e ∙ ap (λ (n : ℕ). Some n) same ∙ sym (some_get (1 ∷ id) k inside)))
        (λ (both : (k ≡ 8) × (get_or (begin id true) k 0 ≡ 49)). inr (both.0, there true e ∙ ap (λ (n : ℕ). Some n) both.1))
        (old_byte k inside)

-- an image by what was read of it, and what is left
read-is : (id : List ℕ) (job : JobSizes) (image : List ℕ) (old : Bool) (due : Due) (kept at : ℕ) → (r : IsReadTo id job image old due kept at)
    → image ≡ begin id old ++ (things_text job (start job old) r.things ++ drop at image)
read-is id job image old due kept at r =
    sym (take-append-drop at image) ∙ ap (λ (l : List ℕ). l ++ drop at image) r.front ∙ append_assoc (begin id old) (things_text job (start job old) r.things) (drop at image)

read-within : (id : List ℕ) (job : JobSizes) (image : List ℕ) (old : Bool) (due : Due) (kept at : ℕ) → IsReadTo id job image old due kept at → at ≤ length image
read-within id job image old due kept at r =
    omega (arith, r.place, ap length r.front, length-take at image, length-append (begin id old) (things_text job (start job old) r.things), length-begin id old)

-- the fault behind the gates that were read
abbrev IsAt : JobSizes → List ℕ → Due → ℕ → Differs → Type 0
IsAt job image due at d = ((at ≡ length image) × (d ≡ end_of (length image)))
    ⊎ ((p : Place) × (due.place ≡ Some p) × (get_or image at 0 ≡ 1) × IsOfThing job due.ranged p (drop (at + 1) image) (at + 1) (length image) d)

same_due : (due : Due) (p : Place) → due.place ≡ Some p → due ≡ due_at due.ranged p
same_due due p e = λ i. record { ranged = due.ranged; place = e i }

-- no thing that fits stands behind it
fault-stops : (job : JobSizes) (image : List ℕ) (due : Due) (at : ℕ) (d : Differs) (t : Thing) (tail : List ℕ) → IsJob job → IsAt job image due at d
    → Fits job due t → drop at image ≡ 1 ∷ (text due t ++ tail) → ⊥
fault-stops job image due at d t tail is (inl end) fits there = omega (arith, end.0, ap length there, length-drop at image)
fault-stops job image due at d t tail is (inr open_gate) fits there =
    let p = open_gate.0 in
    let same = same_due due p open_gate.1 in
    let behind : drop (at + 1) image ≡ text due t ++ tail = sym (drop-drop 1 at image) ∙ ap (drop 1) there in
    let stands : StandsFirst job due (drop (at + 1) image) t = record { fits = fits; tail = tail; is = behind } in
    thing-none job due.ranged p (drop (at + 1) image) (at + 1) (length image) d is open_gate.3 t (subst (λ (q : Due). StandsFirst job q (drop (at + 1) image) t) same stands)

-- nor does the row end there
fault-goes-on : (job : JobSizes) (image : List ℕ) (due : Due) (at gate : ℕ) (rest : List ℕ) (d : Differs) → IsAt job image due at d
    → drop at image ≡ gate ∷ rest → (gate ≡ 1 → Covers due) → ⊥
fault-goes-on job image due at gate rest d (inl end) there stops = omega (arith, end.0, ap length there, length-drop at image)
fault-goes-on job image due at gate rest d (inr open_gate) there stops =
    let at_gate : at + 0 ≡ at = omega arith in
    let is_one : gate ≡ 1 = sym (sym (ap (λ (n : ℕ). get_or image n 0) at_gate) ∙ sym (get_or-drop at image 0 0) ∙ ap (λ (l : List ℕ). get_or l 0 0) there) ∙ open_gate.2 in
    let none : None ≡ Some open_gate.0 = sym (stops is_one) ∙ open_gate.1 in
    cc

pub has_no_reading : (id : List ℕ) (job : JobSizes) (image : List ℕ) → IsIdentity id → IsJob job → HasNoReading id job image
has_no_reading id job image named is d (inl front) r reads = front.other (begin-IsOurs id image reads.bytes r.old d.at named reads.is front.inside)
has_no_reading id job image named is d (inr row) r reads =
    let read = row.read in
    let cut = same_begin id (things_text job (start job row.old) read.things ++ drop row.at image) reads.bytes row.old r.old named read.version reads.version
    (sym (read-is id job image row.old row.due row.kept row.at read) ∙ reads.is) in
    let there : IsRowOf job (start job row.old) r.things r.due (things_text job (start job row.old) read.things ++ drop row.at image) =
    subst (IsRowOf job (start job row.old) r.things r.due) (sym cut.1) (subst (λ (b : Bool). IsRowOf job (start job b) r.things r.due reads.bytes) (sym cut.0) reads.row) in
    let on = row-on (Fits job) text (next job) Covers (told job is) (more_due job is) (start job row.old) row.due r.due read.things r.things (drop row.at image) read.goes there in
    goes_on on.0 on.2
  where
    goes_on : (more : List Thing) → IsRowOf job row.due more r.due (drop row.at image) → ⊥
    goes_on [] after = fault-goes-on job image row.due row.at after.gate after.rest d row.fault after.is (λ one. subst Covers (sym after.goes) (after.stops one))
    goes_on (t ∷ more) after =
        fault-stops job image row.due row.at d t (things_text job (next job row.due t) more ++ (after.gate ∷ after.rest)) is row.fault after.goes.0
        (after.is ∙ ap (λ (l : List ℕ). 1 ∷ l) (append_assoc (text row.due t) (things_text job (next job row.due t) more) (after.gate ∷ after.rest)))

same_differs : (a b : ℕ) (k l o q : Option ℕ) → a ≡ b → k ≡ l → o ≡ q → ◌≡◌ {A = Differs} (record { at = a; kept = k; ours = o }) (record { at = b; kept = l; ours = q })
same_differs a b k l o q x y z = λ i. record { at = x i; kept = y i; ours = z i }

-- the first byte that is not this job's is one
front-once : (id image : List ℕ) (d e : Differs) → IsOfFront id image d → IsOfFront id image e → d ≡ e
front-once id image d e one other =
    let at : d.at ≡ e.at = ⊎_elim
    (λ (before : d.at < e.at). absurd (one.other (other.same d.at before)))
    (λ (past : e.at ≤ d.at). ⊎_elim
    (λ (after : e.at < d.at). absurd (other.other (one.same e.at after)))
    (λ (up_to : d.at ≤ e.at). omega (arith, past, up_to))
    (cases_lt e.at d.at))
    (cases_lt d.at e.at) in
    same_differs d.at e.at d.kept e.kept d.ours e.ours at
    (one.kept ∙ ap (slice_get image) at ∙ sym other.kept)
    (one.ours ∙ ap (slice_get (1 ∷ id)) at ∙ sym other.ours)

same_at : (n : ℕ) (xs ys : List ℕ) (i : ℕ) → i < n → take n xs ≡ take n ys → get_or xs i 0 ≡ get_or ys i 0
same_at n xs ys i below same = sym (get_or-take n xs i 0 below) ∙ ap (λ (l : List ℕ). get_or l i 0) same ∙ get_or-take n ys i 0 below

module _ (job : JobSizes) (p : Place) (bytes : List ℕ) (at : ℕ) where
  place-once : (d e : Differs) → IsOfPlace p bytes at d → IsOfPlace p bytes at e → d ≡ e
  place-once d e one other =
      let k : one.k ≡ other.k = ⊎_elim
      (λ (before : one.k < other.k). absurd (one.other (same_at other.k bytes (place_text p) one.k before other.same)))
      (λ (past : other.k ≤ one.k). ⊎_elim
      (λ (after : other.k < one.k). absurd (other.other (same_at one.k bytes (place_text p) other.k after one.same)))
      (λ (up_to : one.k ≤ other.k). omega (arith, past, up_to))
      (cases_lt other.k one.k))
      (cases_lt one.k other.k) in
      one.is
      ∙ ap {B = Differs} (λ (n : ℕ). record { at = at + n; kept = Some (get_or bytes n 0); ours = Some (get_or (place_text p) n 0) }) k
      ∙ sym other.is

  place-no_end : (d e : Differs) → IsOfPlace p bytes at d → IsOfEnd job p bytes at e → ⊥
  place-no_end d e one other = one.other (sym (get_or-take 20 bytes one.k 0 one.inside) ∙ ap (λ (l : List ℕ). get_or l one.k 0) other.same)

  place-no_cut : (len : ℕ) (d e : Differs) → IsOfPlace p bytes at d → IsCutShort job true p bytes len e → ⊥
  place-no_cut len d e one other =
      let begun = other.begun refl in
      one.other (sym (get_or-take 20 bytes one.k 0 one.inside) ∙ ap (λ (l : List ℕ). get_or l one.k 0) begun.same ∙ get_or-take (length bytes) (place_text p) one.k 0 one.there)

  end-no_cut : (len : ℕ) (d e : Differs) → IsOfEnd job p bytes at d → IsCutShort job true p bytes len e → ⊥
  end-no_cut len d e one other =
      let fits = (other.begun refl).fits one.there in
      one.unfit fits.0 fits.1

  thing-once : (ranged : Bool) (len : ℕ) (d e : Differs) → IsOfThing job ranged p bytes at len d → IsOfThing job ranged p bytes at len e → d ≡ e
  thing-once ranged len d e (inl (r, inl one)) (inl (s, inl other)) = place-once d e one other
  thing-once ranged len d e (inl (r, inl one)) (inl (s, inr other)) = absurd (place-no_end d e one other)
  thing-once ranged len d e (inl (r, inr one)) (inl (s, inl other)) = absurd (place-no_end e d other one)
  thing-once ranged len d e (inl (r, inr one)) (inl (s, inr other)) = one.is ∙ sym other.is
  thing-once ranged len d e (inl (r, inl one)) (inr other) = absurd (place-no_cut len d e one (subst (λ (b : Bool). IsCutShort job b p bytes len e) r other))
  thing-once ranged len d e (inl (r, inr one)) (inr other) = absurd (end-no_cut len d e one (subst (λ (b : Bool). IsCutShort job b p bytes len e) r other))
  thing-once ranged len d e (inr one) (inl (s, inl other)) = absurd (place-no_cut len e d other (subst (λ (b : Bool). IsCutShort job b p bytes len d) s one))
  thing-once ranged len d e (inr one) (inl (s, inr other)) = absurd (end-no_cut len e d other (subst (λ (b : Bool). IsCutShort job b p bytes len d) s one))
  thing-once ranged len d e (inr one) (inr other) = one.is ∙ sym other.is

-- faults at one gate
at-once : (job : JobSizes) (image : List ℕ) (due : Due) (at : ℕ) (d e : Differs) → IsAt job image due at d → IsAt job image due at e → d ≡ e
at-once job image due at d e (inl one) (inl other) = one.1 ∙ sym other.1
at-once job image due at d e (inl one) (inr other) =
    let past : get_or image at 0 ≡ 0 = get_or_past image at 0 (omega (arith, one.0)) in
    absurd (omega (arith, past, other.2))
at-once job image due at d e (inr one) (inl other) =
    let past : get_or image at 0 ≡ 0 = get_or_past image at 0 (omega (arith, other.0)) in
    absurd (omega (arith, past, one.2))
at-once job image due at d e (inr one) (inr other) =
    let both : Some one.0 ≡ Some other.0 = sym one.1 ∙ other.1 in
    let same : one.0 ≡ other.0 = cc in
    thing-once job other.0 (drop (at + 1) image) (at + 1) due.ranged (length image) d e
    (subst (λ (q : Place). IsOfThing job due.ranged q (drop (at + 1) image) (at + 1) (length image) d) same one.3) other.3

row_fault-once : (id : List ℕ) (job : JobSizes) (image : List ℕ) (d e : Differs) → IsIdentity id → IsJob job → IsOfRow id job image d → IsOfRow id job image e → d ≡ e
row_fault-once id job image d e named is one other =
    let read = one.read in
    let read' = other.read in
    let cut = same_begin id (things_text job (start job one.old) read.things ++ drop one.at image) (things_text job (start job other.old) read'.things ++ drop other.at image)
    one.old other.old named read.version read'.version (sym (read-is id job image one.old one.due one.kept one.at read) ∙ read-is id job image other.old other.due other.kept other.at read') in
    let goes : ThingsGo job (start job one.old) read'.things other.due = subst (λ (b : Bool). ThingsGo job (start job b) read'.things other.due) (sym cut.0) read'.goes in
    let same : things_text job (start job one.old) read.things ++ drop one.at image ≡ things_text job (start job one.old) read'.things ++ drop other.at image =
    cut.1 ∙ ap (λ (b : Bool). things_text job (start job b) read'.things ++ drop other.at image) (sym cut.0) in
    which (rows-compare (Fits job) text (next job) Covers (told job is) (more_due job is) (start job one.old) one.due other.due read.things read'.things
    (drop one.at image) (drop other.at image) read.goes goes same)
  where
    within : one.at ≤ length image
    within = read-within id job image one.old one.due one.kept one.at one.read

    within' : other.at ≤ length image
    within' = read-within id job image other.old other.due other.kept other.at other.read

    one_gate : one.due ≡ other.due → drop one.at image ≡ drop other.at image → d ≡ e
    one_gate due rest =
        let at : one.at ≡ other.at = omega (arith, within, within', ap length rest, length-drop one.at image, length-drop other.at image) in
        at-once job image other.due other.at d e
        (subst (λ (q : Due). IsAt job image q other.at d) due (subst (λ (n : ℕ). IsAt job image one.due n d) at one.fault)) other.fault

    which : ((more : List Thing) × ThingsGo job one.due more other.due × (drop one.at image ≡ things_text job one.due more ++ drop other.at image))
        ⊎ ((more : List Thing) × ThingsGo job other.due more one.due × (drop other.at image ≡ things_text job other.due more ++ drop one.at image)) → d ≡ e
    which (inl ([], goes, rest)) = one_gate goes rest
    which (inl (t ∷ more, goes, rest)) =
        absurd (fault-stops job image one.due one.at d t (things_text job (next job one.due t) more ++ drop other.at image) is one.fault goes.0
        (rest ∙ ap (λ (l : List ℕ). 1 ∷ l) (append_assoc (text one.due t) (things_text job (next job one.due t) more) (drop other.at image))))
    which (inr ([], goes, rest)) = one_gate (sym goes) (sym rest)
    which (inr (t ∷ more, goes, rest)) =
        absurd (fault-stops job image other.due other.at e t (things_text job (next job other.due t) more ++ drop one.at image) is other.fault goes.0
        (rest ∙ ap (λ (l : List ℕ). 1 ∷ l) (append_assoc (text other.due t) (things_text job (next job other.due t) more) (drop one.at image))))

-- a fault of the front and one behind it are not both there
front-no_row : (id : List ℕ) (job : JobSizes) (image : List ℕ) (d e : Differs) → IsIdentity id → IsOfFront id image d → IsOfRow id job image e → ⊥
front-no_row id job image d e named front row =
    front.other (begin-IsOurs id image (things_text job (start job row.old) row.read.things ++ drop row.at image) row.old d.at named
    (read-is id job image row.old row.due row.kept row.at row.read) front.inside)

pub differs_once : (id : List ℕ) (job : JobSizes) (image : List ℕ) → IsIdentity id → IsJob job → DiffersOnce id job image
differs_once id job image named is d e (inl one) (inl other) = front-once id image d e one other
differs_once id job image named is d e (inl one) (inr other) = absurd (front-no_row id job image d e named one other)
differs_once id job image named is d e (inr one) (inl other) = absurd (front-no_row id job image e d named other one)
differs_once id job image named is d e (inr one) (inr other) = row_fault-once id job image d e named is one other
