-- The next record behind a gate of what an image says.
use Rattle.std.specs.Prelude.{option_map, slice_get}
use Rattle.std.proofs.Common.{◌≡◌, ◌≢◌, ◌∙◌, ℕ, ◌+◌, ◌-◌, ◌*◌, ◌/◌, ◌^◌, ◌<◌, ◌≤◌, min, Bool, true, false, if◌then◌else◌, List, [], ◌∷◌, ◌++◌, length, get_or, take, drop, Option, Some, refl, sym, ap, subst, arith, append_assoc, append-nil, length-append}
use Rattle.std.proofs.lemmas.List.{drop_at, get_or-drop, get_or_append_left, get_or-append-add}
use Rattle.corr_model.specs.declared.cell.Cell.{Cell}
use Rattle.piece_plan.specs.declared.epoch.EpochPlan.{EpochPlan}
use Rattle.piece_plan.specs.Epochs.{JobSizes, IsJob, IsEpoch, integration_at, cell_count}
use Rattle.piece_plan.specs.Order.{Place, place_of, place_after}
use Rattle.plan_places.specs.declared.place.Place.{Place as Spot}
use Rattle.plan_places.specs.Places.{place_at, IsPlace}
use Rattle.plan_places.specs.Walk.{cut_at}
use Rattle.plan_places.proofs.CutLemmas.{cut_of, cut-is}
use Rattle.checkpoint_journal.specs.Cells.{cells_at, body_cells}
use Rattle.checkpoint_journal.proofs.ReadCells.{cells_at-same}
use Rattle.journal_image.specs.Rows.{Goes}
use Rattle.journal_image.specs.declared.finding.Behind.{Behind}
use Rattle.journal_image.specs.declared.finding.Behind.TheVariants.{Record, Mark, Fault}
use Rattle.journal_image.specs.Image.{Due, Thing, Kept, Turn, range_text, text, Fits, FitsRecord, FitsMark, next, Covers, ThingsGo, things_text, KeptEpoch, records, begin, start, Reading, Reads, gate_of}
use Rattle.journal_image.specs.Difference.{due_at, StandsFirst}
use Rattle.journal_image.specs.Finding.{IsBehind}
use Rattle.journal_image.proofs.RowLemmas.{goes-append, row_text-append}
use Rattle.journal_image.proofs.FrontLemmas.{length-begin}
use Rattle.journal_image.proofs.ThingLemmas.{told, some_same}
use Rattle.checkpoint_journal.specs.declared.finding.Found.{Found}
use Rattle.checkpoint_journal.specs.Finding.{due_of, record_size}
use Rattle.checkpoint_journal.specs.Standing.{IsGate}
use Rattle.checkpoint_journal.specs.Next.{HasMore, IsRecord, IsMark, IsThing, TellsThing, IsEpochOf, TellsRecord, TellsRead, before_body}
use Rattle.checkpoint_journal.proofs.StepLemmas.{length-record, records-push}

-- behind things that went from one state to another the rest of a row goes on from there
module _ {S I : Type 0} (Fits : S → I → Type 0) (text : S → I → List ℕ) (next : S → I → S) (Ended : S → Type 0) where
  goes-behind : (s mid end : S) (things more : List I) → Goes Fits text next Ended s things mid → Goes Fits text next Ended s (things ++ more) end → Goes Fits text next Ended mid more end
  goes-behind s mid end [] more first all = subst (λ (q : S). Goes Fits text next Ended q more end) first all
  goes-behind s mid end (i ∷ things) more first all = goes-behind (next s i) mid end things more first.1 all.1

records-append : (xs ys : List Thing) → records (xs ++ ys) ≡ records xs ++ records ys
records-append [] ys = refl
records-append (Kept e body ∷ xs) ys = ap (λ (l : List KeptEpoch). record { epoch = e; body = body } ∷ l) (records-append xs ys)
records-append (Turn mark ∷ xs) ys = records-append xs ys

slice_get-seam : (xs : List KeptEpoch) (y : KeptEpoch) (ys : List KeptEpoch) → slice_get (xs ++ y ∷ ys) (length xs) ≡ Some y
slice_get-seam [] y ys = refl
slice_get-seam (x ∷ xs) y ys = slice_get-seam xs y ys

-- where there are more records than those before a gate, a thing stands behind it
some_after : (before after : List Thing) (n : ℕ) → n ≡ length (records before) → n < length (records (before ++ after)) → (t : Thing) × (more : List Thing) × (after ≡ t ∷ more)
some_after before [] n kept below = absurd (omega (arith, ap (λ (l : List Thing). length (records l)) (append-nil before)))
some_after before (t ∷ more) n kept below = (t, more, refl)

module _ (id : List ℕ) (job : JobSizes) (image : List ℕ) (r : Reading) (reads : Reads id job image r) (f : Found) (g : IsGate id job r f) where
  goes_on : ThingsGo job (due_of f) g.after r.due
  goes_on = goes-behind (Fits job) text (next job) Covers (start job r.old) (due_of f) r.due g.before g.after g.goes (subst (λ (l : List Thing). ThingsGo job (start job r.old) l r.due) g.is reads.row.goes)

  text-split : things_text job (start job r.old) r.things ≡ things_text job (start job r.old) g.before ++ things_text job (due_of f) g.after
  text-split = ap (things_text job (start job r.old)) g.is ∙ row_text-append (Fits job) text (next job) Covers (start job r.old) (due_of f) g.before g.after g.goes

  -- no gate stands behind the last one
  pub gate_within : f.gate ≤ gate_of id job r
  gate_within = omega (arith, g.gate, ap length text-split, length-append (things_text job (start job r.old) g.before) (things_text job (due_of f) g.after))

  module _ (t : Thing) (more : List Thing) (is : g.after ≡ t ∷ more) where
    pub fits_next : Fits job (due_of f) t
    fits_next = (subst (λ (l : List Thing). ThingsGo job (due_of f) l r.due) is goes_on).0

    -- the bytes before a gate, and those from it on
    image_at : image ≡ ((begin id r.old ++ things_text job (start job r.old) g.before) ++ 1 ∷ []) ++ (text (due_of f) t ++ (things_text job (next job (due_of f) t) more ++ (reads.row.gate ∷ reads.row.rest)))
    image_at =
        let before = things_text job (start job r.old) g.before in
        let later = things_text job (next job (due_of f) t) more in
        let front = begin id r.old ++ before in
        let end = reads.row.gate ∷ reads.row.rest in
        let row : reads.bytes ≡ before ++ (1 ∷ (text (due_of f) t ++ (later ++ end))) =
        reads.row.is ∙ ap (λ (l : List ℕ). l ++ end) text-split ∙ append_assoc before (things_text job (due_of f) g.after) end
        ∙ ap (λ (l : List Thing). before ++ (things_text job (due_of f) l ++ end)) is
        ∙ ap (λ (l : List ℕ). before ++ (1 ∷ l)) (append_assoc (text (due_of f) t) later end) in
        reads.is ∙ ap (λ (l : List ℕ). begin id r.old ++ l) row
        ∙ sym (append_assoc (begin id r.old) before (1 ∷ (text (due_of f) t ++ (later ++ end))))
        ∙ sym (append_assoc front (1 ∷ []) (text (due_of f) t ++ (later ++ end)))

    long : length ((begin id r.old ++ things_text job (start job r.old) g.before) ++ 1 ∷ []) ≡ f.gate + 1
    long =
        let before = things_text job (start job r.old) g.before in
        omega (arith, length-append (begin id r.old ++ before) (1 ∷ []), length-append (begin id r.old) before, length-begin id r.old, g.gate)

    pub gate_there : f.gate < length image
    gate_there =
        omega (arith, long, ap length image_at, length-append ((begin id r.old ++ things_text job (start job r.old) g.before) ++ 1 ∷ []) (text (due_of f) t ++ (things_text job (next job (due_of f) t) more ++ (reads.row.gate ∷ reads.row.rest))))

    -- the thing behind a gate stands there
    pub stands_next : StandsFirst job (due_of f) (drop (f.gate + 1) image) t
    stands_next = record {
      fits = fits_next;
      tail = things_text job (next job (due_of f) t) more ++ (reads.row.gate ∷ reads.row.rest);
      is = ap (drop (f.gate + 1)) image_at
          ∙ drop_at ((begin id r.old ++ things_text job (start job r.old) g.before) ++ 1 ∷ []) (text (due_of f) t ++ (things_text job (next job (due_of f) t) more ++ (reads.row.gate ∷ reads.row.rest))) (f.gate + 1) long;
    }

    -- and the gate behind it is one too
    pub gate_on : (h : Found) → h.old ≡ f.old → due_of h ≡ next job (due_of f) t → h.kept ≡ f.kept + length (records (t ∷ [])) → h.gate ≡ f.gate + (1 + length (text (due_of f) t)) → IsGate id job r h
    gate_on h old due kept gate =
        let before = things_text job (start job r.old) g.before in
        let row : things_text job (start job r.old) (g.before ++ t ∷ []) ≡ before ++ (1 ∷ text (due_of f) t) =
        row_text-append (Fits job) text (next job) Covers (start job r.old) (due_of f) g.before (t ∷ []) g.goes ∙ ap (λ (l : List ℕ). before ++ (1 ∷ l)) (append-nil (text (due_of f) t)) in
        record {
          before = g.before ++ t ∷ [];
          after = more;
          is = g.is ∙ ap (λ (l : List Thing). g.before ++ l) is ∙ sym (append_assoc g.before (t ∷ []) more);
          goes = goes-append (Fits job) text (next job) Covers (start job r.old) (due_of f) (due_of h) g.before (t ∷ []) g.goes (fits_next, sym due);
          old = old ∙ g.old;
          kept = omega (arith, kept, g.kept, records-push g.before t);
          gate = omega (arith, gate, g.gate, ap length row, length-append before (1 ∷ text (due_of f) t));
        }

same_due : (ranged : Bool) (next : Option Spot) (p : Spot) → next ≡ Some p → due_at ranged (place_at p) ≡ record { ranged = ranged; place = option_map place_at next }
same_due ranged next p is = ap (λ (o : Option Spot). record { ranged = ranged; place = option_map place_at o }) (sym is)

-- a gate no further than the last one is where it was
pub gate_up_to : (id : List ℕ) (job : JobSizes) (r : Reading) (f h : Found) (last : ℕ) → f.gate ≤ last → h ≡ record f { gate = min f.gate last } → IsGate id job r f → IsGate id job r h
gate_up_to id job r f h last within is gate =
    let same : f.gate ≡ min f.gate last = omega arith in
    let there : f ≡ record f { gate = min f.gate last } = λ i. record f { gate = same i } in
    subst (λ (x : Found). IsGate id job r x) (there ∙ sym is) gate

module _ (id : List ℕ) (job : JobSizes) (image : List ℕ) (r : Reading) (f : Found) (has : HasMore id job image r f) where
  pub next_thing : (t : Thing) × (more : List Thing) × (has.gate.after ≡ t ∷ more)
  next_thing = some_after has.gate.before has.gate.after f.kept has.gate.kept (subst (λ (l : List Thing). f.kept < length (records l)) has.gate.is has.more)

  pub more_there : f.gate < length image
  more_there = let n = next_thing in gate_there id job image r has.reads f has.gate n.0 n.1 n.2

  -- what was found behind the gate is what the image says
  pub thing_of : IsJob job → (p : Spot) → f.next ≡ Some p → (b : Behind) → (f.gate < length image → IsBehind job f.ranged (place_at p) (drop (f.gate + 1) image) (f.gate + 1) b) → IsThing id job r f b
  thing_of is p due (Record e) behind =
      let n = next_thing in
      let found = behind more_there in
      let stands = stands_next id job image r has.reads f has.gate n.0 n.1 n.2 in
      let other : StandsFirst job (due_of f) (drop (f.gate + 1) image) (Kept e found.0) = subst (λ (d : Due). StandsFirst job d (drop (f.gate + 1) image) (Kept e found.0)) (same_due f.ranged f.next p due) found.1 in
      let same = told job is (due_of f) n.0 (Kept e found.0) stands.tail other.tail stands.fits other.fits (sym stands.is ∙ other.is) in
      record { gate = has.gate; body = found.0; more = n.1; is = n.2 ∙ ap (λ (t : Thing). t ∷ n.1) same.0 }
  thing_of is p due Mark behind =
      let n = next_thing in
      let found = behind more_there in
      let stands = stands_next id job image r has.reads f has.gate n.0 n.1 n.2 in
      let other : StandsFirst job (due_of f) (drop (f.gate + 1) image) (Turn found.0) = subst (λ (d : Due). StandsFirst job d (drop (f.gate + 1) image) (Turn found.0)) (same_due f.ranged f.next p due) found.1 in
      let same = told job is (due_of f) n.0 (Turn found.0) stands.tail other.tail stands.fits other.fits (sym stands.is ∙ other.is) in
      record { gate = has.gate; mark = found.0; more = n.1; is = n.2 ∙ ap (λ (t : Thing). t ∷ n.1) same.0 }
  thing_of is p due (Fault d) behind =
      let n = next_thing in
      let fault = behind more_there in
      let stands = stands_next id job image r has.reads f has.gate n.0 n.1 n.2 in
      fault.none n.0 (subst (λ (s : Due). StandsFirst job s (drop (f.gate + 1) image) n.0) (sym (same_due f.ranged f.next p due)) stands)

-- the epoch of a record begins at the place that is due
pub record_place : (id : List ℕ) (job : JobSizes) (image : List ℕ) (r : Reading) (f : Found) (e : EpochPlan) (p : Spot) → Reads id job image r → IsRecord id job r f e → f.next ≡ Some p → place_of e ≡ place_at p
record_place id job image r f e p reads is due =
    let fits : FitsRecord job (due_of f) e is.body = fits_next id job image r reads f is.gate (Kept e is.body) is.more is.is in
    some_same (place_of e) (place_at p) (sym fits.place ∙ ap (option_map place_at) due)

same_record : (id : List ℕ) (job : JobSizes) (image : List ℕ) (r : Reading) (f : Found) (b : Behind) (p : Spot) (e : EpochPlan) → Reads id job image r → f.next ≡ Some p → IsThing id job r f b → IsEpochOf b (place_at p) e → (IsMark id job r f → ⊥) → IsRecord id job r f e
same_record id job image r f (Record d) p e reads due thing same unmarked = subst (λ (x : EpochPlan). IsRecord id job r f x) (sym (same (record_place id job image r f d p reads thing due))) thing
same_record id job image r f Mark p e reads due thing same unmarked = absurd (unmarked thing)
same_record id job image r f (Fault d) p e reads due thing same unmarked = absurd thing

-- a record was found, and no mark
pub tells_here : (job : JobSizes) (image : List ℕ) (f : Found) (last : ℕ) (b : Behind) (p : Spot) (e : EpochPlan) → f.next ≡ Some p → b ≢ Mark → TellsThing job image f b → IsEpochOf b (place_at p) e → TellsRecord job image f last f e
tells_here job image f last (Record d) p e due unmarked tells same = λ id r has at.
    let thing = tells id r has in
    subst (λ (x : EpochPlan). IsRecord id job r f x) (sym (same (record_place id job image r f d p has.reads thing due))) thing
tells_here job image f last Mark p e due unmarked tells same = absurd (unmarked refl)
tells_here job image f last (Fault d) p e due unmarked tells same = λ id r has at. absurd (tells id r has)

never_both : true ≡ false → ⊥
never_both e = cc

-- the gate behind a mark, no further than byte `last`
pub turned_at : (f past turned : Found) (last : ℕ) → past ≡ record f { gate = f.gate + 25; ranged = true } → turned ≡ record past { gate = min past.gate last } → turned ≡ record f { gate = min (f.gate + 25) last; ranged = true }
turned_at f past turned last is to = to ∙ ap (λ (x : Found). record x { gate = min x.gate last }) is

-- a mark was found, and a record behind it
pub tells_behind : (job : JobSizes) (image : List ℕ) (f turned : Found) (last : ℕ) (b : Behind) (p : Spot) (e : EpochPlan) → f.next ≡ Some p → turned ≡ record f { gate = min (f.gate + 25) last; ranged = true }
    → TellsThing job image f Mark → TellsThing job image turned b → IsEpochOf b (place_at p) e → TellsRecord job image f last turned e
tells_behind job image f turned last b p e due is mark tells same = λ id r has at.
    let m = mark id r has in
    let fits : FitsMark (due_of f) m.mark = fits_next id job image r has.reads f m.gate (Turn m.mark) m.more m.is in
    let past : Found = record f { gate = f.gate + 25; ranged = true } in
    let size : f.gate + 25 ≡ f.gate + (1 + length m.mark) = omega (arith, fits.size) in
    let many : f.kept ≡ f.kept + 0 = omega arith in
    let gate : IsGate id job r past = gate_on id job image r has.reads f m.gate (Turn m.mark) m.more m.is past refl refl many size in
    let within : past.gate ≤ last = omega (arith, at, gate_within id job image r has.reads past gate) in
    let there : IsGate id job r turned = gate_up_to id job r past turned last within is gate in
    let kept : turned.kept ≡ f.kept = ap (λ (x : Found). x.kept) is in
    let ranged : turned.ranged ≡ true = ap (λ (x : Found). x.ranged) is in
    let next_is : turned.next ≡ Some p = ap (λ (x : Found). x.next) is ∙ due in
    let more : HasMore id job image r turned = record { reads = has.reads; gate = there; more = subst (λ (n : ℕ). n < length (records r.things)) (sym kept) has.more } in
    same_record id job image r turned b p e has.reads next_is (tells id r more) same
    (λ again.
    let later : FitsMark (due_of turned) again.mark = fits_next id job image r has.reads turned again.gate (Turn again.mark) again.more again.is in
    never_both (sym ranged ∙ later.old))

counted : (m len : ℕ) → len ≡ 24 * m → m ≡ len / 24
counted m len is = omega arith

-- the cells behind a gate, and behind the head of a record that has one, are those of the record's body
cells_there : (image tail body : List ℕ) (e : EpochPlan) (gate : ℕ) (ranged : Bool) → length body ≡ 24 * cell_count e → drop (gate + 1) image ≡ (if ranged then range_text e ++ body else body) ++ tail → cells_at image (gate + before_body ranged) (cell_count e) ≡ body_cells body
cells_there image tail body e gate true size is =
    cells_at-same image body (gate + 29) 0 (cell_count e) (λ k below.
    let there : gate + 29 + k ≡ gate + 1 + (28 + k) = omega arith in
    let inside : k < length body = omega (arith, size) in
    let flat : 0 + k ≡ k = omega arith in
    ap (λ (j : ℕ). get_or image j 0) there ∙ sym (get_or-drop (gate + 1) image (28 + k) 0)
    ∙ ap (λ (l : List ℕ). get_or l (28 + k) 0) (is ∙ append_assoc (range_text e) body tail)
    ∙ get_or-append-add (range_text e) (body ++ tail) k 0
    ∙ get_or_append_left body tail 0 k inside
    ∙ ap (λ (j : ℕ). get_or body j 0) (sym flat))
    ∙ ap (cells_at body 0) (counted (cell_count e) (length body) size)
cells_there image tail body e gate false size is =
    cells_at-same image body (gate + 1) 0 (cell_count e) (λ k below.
    let inside : k < length body = omega (arith, size) in
    let flat : 0 + k ≡ k = omega arith in
    sym (get_or-drop (gate + 1) image k 0)
    ∙ ap (λ (l : List ℕ). get_or l k 0) is
    ∙ get_or_append_left body tail 0 k inside
    ∙ ap (λ (j : ℕ). get_or body j 0) (sym flat))
    ∙ ap (cells_at body 0) (counted (cell_count e) (length body) size)

-- the cells of a record begin no further than this behind a gate of a file
pub body_within : (gate last at : ℕ) (ranged : Bool) → gate ≤ last → last < 2 ^ 63 → at ≡ gate + before_body ranged → at ≤ 2 ^ 63 + 28
body_within gate last at true within short is = omega arith
body_within gate last at false within short is = omega arith

-- its cells were read, and the gate behind it is known
pub tells_read : (job : JobSizes) (image : List ℕ) (f g past h : Found) (last at : ℕ) (e : EpochPlan) (cells : List Cell)
    → TellsRecord job image f last g e → g.kept ≡ f.kept → at ≡ g.gate + before_body g.ranged → take (cell_count e) cells ≡ cells_at image at (cell_count e)
    → past.kept ≡ g.kept + 1 → past.gate ≡ g.gate + (1 + record_size g.ranged e) → option_map place_at past.next ≡ place_after job e → past.old ≡ g.old → past.ranged ≡ g.ranged
    → h ≡ record past { gate = min past.gate last } → TellsRead job image f last e h cells
tells_read job image f g past h last at e cells tells beside place read kept gate later old ranged is = λ id r has end.
    let rec = tells id r has end in
    let t = Kept e rec.body in
    let fits : FitsRecord job (due_of g) e rec.body = fits_next id job image r has.reads g rec.gate t rec.more rec.is in
    let stands = stands_next id job image r has.reads g rec.gate t rec.more rec.is in
    let long : past.gate ≡ g.gate + (1 + length (text (due_of g) t)) = gate ∙ ap (λ (n : ℕ). g.gate + (1 + n)) (sym (length-record (due_of g) e rec.body fits.size)) in
    let due : ◌≡◌ {A = Due} (due_of past) (record { ranged = g.ranged; place = place_after job e }) = λ i. record { ranged = ranged i; place = later i } in
    let behind : IsGate id job r past = gate_on id job image r has.reads g rec.gate t rec.more rec.is past old due kept long in
    let within : past.gate ≤ last = omega (arith, end, gate_within id job image r has.reads past behind) in
    let before = rec.gate.before in
    let all : records r.things ≡ records before ++ (record { epoch = e; body = rec.body } ∷ records rec.more) = ap records (rec.gate.is ∙ ap (λ (l : List Thing). before ++ l) rec.is) ∙ records-append before (t ∷ rec.more) in
    record {
      gate = gate_up_to id job r past h last within is behind;
      body = rec.body;
      at = ap (λ (n : ℕ). slice_get (records r.things) n) (sym beside ∙ rec.gate.kept)
          ∙ ap (λ (l : List KeptEpoch). slice_get l (length (records before))) all
          ∙ slice_get-seam (records before) (record { epoch = e; body = rec.body }) (records rec.more);
      cells_are = read ∙ ap (λ (n : ℕ). cells_at image n (cell_count e)) place ∙ cells_there image stands.tail rec.body e g.gate g.ranged fits.size stands.is;
    }

-- the epoch that is cut from a place begins there
pub cut_place : (job : JobSizes) (samples : ℕ) (p : Place) (e : EpochPlan) → IsPlace job p → cut_at job samples p ≡ Some e → place_of e ≡ p
cut_place job samples p e place is =
    let same : cut_of job samples p place.size ≡ e = some_same (cut_of job samples p place.size) e (sym (cut-is job samples p place.size place.scan) ∙ is) in
    ap place_of (sym same)

-- cut with as many samples as an epoch of the job has, from where that one begins, it is the same
pub cut_same : (job : JobSizes) (p : Place) (e d : EpochPlan) → IsEpoch job d → cut_at job (d.to - d.from) p ≡ Some e → place_of d ≡ p → e ≡ d
cut_same job p e d is cut begins =
    let samples = d.to - d.from in
    let there : cut_at job samples (place_of d) ≡ Some e = ap (cut_at job samples) begins ∙ cut in
    let made : cut_of job samples (place_of d) is.size ≡ e = some_same (cut_of job samples (place_of d) is.size) e (sym (cut-is job samples (place_of d) is.size is.scan) ∙ there) in
    let to : min (d.from + samples) (integration_at job is.size d.m).to ≡ d.to = omega (arith, is.some, is.to) in
    let same : cut_of job samples (place_of d) is.size ≡ d = λ i. record {
      scan = d.scan;
      m = d.m;
      from = d.from;
      to = to i;
      products = sym is.products i;
      baselines = sym is.baselines i;
      lags = sym is.lags i;
    } in
    sym made ∙ same
