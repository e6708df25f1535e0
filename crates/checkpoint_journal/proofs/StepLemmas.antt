-- Along the gates of an image.
use Rattle.std.specs.Prelude.{option_map}
use Rattle.std.proofs.Common.{◌≡◌, ◌∙◌, inl, inr, ℕ, ◌+◌, ◌-◌, ◌*◌, ◌<◌, ◌≤◌, Bool, true, false, if◌then◌else◌, List, [], ◌∷◌, ◌++◌, length, get_or, take, drop, Option, Some, None, refl, sym, ap, subst, arith, append_assoc, append-nil, length-append}
use Rattle.std.proofs.lemmas.List.{length-take, length-drop, take_at, get_or-take, get_or-drop, drop_more, take-append-drop}
use Rattle.dev_traits.specs.Told.{WhereTold}
use Rattle.checkpoint_journal.proofs.ToldLemmas.{told_again, told_four}
use Rattle.piece_plan.specs.declared.epoch.EpochPlan.{EpochPlan}
use Rattle.piece_plan.specs.Epochs.{JobSizes, IsJob, cell_count}
use Rattle.piece_plan.specs.Order.{Place, place_after}
use Rattle.plan_places.specs.declared.place.Place.{Place as Spot}
use Rattle.plan_places.specs.Places.{place_at}
use Rattle.journal_image.specs.declared.difference.Differs.{Differs}
use Rattle.journal_image.specs.declared.finding.Behind.{Behind}
use Rattle.journal_image.specs.declared.finding.Behind.TheVariants.{Record, Mark, Fault}
use Rattle.journal_image.specs.Image.{Due, Thing, Kept, Turn, range_text, text, Fits, next, Covers, things_text, records, IsIdentity, MayBeOld, begin, start, Reads}
use Rattle.journal_image.specs.Difference.{IsReadTo, due_at, StandsFirst, IsOfThing, end_of}
use Rattle.journal_image.specs.Finding.{IsBehind, IsFrontOf}
use Rattle.journal_image.proofs.RowLemmas.{goes-append, row_text-append}
use Rattle.journal_image.proofs.FrontLemmas.{length-begin}
use Rattle.journal_image.proofs.ReadingLemmas.{reads_at}
use Rattle.checkpoint_journal.specs.declared.finding.Found.{Found}
use Rattle.checkpoint_journal.specs.Finding.{due_of, IsAt, IsFound, IsOther, StandsBehind, record_size}
use Rattle.checkpoint_journal.proofs.FrontLemmas.{found_other}

-- the number of bytes of a record
pub length-record : (due : Due) (e : EpochPlan) (body : List ℕ) → length body ≡ 24 * cell_count e → length (text due (Kept e body)) ≡ record_size due.ranged e
length-record due e body size = of_kind due.ranged
  where
    of_kind : (b : Bool) → length (if b then range_text e ++ body else body) ≡ record_size b e
    of_kind true = omega (arith, length-append (range_text e) body, size)
    of_kind false = size

pub records-push : (things : List Thing) (t : Thing) → length (records (things ++ t ∷ [])) ≡ length (records things) + length (records (t ∷ []))
records-push [] t = omega arith
records-push (Kept e body ∷ things) t = let rest = records-push things t in omega arith
records-push (Turn mark ∷ things) t = records-push things t

module _ (id : List ℕ) (job : JobSizes) (image : List ℕ) where
  pub read_start : (old : Bool) → MayBeOld id old → take (1 + length id) image ≡ begin id old → IsReadTo id job image old (start job old) 0 (1 + length id)
  read_start old may front = record { version = may; things = []; goes = refl; many = refl; place = omega arith; front = front ∙ sym (append-nil (begin id old)) }

  module _ (old : Bool) (due : Due) (kept at : ℕ) (w : IsReadTo id job image old due kept at) where
    pub read_inside : at ≤ length image
    read_inside = omega (arith, length-take at image, ap length w.front, length-append (begin id old) (things_text job (start job old) w.things), length-begin id old, w.place)

    whole : image ≡ (begin id old ++ things_text job (start job old) w.things) ++ drop at image
    whole = sym (take-append-drop at image) ∙ ap (λ (l : List ℕ). l ++ drop at image) w.front

    -- one thing more
    pub read_more : (t : Thing) → at < length image → get_or image at 0 ≡ 1 → StandsFirst job due (drop (at + 1) image) t
        → IsReadTo id job image old (next job due t) (kept + length (records (t ∷ []))) (at + (1 + length (text due t)))
    read_more t there is_open s =
        let rest : drop at image ≡ 1 ∷ (text due t ++ s.tail) = drop_more image at 0 there ∙ ap (λ (b : ℕ). b ∷ drop (at + 1) image) is_open ∙ ap (λ (l : List ℕ). 1 ∷ l) s.is in
        let before = begin id old ++ things_text job (start job old) w.things in
        let row : things_text job (start job old) (w.things ++ t ∷ []) ≡ things_text job (start job old) w.things ++ (1 ∷ text due t) =
        row_text-append (Fits job) text (next job) Covers (start job old) due w.things (t ∷ []) w.goes ∙ ap (λ (l : List ℕ). things_text job (start job old) w.things ++ (1 ∷ l)) (append-nil (text due t)) in
        let cut : image ≡ (before ++ (1 ∷ text due t)) ++ s.tail = whole ∙ ap (λ (l : List ℕ). before ++ l) rest ∙ sym (append_assoc before (1 ∷ text due t) s.tail) in
        let long : length (before ++ (1 ∷ text due t)) ≡ at + (1 + length (text due t)) =
        omega (arith, length-append before (1 ∷ text due t), length-append (begin id old) (things_text job (start job old) w.things), length-begin id old, w.place) in
        record {
          version = w.version;
          things = w.things ++ t ∷ [];
          goes = goes-append (Fits job) text (next job) Covers (start job old) due (next job due t) w.things (t ∷ []) w.goes (s.fits, refl);
          many = omega (arith, w.many, records-push w.things t);
          place = omega (arith, w.place, ap length row, length-append (things_text job (start job old) w.things) (1 ∷ text due t));
          front = ap (take (at + (1 + length (text due t)))) cut
              ∙ take_at (before ++ (1 ∷ text due t)) s.tail (at + (1 + length (text due t))) long
              ∙ append_assoc (begin id old) (things_text job (start job old) w.things) (1 ∷ text due t)
              ∙ ap (λ (l : List ℕ). begin id old ++ l) (sym row);
        }

    -- the row ends here
    pub read_reads : at < length image → (get_or image at 0 ≡ 1 → Covers due) → Reads id job image record { old = old; things = w.things; due = due }
    read_reads there stops =
        reads_at id job image record { old = old; things = w.things; due = due } (get_or image at 0) (drop (at + 1) image) w.version w.goes
        (whole ∙ ap (λ (l : List ℕ). (begin id old ++ things_text job (start job old) w.things) ++ l) (drop_more image at 0 there)) stops

same_read : (id : List ℕ) (job : JobSizes) (image : List ℕ) (a b : Bool) (d e : Due) (k l m n : ℕ) → a ≡ b → d ≡ e → k ≡ l → m ≡ n → IsReadTo id job image a d k m → IsReadTo id job image b e l n
same_read id job image a b d e k l m n h1 h2 h3 h4 w = rw (sym h1, sym h2, sym h3, sym h4) w

-- the first gate
pub first_at : (id : List ℕ) (job : JobSizes) (image : List ℕ) (old : Bool) (f : Found) → f.old ≡ old → f.kept ≡ 0 → due_of f ≡ start job old → f.gate ≡ 1 + length id
    → MayBeOld id old → take (1 + length id) image ≡ begin id old → IsAt id job image f
first_at id job image old f kind kept due gate may front = same_read id job image old f.old (start job old) (due_of f) 0 f.kept (1 + length id) f.gate (sym kind) (sym due) (sym kept) (sym gate) (read_start id job image old may front)

-- an image that begins so has more than one byte, and its head gate is open
pub begins : (id image : List ℕ) (old : Bool) → IsIdentity id → take (1 + length id) image ≡ begin id old → (1 < length image) × (get_or image 0 0 ≡ 1)
begins id image old named front = (
  omega (arith, named.long, ap length front, length-begin id old, length-take (1 + length id) image),
  sym (get_or-take (1 + length id) image 0 0 (omega arith)) ∙ ap (λ (l : List ℕ). get_or l 0 0) front,
)

-- what stands behind a gate, by 28 bytes
pub behind_gate : (job : JobSizes) (image head : List ℕ) (at len : ℕ) (ranged : Bool) (p : Place) (b : Behind) → len ≡ length image → at < len
    → ((k : ℕ) → k < length head → get_or head k 0 ≡ get_or image (at + 1 + k) 0) → length head ≡ 28
    → ((bytes : List ℕ) → length bytes ≡ len - (at + 1) → IsFrontOf head bytes → IsBehind job ranged p bytes (at + 1) b) → IsBehind job ranged p (drop (at + 1) image) (at + 1) b
behind_gate job image head at len ranged p b is there same long behind =
    behind (drop (at + 1) image) (length-drop (at + 1) image ∙ ap (λ (n : ℕ). n - (at + 1)) (sym is)) (λ k below. same k (omega arith) ∙ sym (get_or-drop (at + 1) image k 0))

none_mapped : (next : Option Spot) → next ≡ None → option_map place_at next ≡ None
none_mapped next none = ap (option_map place_at) none

same_due : (ranged : Bool) (next : Option Spot) (p : Spot) → next ≡ Some p → due_at ranged (place_at p) ≡ record { ranged = ranged; place = option_map place_at next }
same_due ranged next p is = ap (λ (o : Option Spot). record { ranged = ranged; place = option_map place_at o }) (sym is)

module _ (id : List ℕ) (job : JobSizes) (image : List ℕ) (f : Found) (w : IsAt id job image f) where
  pub found_here : f.gate < length image → (get_or image f.gate 0 ≡ 1 → f.next ≡ None) → IsFound id job image f
  found_here there stops = record {
    reading = record { old = f.old; things = w.things; due = due_of f };
    reads = read_reads id job image f.old (due_of f) f.kept f.gate w there (λ one. none_mapped f.next (stops one));
    end = record { old = refl; kept = w.many; gate = w.place; due = refl };
  }

  module _ (p : Spot) (due : f.next ≡ Some p) (there : f.gate < length image) (is_open : get_or image f.gate 0 ≡ 1) where
    pub step_record : (e : EpochPlan) (g : Found) → StandsBehind job f (place_at p) (Record e) image
        → g.kept ≡ f.kept + 1 → g.gate ≡ f.gate + (1 + record_size f.ranged e) → option_map place_at g.next ≡ place_after job e → g.ranged ≡ f.ranged → g.old ≡ f.old → IsAt id job image g
    step_record e g found kept gate place ranged same =
        let body = found.0 in
        let stands : StandsFirst job (due_of f) (drop (f.gate + 1) image) (Kept e body) = subst (λ (d : Due). StandsFirst job d (drop (f.gate + 1) image) (Kept e body)) (same_due f.ranged f.next p due) found.1 in
        let walked = read_more id job image f.old (due_of f) f.kept f.gate w (Kept e body) there is_open stands in
        let long : f.gate + (1 + length (text (due_of f) (Kept e body))) ≡ g.gate = ap (λ (n : ℕ). f.gate + (1 + n)) (length-record (due_of f) e body stands.fits.size) ∙ sym gate in
        let goes_on : ◌≡◌ {A = Due} (record { ranged = f.ranged; place = place_after job e }) (due_of g) = λ i. record { ranged = sym ranged i; place = sym place i } in
        same_read id job image f.old g.old _ (due_of g) _ g.kept _ g.gate (sym same) goes_on (sym kept) long walked

    pub step_mark : StandsBehind job f (place_at p) Mark image → IsAt id job image (record f { gate = f.gate + 25; ranged = true })
    step_mark found =
        let mark = found.0 in
        let stands : StandsFirst job (due_of f) (drop (f.gate + 1) image) (Turn mark) = subst (λ (d : Due). StandsFirst job d (drop (f.gate + 1) image) (Turn mark)) (same_due f.ranged f.next p due) found.1 in
        let walked = read_more id job image f.old (due_of f) f.kept f.gate w (Turn mark) there is_open stands in
        let size : 1 + length mark ≡ 25 = omega (arith, stands.fits.size) in
        let same : f.kept + 0 ≡ f.kept = omega arith in
        let turned : Due = record { ranged = true; place = option_map place_at f.next } in
        subst (λ (k : ℕ). IsReadTo id job image f.old turned k (f.gate + 25)) same (subst (λ (n : ℕ). IsReadTo id job image f.old turned (f.kept + 0) (f.gate + n)) size walked)

    pub step_fault : (d : Differs) → IsIdentity id → IsJob job → take (1 + length id) image ≡ begin id f.old → StandsBehind job f (place_at p) (Fault d) image → IsOther id job image d
    step_fault d named is begun fault =
        let b = begins id image f.old named begun in
        let len : f.gate + 1 + length (drop (f.gate + 1) image) ≡ length image = omega (arith, length-drop (f.gate + 1) image) in
        found_other id job image d named is b.0 b.1 (inr record {
          old = f.old;
          due = due_of f;
          kept = f.kept;
          at = f.gate;
          read = w;
          fault = inr (place_at p, ap (option_map place_at) due, is_open, subst (λ (n : ℕ). IsOfThing job f.ranged (place_at p) (drop (f.gate + 1) image) (f.gate + 1) n d) len fault.place);
        })

  -- the file ends where a gate is due
  pub step_past : (len : ℕ) → IsIdentity id → IsJob job → take (1 + length id) image ≡ begin id f.old → len ≡ length image → len ≤ f.gate → IsOther id job image (end_of len)
  step_past len named is begun there past =
      let b = begins id image f.old named begun in
      let inside = read_inside id job image f.old (due_of f) f.kept f.gate w in
      subst (λ (n : ℕ). IsOther id job image (end_of n)) (sym there)
      (found_other id job image (end_of (length image)) named is b.0 b.1 (inr record { old = f.old; due = due_of f; kept = f.kept; at = f.gate; read = w; fault = inl (omega arith, refl) }))

-- an open gate of an image of this length, with what stands behind it and before it
pub record IsSeen (id : List ℕ) (job : JobSizes) (f : Found) (p : Spot) (len gate : ℕ) (b : Behind) (image : List ℕ) : Type 0 where
  pub length_is : len ≡ length image
  pub byte : gate ≡ get_or image f.gate 0
  pub behind : StandsBehind job f (place_at p) b image
  pub before : IsAt id job image f

-- so it is seen, by reads that write nothing: first the gate's byte, then what stands behind it
pub told_seen : (id : List ℕ) (job : JobSizes) (f : Found) (p : Spot) (len gate : ℕ) (b e : Behind) (first second third : Option (List ℕ)) → second ≡ first → third ≡ second → b ≡ e
    → WhereTold first (λ image. len ≡ length image) → WhereTold second (λ image. gate ≡ get_or image f.gate 0)
    → WhereTold third (StandsBehind job f (place_at p) b) → WhereTold first (λ image. IsAt id job image f)
    → WhereTold first (IsSeen id job f p len gate e)
told_seen id job f p len gate b e first second third same same' is long byte behind before =
    told_four first (λ image. len ≡ length image) (λ image. gate ≡ get_or image f.gate 0) (StandsBehind job f (place_at p) e) (λ image. IsAt id job image f) (IsSeen id job f p len gate e)
    (λ image long byte behind before. record { length_is = long; byte = byte; behind = behind; before = before })
    long
    (told_again first second (λ image. gate ≡ get_or image f.gate 0) (sym same) byte)
    (told_again first third (StandsBehind job f (place_at p) e) (sym (same' ∙ same)) (subst (λ (a : Behind). WhereTold third (StandsBehind job f (place_at p) a)) is behind))
    before
