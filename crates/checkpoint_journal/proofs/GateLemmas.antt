-- The gates of a journal.
use Rattle.std.proofs.Common.{◌≡◌, ◌∙◌, ℕ, ◌+◌, ◌≤◌, List, [], ◌∷◌, ◌++◌, length, Option, Some, refl, sym, ap, arith, append-nil, append_assoc, length-append}
use Rattle.dev_traits.specs.Moments.{IsDurable}
use Rattle.dev_traits.specs.Told.{WhereTold}
use Rattle.dev_traits.proofs.ToldLemmas.{WhereTold-weaker}
use Rattle.piece_plan.specs.Epochs.{JobSizes}
use Rattle.journal_image.specs.Image.{Thing, text, Fits, next, Covers, things_text, start, Reading, Reads, gate_of, more}
use Rattle.journal_image.proofs.RowLemmas.{row_text-append}
use Rattle.checkpoint_journal.specs.declared.finding.Found.{Found}
use Rattle.checkpoint_journal.specs.Finding.{HasPlace}
use Rattle.checkpoint_journal.specs.Runs.{Looks}
use Rattle.checkpoint_journal.proofs.RunLemmas.{durable_looks}
use Rattle.checkpoint_journal.proofs.ToldLemmas.{told_again}
use Rattle.checkpoint_journal.specs.Standing.{JournalState, journal_state, IsFirst, IsGate, Knows, Stands, StandsAtRest}

-- the first gate is one of every reading
pub first-IsGate : (id : List ℕ) (job : JobSizes) (r : Reading) (f : Found) → IsFirst id job f → f.old ≡ r.old → IsGate id job r f
first-IsGate id job r f first old = record {
  before = [];
  after = r.things;
  is = refl;
  goes = sym (first.due ∙ ap (start job) old);
  old = old;
  kept = first.kept;
  gate = omega (arith, first.gate);
}

-- one thing more changes no gate before it
pub gate-more-things : (id : List ℕ) (job : JobSizes) (r : Reading) (t : Thing) (f : Found) → IsGate id job r f → IsGate id job (more job r t) f
gate-more-things id job r t f gate = record {
  before = gate.before;
  after = gate.after ++ t ∷ [];
  is = ap (λ (l : List Thing). l ++ t ∷ []) gate.is ∙ append_assoc gate.before gate.after (t ∷ []);
  goes = gate.goes;
  old = gate.old;
  kept = gate.kept;
  gate = gate.gate;
}

-- the gate behind one thing more
pub gate_of-more : (id : List ℕ) (job : JobSizes) (image : List ℕ) (r : Reading) (t : Thing) → Reads id job image r
    → gate_of id job (more job r t) ≡ gate_of id job r + (1 + length (text r.due t))
gate_of-more id job image r t reads =
    let before = things_text job (start job r.old) r.things in
    let row : things_text job (start job r.old) (r.things ++ t ∷ []) ≡ before ++ (1 ∷ text r.due t) =
    row_text-append (Fits job) text (next job) Covers (start job r.old) r.due r.things (t ∷ []) reads.row.goes ∙ ap (λ (l : List ℕ). before ++ (1 ∷ l)) (append-nil (text r.due t)) in
    omega (arith, ap length row, length-append before (1 ∷ text r.due t))

-- A journal whose cursor goes to another gate, also where the disk leaves other images: it stands as it stood, where the gate is one of
-- what the image says.
pub stands_with : (id : List ℕ) (job : JobSizes) (j : JournalState) (seen seen' : Option (List ℕ)) (images images' : List ℕ → Type 0) (f : Found) → HasPlace job f → f.kept ≤ j.end.kept → f.gate ≤ j.end.gate
    → WhereTold seen' (Knows id job (journal_state j.first j.end f j.failed)) → IsDurable seen' images' → Stands id job j seen images → Stands id job (journal_state j.first j.end f j.failed) seen' images'
stands_with id job j seen seen' images images' f place within before image durable stands = record {
  sound = stands.sound;
  named = stands.named;
  plan = stands.plan;
  first = stands.first;
  version = stands.version;
  places = (stands.places.0, (stands.places.1.0, place));
  turned = stands.turned;
  within = within;
  before = before;
  image = image;
  durable = durable;
}

-- a journal that goes back to its first gate
pub stands_rewound : (id : List ℕ) (job : JobSizes) (j : JournalState) (seen : Option (List ℕ)) (images : List ℕ → Type 0) → j.first.gate ≤ j.end.gate
    → Stands id job j seen images → Stands id job (journal_state j.first j.end j.first j.failed) seen images
stands_rewound id job j seen images before stands =
    stands_with id job j seen seen images images j.first stands.places.0 (omega (arith, stands.first.kept)) before
    (WhereTold-weaker seen (Knows id job j) (Knows id job (journal_state j.first j.end j.first j.failed)) (λ image knows. record {
      reading = knows.reading;
      reads = knows.reads;
      end = knows.end;
      here = first-IsGate id job knows.reading j.first stands.first (stands.version ∙ knows.end.old);
    }) stands.image) stands.durable stands

-- what is known of a journal does not depend on what a crash leaves
pub stands_durable : (id : List ℕ) (job : JobSizes) (j : JournalState) (seen : Option (List ℕ)) (images images' : List ℕ → Type 0) → IsDurable seen images'
    → Stands id job j seen images → Stands id job j seen images'
stands_durable id job j seen images images' durable stands = stands_with id job j seen seen images images' j.here stands.places.1.1 stands.within stands.before stands.image durable stands

-- nor on a run of calls that only look
pub stands_looked : {D : Type 0} (seen : D → Option (List ℕ)) (moment : D → ℕ) (may_leave : D → ℕ → List ℕ → Type 0) (id : List ℕ) (job : JobSizes) (j : JournalState) (old new : D) → Looks seen moment may_leave old new
    → Stands id job j (seen old) (may_leave old (moment old)) → Stands id job j (seen new) (may_leave new (moment new))
stands_looked seen moment may_leave id job j old new looks stands =
    stands_with id job j (seen old) (seen new) (may_leave old (moment old)) (may_leave new (moment new)) j.here stands.places.1.1 stands.within stands.before (told_again (seen new) (seen old) (Knows id job j) looks.same stands.image)
    (durable_looks seen moment may_leave old new looks stands.durable) stands

-- a call that only moves the journal keeps it standing, where it keeps it standing at rest
pub stands_moved : (id : List ℕ) (job : JobSizes) (old new : JournalState) (seen : Option (List ℕ)) (images : List ℕ → Type 0)
    → (StandsAtRest id job old seen → StandsAtRest id job new seen) → Stands id job old seen images → Stands id job new seen images
stands_moved id job old new seen images moves stands =
    stands_durable id job new seen (λ image. seen ≡ Some image) images stands.durable
    (moves (stands_durable id job old seen images (λ image. seen ≡ Some image) (λ image is. is) stands))
