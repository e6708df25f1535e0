-- What stands behind an open gate, from what was read there.
use Rattle.std.proofs.Common.{◌≡◌, ◌≢◌, ◌∙◌, ◌⊎◌, inl, inr, ℕ, ◌+◌, ◌-◌, ◌*◌, ◌<◌, ◌≤◌, Bool, true, false, List, ◌++◌, length, get_or, take, drop, Some, None, refl, sym, ap, subst, arith, append_assoc, length-append}
use Rattle.std.proofs.lemmas.List.{length-take, length-take-le, length-drop, get_or-take, take-append-drop, take_at, take_all, drop_at, drop-drop}
use Rattle.std.proofs.lemmas.Grind.{same_number_lists}
use Rattle.byteorder.specs.Endian.{little_bytes, little_from}
use Rattle.byteorder.specs.Numbers.{little_from-take, little_number-reads_back}
use Rattle.piece_plan.specs.declared.epoch.EpochPlan.{EpochPlan}
use Rattle.piece_plan.specs.Epochs.{JobSizes, IsJob, IsEpoch, IsOfPlan, cell_count}
use Rattle.piece_plan.specs.Order.{Place, place_of}
use Rattle.plan_places.specs.Walk.{cut_at}
use Rattle.journal_image.specs.declared.difference.Differs.{Differs}
use Rattle.journal_image.specs.declared.finding.Behind.{Behind}
use Rattle.journal_image.specs.declared.finding.Behind.TheVariants.{Fault}
use Rattle.journal_image.specs.Head.{place_text}
use Rattle.journal_image.specs.Image.{Thing, Kept, Turn, range_text, first_count, mark_count}
use Rattle.journal_image.specs.Difference.{IsRange, due_at, StandsFirst, end_of, IsOfThing}
use Rattle.journal_image.specs.Finding.{IsFault, IsBehind, IsFrontOf}
use Rattle.journal_image.proofs.Numbers.{little_from-places, little_from-drop, little_from-front, read_number, bytes_at}
use Rattle.journal_image.proofs.ThingLemmas.{some_same, some_cells, epoch-IsOfPlan, length-place, same_epoch}

pub mark_stands : (job : JobSizes) (p : Place) (bytes : List ℕ) → 24 ≤ length bytes → little_from 16 8 bytes ≡ mark_count
    → StandsFirst job (due_at false p) bytes (Turn (take 24 bytes))
mark_stands job p bytes long count = record {
  fits = record { old = refl; more = λ e. cc; size = length-take-le 24 bytes long; count = little_from-take 16 8 24 bytes (omega arith) ∙ count };
  tail = drop 24 bytes;
  is = sym (take-append-drop 24 bytes);
}

-- a record without a range
pub old_stands : (job : JobSizes) (p : Place) (bytes : List ℕ) (e : EpochPlan) → IsOfPlan e → cut_at job job.epoch p ≡ Some e → place_of e ≡ p → IsEpoch job e
    → little_from 16 8 bytes ≢ mark_count → 24 * cell_count e ≤ length bytes → StandsFirst job (due_at false p) bytes (Kept e (take (24 * cell_count e) bytes))
old_stands job p bytes e plan cut begins fits count long =
    let cells = some_cells e plan in
    record {
      fits = record {
        place = ap (λ (q : Place). Some q) (sym begins);
        epoch = fits;
        size = length-take-le (24 * cell_count e) bytes long;
        own = λ old. record {
          cut = ap (cut_at job job.epoch) begins ∙ cut;
          count = λ max. count (sym (little_from-take 16 8 (24 * cell_count e) bytes (omega arith)) ∙ max);
        };
      };
      tail = drop (24 * cell_count e) bytes;
      is = sym (take-append-drop (24 * cell_count e) bytes);
    }

-- how many bytes there are where a thing stands first and records have no range
old_long : (job : JobSizes) (is : IsJob job) (p : Place) (bytes : List ℕ) (t : Thing) → StandsFirst job (due_at false p) bytes t
    → (24 ≤ length bytes) × ((e : EpochPlan) → cut_at job job.epoch p ≡ Some e → little_from 16 8 bytes ≢ mark_count → 24 * cell_count e ≤ length bytes)
old_long job is p bytes (Turn m) stands =
    let fits = stands.fits in (
      omega (arith, ap length stands.is, length-append m stands.tail, fits.size),
      λ e cut count. absurd (count (ap first_count stands.is ∙ little_from-front 16 8 m stands.tail (omega (arith, fits.size)) ∙ fits.count)),
    )
old_long job is p bytes (Kept f body) stands =
    let fits = stands.fits in
    let cells = some_cells f (epoch-IsOfPlan job f is fits.epoch) in
    let long : 24 * cell_count f ≤ length bytes = omega (arith, ap length stands.is, length-append body stands.tail, fits.size) in (
      omega arith,
      λ e cut count.
          let begins : p ≡ place_of f = some_same p (place_of f) fits.place in
          let same : f ≡ e = some_same f e (sym (fits.own refl).cut ∙ ap (cut_at job job.epoch) (sym begins) ∙ cut) in
          subst (λ (g : EpochPlan). 24 * cell_count g ≤ length bytes) same long,
    )

-- what is known of bytes that begin with a record with its range
record BeginsRanged (job : JobSizes) (p : Place) (bytes : List ℕ) : Type 0 where
  pub e : EpochPlan
  pub range : IsRange job p (little_from 20 8 bytes) e
  pub front : take 20 bytes ≡ place_text p
  pub long : 28 + 24 * cell_count e ≤ length bytes

stands-BeginsRanged : (job : JobSizes) (p : Place) (bytes : List ℕ) (t : Thing) → IsJob job → StandsFirst job (due_at true p) bytes t → BeginsRanged job p bytes
stands-BeginsRanged job p bytes (Turn m) is stands = let never : true ≡ false = stands.fits.old in cc
stands-BeginsRanged job p bytes (Kept e body) is stands =
    let fits = stands.fits in
    let begins : p ≡ place_of e = some_same p (place_of e) fits.place in
    let behind = little_bytes 8 e.to ++ (body ++ stands.tail) in
    let whole : bytes ≡ place_text (place_of e) ++ behind =
    stands.is ∙ append_assoc (range_text e) body stands.tail ∙ append_assoc (place_text (place_of e)) (little_bytes 8 e.to) (body ++ stands.tail) in
    let size : length (place_text (place_of e) ++ behind) ≡ 28 + (length body + length stands.tail) =
    omega (arith, length-append (place_text (place_of e)) behind, length-append (little_bytes 8 e.to) (body ++ stands.tail), length-append body stands.tail) in
    let low = epoch-IsOfPlan job e is fits.epoch in
    let back : drop 20 bytes ≡ behind = ap (drop 20) whole ∙ drop_at (place_text (place_of e)) behind 20 (length-place (place_of e)) in
    let to : little_from 20 8 bytes ≡ e.to =
    sym (little_from-drop 8 20 bytes) ∙ ap (little_from 0 8) back ∙ little_number-reads_back 8 e.to (body ++ stands.tail) (omega (arith, low.to)) in
    record {
      e = e;
      range = record { begins = sym begins; ends = sym to; fits = fits.epoch };
      front = ap (take 20) whole ∙ take_at (place_text (place_of e)) behind 20 (length-place (place_of e)) ∙ ap place_text (sym begins);
      long = omega (arith, ap length whole, size, fits.size);
    }

pub range_stands : (job : JobSizes) (p : Place) (bytes : List ℕ) (e : EpochPlan) → ((k : ℕ) → k < 28 → get_or bytes k 0 < 256)
    → IsRange job p (little_from 20 8 bytes) e → take 20 bytes ≡ place_text p → 28 + 24 * cell_count e ≤ length bytes
    → StandsFirst job (due_at true p) bytes (Kept e (take (24 * cell_count e) (drop 28 bytes)))
range_stands job p bytes e are range front long =
    let n = 24 * cell_count e in
    let body = take n (drop 28 bytes) in
    let rest = drop n (drop 28 bytes) in
    let to : little_bytes 8 e.to ≡ take 8 (drop 20 bytes) =
    ap (little_bytes 8) range.ends ∙ bytes_at 8 20 bytes (omega (arith, long)) (λ k below. are (20 + k) (omega (arith, below))) in
    let end : drop 20 bytes ≡ little_bytes 8 e.to ++ (body ++ rest) =
    sym (take-append-drop 8 (drop 20 bytes))
    ∙ ap (λ (l : List ℕ). l ++ drop 8 (drop 20 bytes)) (sym to)
    ∙ ap (λ (l : List ℕ). little_bytes 8 e.to ++ l) (drop-drop 8 20 bytes ∙ sym (take-append-drop n (drop 28 bytes))) in
    record {
      fits = record {
        place = ap (λ (q : Place). Some q) (sym range.begins);
        epoch = range.fits;
        size = length-take-le n (drop 28 bytes) (omega (arith, length-drop 28 bytes));
        own = λ old. cc;
      };
      tail = rest;
      is = sym (take-append-drop 20 bytes)
          ∙ ap (λ (l : List ℕ). l ++ drop 20 bytes) (front ∙ ap place_text (sym range.begins))
          ∙ ap (λ (l : List ℕ). place_text (place_of e) ++ l) end
          ∙ sym (append_assoc (place_text (place_of e)) (little_bytes 8 e.to) (body ++ rest))
          ∙ sym (append_assoc (range_text e) body rest);
    }

-- bytes that are the same at each place have one front
same_take : (n : ℕ) (bytes part : List ℕ) → n ≤ length bytes → n ≤ length part → ((k : ℕ) → k < n → get_or bytes k 0 ≡ get_or part k 0) → take n bytes ≡ take n part
same_take n bytes part long long' same =
    same_number_lists (take n bytes) (take n part) (length-take-le n bytes long ∙ sym (length-take-le n part long')) (λ i lt.
    let below : i < n = omega (arith, length-take-le n bytes long) in
    get_or-take n bytes i 0 below ∙ same i below ∙ sym (get_or-take n part i 0 below))

pub place_front : (p : Place) (bytes : List ℕ) → 20 ≤ length bytes → ((k : ℕ) → k < 20 → get_or bytes k 0 ≡ get_or (place_text p) k 0) → take 20 bytes ≡ place_text p
place_front p bytes long same = same_take 20 bytes (place_text p) long (omega (arith, length-place p)) same ∙ take_all 20 (place_text p) (omega (arith, length-place p))

-- where bytes differ no thing that fits stands first
pub thing-none : (job : JobSizes) (ranged : Bool) (p : Place) (bytes : List ℕ) (at len : ℕ) (d : Differs) → IsJob job → IsOfThing job ranged p bytes at len d
    → (t : Thing) → ¬ StandsFirst job (due_at ranged p) bytes t
thing-none job ranged p bytes at len d is (inl (r, inl place)) t stands =
    let s = stands-BeginsRanged job p bytes t is (subst (λ (b : Bool). StandsFirst job (due_at b p) bytes t) r stands) in
    place.other (sym (get_or-take 20 bytes place.k 0 place.inside) ∙ ap (λ (l : List ℕ). get_or l place.k 0) s.front)
thing-none job ranged p bytes at len d is (inl (r, inr end)) t stands =
    let s = stands-BeginsRanged job p bytes t is (subst (λ (b : Bool). StandsFirst job (due_at b p) bytes t) r stands) in
    end.unfit s.e s.range
thing-none job ranged p bytes at len d is (inr cut) t stands = cut.short t stands

thing-fault : (job : JobSizes) (ranged : Bool) (p : Place) (bytes : List ℕ) (at len : ℕ) (d : Differs) → IsJob job → IsOfThing job ranged p bytes at len d
    → IsFault job ranged p bytes at len d
thing-fault job ranged p bytes at len d is thing = record { none = thing-none job ranged p bytes at len d is thing; place = thing }

-- the file ends before a thing without a range does
pub old_short : (job : JobSizes) (p : Place) (bytes : List ℕ) (at : ℕ) (e : EpochPlan) → IsJob job → cut_at job job.epoch p ≡ Some e
    → (length bytes < 24) ⊎ ((little_from 16 8 bytes ≢ mark_count) × (length bytes < 24 * cell_count e))
    → IsFault job false p bytes at (at + length bytes) (end_of (at + length bytes))
old_short job p bytes at e is cut short =
    thing-fault job false p bytes at (at + length bytes) _ is (inr (record { begun = λ ranged. cc; short = λ t stands. past t stands short; is = refl }))
  where
    past : (t : Thing) → StandsFirst job (due_at false p) bytes t → (length bytes < 24) ⊎ ((little_from 16 8 bytes ≢ mark_count) × (length bytes < 24 * cell_count e)) → ⊥
    past t stands (inl few) = let long = (old_long job is p bytes t stands).0 in omega arith
    past t stands (inr both) = let long = (old_long job is p bytes t stands).1 e cut both.0 in omega (arith, both.1)

module _ (job : JobSizes) (p : Place) (bytes : List ℕ) (at : ℕ) (is : IsJob job) where
  -- another byte than the place's
  pub fault_place : (k : ℕ) → k < 20 → k < length bytes → ((j : ℕ) → j < k → get_or bytes j 0 ≡ get_or (place_text p) j 0)
      → get_or bytes k 0 ≢ get_or (place_text p) k 0
      → IsFault job true p bytes at (at + length bytes) record { at = at + k; kept = Some (get_or bytes k 0); ours = Some (get_or (place_text p) k 0) }
  fault_place k inside there same other = thing-fault job true p bytes at (at + length bytes) _ is (inl (
    refl,
    inl (record {
      k = k;
      inside = inside;
      there = there;
      same = same_take k bytes (place_text p) (omega arith) (omega (arith, length-place p)) same;
      other = other;
      is = refl;
    }),
  ))

  -- an end with which no epoch goes
  pub fault_end : 28 ≤ length bytes → take 20 bytes ≡ place_text p → ((e : EpochPlan) → ¬ IsRange job p (little_from 20 8 bytes) e)
      → IsFault job true p bytes at (at + length bytes) record { at = at + 20; kept = Some (get_or bytes 20 0); ours = None }
  fault_end there front unfit =
      thing-fault job true p bytes at (at + length bytes) _ is (inl (refl, inr (record { there = there; same = front; unfit = unfit; is = refl })))

  -- the file ends inside the range
  pub fault_short : (n : ℕ) → n ≡ length bytes → n < 28 → ((k : ℕ) → k < n → k < 20 → get_or bytes k 0 ≡ get_or (place_text p) k 0)
      → IsFault job true p bytes at (at + length bytes) (end_of (at + length bytes))
  fault_short n long few same = thing-fault job true p bytes at (at + length bytes) _ is (inr (record {
    begun = λ ranged. record {
      same = same_number_lists (take 20 bytes) (take (length bytes) (place_text p))
          (omega (arith, length-take 20 bytes, length-take (length bytes) (place_text p), length-place p)) (λ i lt.
          let low : i < 20 = omega (arith, length-take 20 bytes) in
          let there : i < length bytes = omega (arith, length-take 20 bytes) in
          get_or-take 20 bytes i 0 low ∙ same i (omega arith) low ∙ sym (get_or-take (length bytes) (place_text p) i 0 there));
      fits = λ enough. absurd (omega arith);
    };
    short = λ t stands. let s = stands-BeginsRanged job p bytes t is stands in let h = s.long in omega arith;
    is = refl;
  }))

  -- it ends inside the cells
  pub fault_cells : (e : EpochPlan) → IsRange job p (little_from 20 8 bytes) e → 28 ≤ length bytes → take 20 bytes ≡ place_text p → length bytes < 28 + 24 * cell_count e
      → IsFault job true p bytes at (at + length bytes) (end_of (at + length bytes))
  fault_cells e range there front few = thing-fault job true p bytes at (at + length bytes) _ is (inr (record {
    begun = λ ranged. record {
      same = front ∙ sym (take_all (length bytes) (place_text p) (omega (arith, length-place p)));
      fits = λ enough. (e, range);
    };
    short = λ t stands.
        let s = stands-BeginsRanged job p bytes t is stands in
        let one = same_epoch job s.e e s.range.fits range.fits (s.range.begins ∙ sym range.begins) (s.range.ends ∙ sym range.ends) in
        let long = subst (λ (f : EpochPlan). 28 + 24 * cell_count f ≤ length bytes) one s.long in
        omega arith;
    is = refl;
  }))

-- a number that is read of the first 28 bytes
pub front_number : (a : ℕ) (head bytes : List ℕ) (x : ℕ) → a + 8 ≤ 28 → IsFrontOf head bytes
    → x ≡ little_from 0 8 (take (length head - a) (drop a head)) → x ≡ little_from a 8 bytes
front_number a head bytes x inside front is = read_number 8 a head x is ∙ little_from-places 8 a a head bytes (λ k below. front (a + k) (omega arith))

-- Of the first 28 bytes k are those of a head that begins with a place; so are the bytes themselves.
pub place_same : (head bytes due : List ℕ) (p : Place) (k : ℕ) → k ≤ 20 → IsFrontOf head bytes → ((j : ℕ) → j < 20 → get_or due j 0 ≡ get_or (place_text p) j 0)
    → ((j : ℕ) → j < k → get_or head j 0 ≡ get_or due j 0) → (j : ℕ) → j < k → get_or bytes j 0 ≡ get_or (place_text p) j 0
place_same head bytes due p k low front is same j below = sym (front j (omega arith)) ∙ same j below ∙ is j (omega arith)

-- the place and the end of a range, where the first 28 bytes begin with the place
pub front_stands : (head bytes due : List ℕ) (p : Place) (k x : ℕ) → 28 ≤ length bytes → 20 ≤ k → IsFrontOf head bytes
    → ((j : ℕ) → j < 20 → get_or due j 0 ≡ get_or (place_text p) j 0) → ((j : ℕ) → j < k → get_or head j 0 ≡ get_or due j 0)
    → x ≡ little_from 0 8 (take (length head - 20) (drop 20 head)) → (take 20 bytes ≡ place_text p) × (x ≡ little_from 20 8 bytes)
front_stands head bytes due p k x long whole front is same read = (
  place_front p bytes (omega (arith, long)) (place_same head bytes due p 20 (omega arith) front is (λ j below. same j (omega (arith, below, whole)))),
  front_number 20 head bytes x (omega arith) front read,
)

-- a fault at the file's end as it is answered
pub fault_at : (job : JobSizes) (ranged : Bool) (p : Place) (bytes : List ℕ) (at left : ℕ) (answer : Behind) → length bytes ≡ left → answer ≡ Fault (end_of (at + left))
    → IsFault job ranged p bytes at (at + length bytes) (end_of (at + length bytes)) → IsBehind job ranged p bytes at answer
fault_at job ranged p bytes at left answer long is fault =
    subst (IsBehind job ranged p bytes at) (sym (is ∙ ap (λ (n : ℕ). Fault (end_of (at + n))) (sym long))) fault
