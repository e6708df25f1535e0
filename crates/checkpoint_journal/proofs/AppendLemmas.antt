-- A journal that stands on a disk, before and after an append.
use Rattle.std.specs.Prelude.{option_map, is_some, IfSome}
use Rattle.std.proofs.Common.{◌≡◌, ◌≢◌, inl, inr, ⊎_elim, ◌∙◌, ℕ, ◌+◌, ◌*◌, ◌^◌, ◌<◌, Bool, true, false, List, [], ◌∷◌, ◌++◌, length, Option, Some, None, refl, sym, ap, subst, arith, length-append}
use Rattle.dev_traits.specs.Told.{WhereTold}
use Rattle.dev_traits.specs.Moments.{IsDurable}
use Rattle.dev_traits.proofs.ToldLemmas.{WhereTold-weaker}
use Rattle.corr_model.specs.declared.cell.Cell.{Cell}
use Rattle.checkpoint_journal.specs.Cells.{body_text}
use Rattle.checkpoint_journal.specs.Runs.{Changes, StepTold, KeepsEpochs, OneMore, AddsEpoch, IsDue, Adds}
use Rattle.checkpoint_journal.proofs.RunLemmas.{changes_of, read_steps, told_value}
use Rattle.checkpoint_journal.proofs.ToldLemmas.{told_both}
use Rattle.checkpoint_journal.proofs.TextLemmas.{length-body_text}
use Rattle.piece_plan.specs.declared.epoch.EpochPlan.{EpochPlan}
use Rattle.piece_plan.specs.Epochs.{JobSizes, IsJob, IsEpoch, cell_count}
use Rattle.piece_plan.specs.Order.{Place, place_of, place_after}
use Rattle.plan_places.specs.declared.place.Place.{Place as Spot}
use Rattle.plan_places.specs.Places.{place_at, IsPlace}
use Rattle.journal_image.specs.Image.{Due, Kept, range_text, text, IsIdentity, KeptEpoch, records, Reading, Reads, Keeps, nothing, more}
use Rattle.journal_image.proofs.ReadingLemmas.{reads-AtGate, keeps_one}
use Rattle.journal_image.proofs.ThingLemmas.{text-ranged}
use Rattle.journal_image.proofs.KeptLemmas.{keeps_more}
use Rattle.checkpoint_journal.specs.declared.finding.Found.{Found}
use Rattle.checkpoint_journal.specs.Finding.{due_of, IsEnd, record_size}
use Rattle.checkpoint_journal.specs.Kept.{kept_epoch}
use Rattle.checkpoint_journal.specs.Standing.{JournalState, journal_state, IsGate, Knows, Stands}
use Rattle.checkpoint_journal.proofs.GateLemmas.{gate-more-things, gate_of-more}
use Rattle.checkpoint_journal.proofs.KeepLemmas.{adds_same}

-- a fact about no content, where another tells
told_still : (old new : Option (List ℕ)) (N : Type 0) → is_some new ≡ is_some old → WhereTold old (λ image. N) → WhereTold new (λ image. N)
told_still old None N same fact = tt
told_still None (Some image) N same fact = cc
told_still (Some v) (Some image) N same fact = fact

-- an image keeps the epochs of what it says
module _ (id : List ℕ) (job : JobSizes) (named : IsIdentity id) (is_job : IsJob job) where
  keeps_records : (v : List ℕ) (r : Reading) → Reads id job v r → Keeps id job v (records r.things)
  keeps_records v r reads = inr (r, reads, refl)

  same_kept : (v image : List ℕ) (r : Reading) → Reads id job v r → Reads id job image r → KeepsEpochs id job v image
  same_kept v image r before after kept = (
    λ keeps. inr (r, after, keeps_one id job v named is_job kept (records r.things) keeps (keeps_records v r before)),
    λ keeps. inr (r, before, keeps_one id job image named is_job kept (records r.things) keeps (keeps_records image r after)),
  )

  pub one_more : (v image : List ℕ) (r : Reading) (e : EpochPlan) (body : List ℕ) (k : ℕ) → Reads id job v r → Reads id job image (more job r (Kept e body)) → k ≡ length (records r.things)
      → OneMore id job k (record { epoch = e; body = body }) v image
  one_more v image r e body k before after many = record {
    old = records r.things;
    many = sym many;
    before = keeps_records v r before;
    after = inr (more job r (Kept e body), after, sym (keeps_more job r e body []).0);
  }

  pub adds_epoch : (u v image : List ℕ) (r : Reading) (e : EpochPlan) (body : List ℕ) (k : ℕ) → Reads id job u r → k ≡ length (records r.things)
      → Adds id job r (Kept e body) u v → Adds id job r (Kept e body) v image → AddsEpoch id job k (record { epoch = e; body = body }) v image
  adds_epoch u v image r e body k reads many first second = ⊎_elim
      (λ (still : Reads id job v r). ⊎_elim
      (λ (same : Reads id job image r). inl (same_kept v image r still same))
      (λ (one : Reads id job image (more job r (Kept e body))). inr (one_more v image r e body k still one many))
      (second.0 still))
      (λ (one : Reads id job v (more job r (Kept e body))). inl (same_kept v image (more job r (Kept e body)) one (second.1 one)))
      (first.0 reads)

-- an image that keeps what it kept
pub adds_epoch-same : (id : List ℕ) (job : JobSizes) (k : ℕ) (one : KeptEpoch) (v : List ℕ) → AddsEpoch id job k one v v
adds_epoch-same id job k one v = inl (λ kept. (λ keeps. keeps, λ keeps. keeps))

-- an image that says this, as the journal knows it
pub record KnowsAs (id : List ℕ) (job : JobSizes) (j : JournalState) (r : Reading) (image : List ℕ) : Type 0 where
  pub reads : Reads id job image r
  pub end : IsEnd id job r j.end
  pub here : IsGate id job r j.here

-- what the one image says, where it is told
pub known : (id : List ℕ) (job : JobSizes) (j : JournalState) (seen : Option (List ℕ)) → WhereTold seen (Knows id job j) → (r : Reading) × WhereTold seen (KnowsAs id job j r)
known id job j None knows = (nothing job, tt)
known id job j (Some v) knows = (knows.reading, record { reads = knows.reads; end = knows.end; here = knows.here })

some_next : (o : Option Spot) (p : Place) → option_map place_at o ≡ Some p → o ≢ None
some_next None p is none = cc
some_next (Some s) p is none = cc

-- the numbers behind one thing more
record Agrees (id : List ℕ) (job : JobSizes) (j : JournalState) (r : Reading) : Type 0 where
  end : IsEnd id job r j.end
  here : IsGate id job r j.here

same_due : (a b : Due) → a.ranged ≡ b.ranged → a.place ≡ b.place → a ≡ b
same_due a b ranged place = λ i. record { ranged = ranged i; place = place i }

module _ (id : List ℕ) (job : JobSizes) (j : JournalState) (seen : Option (List ℕ)) (images : List ℕ → Type 0) (stands : Stands id job j seen images) where
  -- the gate stands in the file
  pub stands_inside : WhereTold seen (λ image. j.end.gate < length image)
  stands_inside = WhereTold-weaker seen (Knows id job j) (λ image. j.end.gate < length image)
      (λ image knows. let at = reads-AtGate id job image knows.reading knows.reads in omega (arith, knows.end.gate, at.inside)) stands.image

  module _ (e : EpochPlan) (body : List ℕ) (begins : option_map place_at j.end.next ≡ Some (place_of e)) (fits : IsEpoch job e) (size : length body ≡ 24 * cell_count e) where
    pub stands_ranged : j.end.ranged ≡ true
    stands_ranged = stands.turned (some_next j.end.next (place_of e) begins)

    module _ (r : Reading) (knows : WhereTold seen (KnowsAs id job j r)) where
      with_range : (image : List ℕ) → KnowsAs id job j r image → r.due.ranged ≡ true
      with_range image known = ap (λ (d : Due). d.ranged) (sym known.end.due) ∙ stands_ranged

      -- a record of the epoch is due
      pub stands_due : WhereTold seen (IsDue id job r (Kept e body) j.end.gate (range_text e ++ body))
      stands_due = WhereTold-weaker seen (KnowsAs id job j r) (IsDue id job r (Kept e body) j.end.gate (range_text e ++ body)) (λ image known. record {
        reads = known.reads;
        fits = record {
          place = ap (λ (d : Due). d.place) (sym known.end.due) ∙ begins;
          epoch = fits;
          size = size;
          own = λ old. let no : true ≡ false = sym (with_range image known) ∙ old in cc;
        };
        place = known.end.gate;
        is = sym (text-ranged r.due e body (with_range image known));
      }) knows

      -- the journal behind it
      numbers : (end : Found) → end.old ≡ j.end.old → end.kept ≡ j.end.kept + 1 → end.gate ≡ j.end.gate + (1 + (28 + length body)) → end.ranged ≡ j.end.ranged
          → option_map place_at end.next ≡ place_after job e → (image : List ℕ) → KnowsAs id job j r image
          → Agrees id job (journal_state j.first end j.here j.failed) (more job r (Kept e body))
      numbers end old kept gate ranged next image known =
          let long : length (text r.due (Kept e body)) ≡ 28 + length body = ap length (text-ranged r.due e body (with_range image known)) ∙ length-append (range_text e) body in
          let many = ap length (keeps_more job r e body []).0 ∙ length-append (records r.things) (record { epoch = e; body = body } ∷ []) in
          record {
            end = record {
              old = old ∙ known.end.old;
              kept = omega (arith, kept, known.end.kept, many);
              gate = omega (arith, gate, known.end.gate, gate_of-more id job image r (Kept e body) known.reads, long);
              due = same_due (due_of end) (more job r (Kept e body)).due (ranged ∙ ap (λ (d : Due). d.ranged) known.end.due) next;
            };
            here = gate-more-things id job r (Kept e body) j.here known.here;
          }

      pub stands_more : (end : Found) (seen' : Option (List ℕ)) (images' : List ℕ → Type 0) → end.old ≡ j.end.old → end.kept ≡ j.end.kept + 1
          → end.gate ≡ j.end.gate + (1 + (28 + length body)) → end.ranged ≡ j.end.ranged → option_map place_at end.next ≡ place_after job e → IfSome end.next (λ p. IsPlace job (place_at p))
          → end.gate < 2 ^ 63 → is_some seen' ≡ is_some seen → WhereTold seen' (λ image. Reads id job image (more job r (Kept e body))) → IsDurable seen' images'
          → Stands id job (journal_state j.first end j.here j.failed) seen' images'
      stands_more end seen' images' old kept gate ranged next place short tells reads durable = record {
        sound = stands.sound;
        named = stands.named;
        plan = stands.plan;
        first = stands.first;
        version = stands.version ∙ sym old;
        places = (stands.places.0, (record { short = short; many = omega (arith, kept, gate, stands.places.1.0.many); next = place }, stands.places.1.1));
        turned = λ goes_on. ranged ∙ stands_ranged;
        within = omega (arith, kept, stands.within);
        before = omega (arith, gate, stands.before);
        image = told_both seen' (λ image. Agrees id job j' q) (λ image. Reads id job image q) (Knows id job j')
            (λ image agrees one. record { reading = q; reads = one; end = agrees.end; here = agrees.here })
            (told_still seen seen' (Agrees id job j' q) tells (WhereTold-weaker seen (KnowsAs id job j r) (λ image. Agrees id job j' q) (numbers end old kept gate ranged next) knows))
            reads;
        durable = durable;
      }
        where
          j' : JournalState
          j' = journal_state j.first end j.here j.failed

          q : Reading
          q = more job r (Kept e body)

-- A record of an epoch is written behind the last gate of a journal. Its fields say `j`, and contracts see `now`: the two are
-- equal.
module _ {D : Type 0} (seen : D → Option (List ℕ)) (moment : D → ℕ) (may_leave : D → ℕ → List ℕ → Type 0) (id : List ℕ) (job : JobSizes) (j now : JournalState) (view : j ≡ now) (old : D)
    (stands : Stands id job now (seen old) (may_leave old (moment old))) (e : EpochPlan) (cells : List Cell)
    (begins : option_map place_at now.end.next ≡ Some (place_of e)) (fits : IsEpoch job e) (counted : length cells ≡ cell_count e) where
  abbrev body : List ℕ
  body = body_text cells

  size : length body ≡ 24 * cell_count e
  size = length-body_text cells ∙ ap (λ (n : ℕ). 24 * n) counted

  before : Stands id job j (seen old) (may_leave old (moment old))
  before = subst (λ (s : JournalState). Stands id job s (seen old) (may_leave old (moment old))) (sym view) stands

  next_begins : option_map place_at j.end.next ≡ Some (place_of e)
  next_begins = subst (λ (s : JournalState). option_map place_at s.end.next ≡ Some (place_of e)) (sym view) begins

  many : now.end.kept ≡ j.end.kept
  many = ap (λ (s : JournalState). s.end.kept) (sym view)

  reading : (r : Reading) × WhereTold (seen old) (KnowsAs id job j r)
  reading = known id job j (seen old) before.image

  due : WhereTold (seen old) (IsDue id job reading.0 (Kept e body) j.end.gate (range_text e ++ body))
  due = stands_due id job j (seen old) (may_leave old (moment old)) before e body next_begins fits size reading.0 reading.1

  pub appended_stands : (end : Found) (new : D) → end.old ≡ j.end.old → end.kept ≡ j.end.kept + 1
      → end.gate ≡ j.end.gate + (1 + record_size j.end.ranged e) → end.ranged ≡ j.end.ranged → option_map place_at end.next ≡ place_after job e → IfSome end.next (λ p. IsPlace job (place_at p))
      → end.gate < 2 ^ 63 → is_some (seen new) ≡ is_some (seen old)
      → ((r : Reading) → WhereTold (seen old) (IsDue id job r (Kept e (body_text cells)) j.end.gate (range_text e ++ body_text cells))
      → WhereTold (seen new) (λ image. Reads id job image (more job r (Kept e (body_text cells)))))
      → IsDurable (seen new) (may_leave new (moment new)) → Stands id job (journal_state j.first end j.here j.failed) (seen new) (may_leave new (moment new))
  appended_stands end new first kept gate ranged next place short tells reads durable =
      let with_range = ap (λ (b : Bool). record_size b e) (stands_ranged id job j (seen old) (may_leave old (moment old)) before e body next_begins fits size) in
      stands_more id job j (seen old) (may_leave old (moment old)) before e body next_begins fits size reading.0 reading.1 end (seen new) (may_leave new (moment new))
      first kept (omega (arith, gate, with_range, size)) ranged next place short tells (reads reading.0 due) durable

  -- what is read keeps one epoch more
  pub appended_one_more : (new : D) → is_some (seen new) ≡ is_some (seen old)
      → ((r : Reading) → WhereTold (seen old) (IsDue id job r (Kept e (body_text cells)) j.end.gate (range_text e ++ body_text cells))
      → WhereTold (seen new) (λ image. Reads id job image (more job r (Kept e (body_text cells)))))
      → StepTold (OneMore id job now.end.kept (kept_epoch e cells)) (seen old) (seen new)
  appended_one_more new tells reads = read_steps (OneMore id job now.end.kept (kept_epoch e cells)) (seen old) (seen new) tells (λ v image was is.
      let known = told_value (seen old) (KnowsAs id job j reading.0) v was reading.1 in
      let after = told_value (seen new) (λ (w : List ℕ). Reads id job w (more job reading.0 (Kept e body))) image is (reads reading.0 due) in
      one_more id job stands.named stands.plan v image reading.0 e body now.end.kept known.reads after (many ∙ known.end.kept))

  -- each image of the write keeps what was kept, or one epoch more
  pub appended_changes : ((d : D) → WhereTold (seen d) (may_leave d (moment d))) → (new : D) → is_some (seen new) ≡ is_some (seen old)
      → ((r : Reading) → WhereTold (seen old) (IsDue id job r (Kept e (body_text cells)) j.end.gate (range_text e ++ body_text cells))
      → Changes seen moment may_leave (Adds id job r (Kept e (body_text cells))) old new)
      → Changes seen moment may_leave (AddsEpoch id job now.end.kept (kept_epoch e cells)) old new
  appended_changes law new tells changes =
      let r = reading.0 in
      changes_of seen moment may_leave (Adds id job r (Kept e body)) (AddsEpoch id job now.end.kept (kept_epoch e cells)) (adds_same id job stands.named stands.plan r (Kept e body))
      old new stands.durable (law new) tells (changes r due).runs (λ u v image is first second.
      let known = told_value (seen old) (KnowsAs id job j r) u is reading.1 in
      adds_epoch id job stands.named stands.plan u v image r e body now.end.kept known.reads (many ∙ known.end.kept) first second)
