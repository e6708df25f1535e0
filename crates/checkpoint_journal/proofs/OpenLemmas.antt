-- The mark that an opening writes behind the last record of an old journal.
use Rattle.std.specs.Prelude.{option_map, is_some}
use Rattle.std.proofs.Common.{◌≡◌, ◌≢◌, ◌⊎◌, inl, inr, ◌∙◌, ℕ, ◌+◌, ◌<◌, true, false, List, [], ◌∷◌, ◌++◌, length, Option, Some, None, refl, sym, ap, subst, arith}
use Rattle.dev_traits.specs.Told.{WhereTold}
use Rattle.dev_traits.specs.Moments.{IsDurable}
use Rattle.dev_traits.proofs.ToldLemmas.{WhereTold-weaker}
use Rattle.piece_plan.specs.Epochs.{JobSizes, IsJob}
use Rattle.plan_places.specs.declared.place.Place.{Place as Spot}
use Rattle.plan_places.specs.Places.{place_at}
use Rattle.checkpoint_journal.specs.Runs.{Changes, IsDue, Adds, KeepsEpochs, IsOurs}
use Rattle.checkpoint_journal.proofs.RunLemmas.{changes_of, told_value}
use Rattle.checkpoint_journal.proofs.ToldLemmas.{told_both, told_again}
use Rattle.journal_image.specs.Image.{is_blank, Due, Thing, Kept, Turn, mark_text, records, KeptEpoch, IsIdentity, start, Reading, Reads, Keeps, nothing, more, gate_of}
use Rattle.journal_image.proofs.ReadingLemmas.{reads-AtGate}
use Rattle.checkpoint_journal.specs.declared.finding.Found.{Found}
use Rattle.checkpoint_journal.specs.declared.finding.Finding.{Finding}
use Rattle.checkpoint_journal.specs.declared.finding.Finding.TheVariants.{Blank, Ours}
use Rattle.checkpoint_journal.specs.Finding.{due_of, IsEnd, IsFound, Finds, HasPlace}
use Rattle.checkpoint_journal.specs.Opening.{IsReady}
use Rattle.checkpoint_journal.proofs.GateLemmas.{gate_of-more}
use Rattle.checkpoint_journal.proofs.BeginLemmas.{both_keep, begun-Reads, reads-Keeps}

-- what was found, in the content as it is told again
pub told_finds : (id : List ℕ) (job : JobSizes) (old now : Option (List ℕ)) (f e : Finding) → f ≡ e → now ≡ old → WhereTold old (λ image. Finds id job image f) → WhereTold now (λ image. Finds id job image e)
told_finds id job old now f e is same finds =
    told_again now old (λ image. Finds id job image e) same (subst (λ (g : Finding). WhereTold old (λ image. Finds id job image g)) is finds)

-- the last gate stands in the file
pub found_inside : (id : List ℕ) (job : JobSizes) (image : List ℕ) (f : Found) → IsFound id job image f → f.gate < length image
found_inside id job image f found =
    let at = reads-AtGate id job image found.reading found.reads in omega (arith, found.end.gate, at.inside)

-- neither a file of this job's form nor a blank one is of another job
pub found_ours : (id : List ℕ) (job : JobSizes) (image : List ℕ) (f : Found) → IsFound id job image f → IsOurs id job image
found_ours id job image f found = (records found.reading.things, reads-Keeps id job image found.reading found.reads)

pub blank_ours : (id : List ℕ) (job : JobSizes) (image : List ℕ) → is_blank image ≡ true → IsOurs id job image
blank_ours id job image blank = ([], inl (blank, refl))

-- so it was where what it is was found
pub blank_spared : (id : List ℕ) (job : JobSizes) (old now : Option (List ℕ)) (f : Finding) → f ≡ Blank → now ≡ old → WhereTold now (λ image. Finds id job image f) → WhereTold old (IsOurs id job)
blank_spared id job old now f is same finds =
    told_again old now (IsOurs id job) (sym same) (WhereTold-weaker now (λ image. is_blank image ≡ true) (IsOurs id job) (blank_ours id job) (told_finds id job now now f Blank is refl finds))

pub found_spared : (id : List ℕ) (job : JobSizes) (old now : Option (List ℕ)) (f : Finding) (end : Found) → f ≡ Ours end → now ≡ old → WhereTold now (λ image. Finds id job image f) → WhereTold old (IsOurs id job)
found_spared id job old now f end is same finds =
    told_again old now (IsOurs id job) (sym same) (WhereTold-weaker now (λ image. IsFound id job image end) (IsOurs id job) (λ image found. found_ours id job image end found) (told_finds id job now now f (Ours end) is refl finds))

-- a journal that was begun just now, and its one gate
pub begun_found : (id : List ℕ) (job : JobSizes) (image : List ℕ) (f : Found) → image ≡ 1 ∷ (id ++ 0 ∷ []) → f.old ≡ false → f.kept ≡ 0 → due_of f ≡ start job false → f.gate ≡ 1 + length id → IsFound id job image f
begun_found id job image f is old kept due gate = record {
  reading = nothing job;
  reads = begun-Reads id job image is;
  end = record { old = old; kept = kept; gate = omega (arith, gate); due = due };
}

pub begun_ready : (id : List ℕ) (job : JobSizes) (f : Found) → due_of f ≡ start job false → f.gate ≡ 1 + length id → HasPlace job f → IsReady id job f
begun_ready id job f due gate place = record { place = place; turned = λ some. ap (λ (d : Due). d.ranged) due; behind = omega (arith, gate) }

-- a mark is no record
records-mark : (things : List Thing) (mark : List ℕ) → records (things ++ Turn mark ∷ []) ≡ records things
records-mark [] mark = refl
records-mark (Kept e body ∷ things) mark = ap (λ (l : List KeptEpoch). record { epoch = e; body = body } ∷ l) (records-mark things mark)
records-mark (Turn bytes ∷ things) mark = records-mark things mark

none_placed : (o : Option Spot) → option_map place_at o ≡ None → o ≡ None
none_placed None is = refl
none_placed (Some p) is = cc

-- the gate behind a mark
abbrev pub past : Found → Found
past f = record f { gate = f.gate + 25; ranged = true }

-- the mark is due, and behind it stands the gate that ends the row then
pub record MarkDue (id : List ℕ) (job : JobSizes) (f : Found) (seen : Option (List ℕ)) : Type 0 where
  pub reading : Reading
  pub due : WhereTold seen (IsDue id job reading (Turn mark_text) f.gate mark_text)
  pub end : WhereTold seen (λ image. IsEnd id job (more job reading (Turn mark_text)) (past f))

marked_end : (id : List ℕ) (job : JobSizes) (image : List ℕ) (f : Found) (found : IsFound id job image f) → IsEnd id job (more job found.reading (Turn mark_text)) (past f)
marked_end id job image f found = record {
  old = found.end.old;
  kept = found.end.kept ∙ ap length (sym (records-mark found.reading.things mark_text));
  gate = let further : gate_of id job (more job found.reading (Turn mark_text)) ≡ gate_of id job found.reading + 25 = gate_of-more id job image found.reading (Turn mark_text) found.reads in
      ap (λ (n : ℕ). n + 25) found.end.gate ∙ sym further;
  due = ap (λ (d : Due). record { ranged = true; place = d.place }) found.end.due;
}

pub mark_due : (id : List ℕ) (job : JobSizes) (f : Found) (seen : Option (List ℕ)) → f.ranged ≡ false → f.next ≢ None → WhereTold seen (λ image. IsFound id job image f) → MarkDue id job f seen
mark_due id job f None old goes_on found = record { reading = nothing job; due = tt; end = tt }
mark_due id job f (Some image) old goes_on found = record {
  reading = found.reading;
  due = record {
    reads = found.reads;
    fits = record {
      old = ap (λ (d : Due). d.ranged) (sym found.end.due) ∙ old;
      more = λ none. goes_on (none_placed f.next (ap (λ (d : Due). d.place) found.end.due ∙ none));
      size = refl;
      count = refl;
    };
    place = found.end.gate;
    is = refl;
  };
  end = marked_end id job image f found;
}

-- a fact about no content, where another tells
told_still : (old new : Option (List ℕ)) (N : Type 0) → is_some new ≡ is_some old → WhereTold old (λ image. N) → WhereTold new (λ image. N)
told_still old None N same fact = tt
told_still None (Some image) N same fact = cc
told_still (Some v) (Some image) N same fact = fact

-- the journal behind its mark
pub mark_found : (id : List ℕ) (job : JobSizes) (f : Found) (old new : Option (List ℕ)) (m : MarkDue id job f old) → is_some new ≡ is_some old
    → WhereTold new (λ image. Reads id job image (more job m.reading (Turn mark_text))) → WhereTold new (λ image. IsFound id job image (past f))
mark_found id job f old new m tells reads =
    let marked = more job m.reading (Turn mark_text) in
    told_both new (λ image. Reads id job image marked) (λ image. IsEnd id job marked (past f)) (λ image. IsFound id job image (past f))
    (λ image there end. record { reading = marked; reads = there; end = end })
    reads (told_still old new (IsEnd id job marked (past f)) tells m.end)

module _ (id : List ℕ) (job : JobSizes) (named : IsIdentity id) (is : IsJob job) (r : Reading) where
  adds_stay : (t : Thing) (v : List ℕ) → Adds id job r t v v
  adds_stay t v = (λ reads. inl reads, λ reads. reads)

  -- an image that says r, or that and a mark, keeps the epochs of r
  keeps_of : (image : List ℕ) → Reads id job image r ⊎ Reads id job image (more job r (Turn mark_text)) → Keeps id job image (records r.things)
  keeps_of image (inl reads) = reads-Keeps id job image r reads
  keeps_of image (inr reads) = subst (Keeps id job image) (records-mark r.things mark_text) (reads-Keeps id job image (more job r (Turn mark_text)) reads)

  adds_on : (v image : List ℕ) → Adds id job r (Turn mark_text) v image → Reads id job v r ⊎ Reads id job v (more job r (Turn mark_text)) → Reads id job image r ⊎ Reads id job image (more job r (Turn mark_text))
  adds_on v image adds (inl reads) = adds.0 reads
  adds_on v image adds (inr reads) = inr (adds.1 reads)

  adds_keep : (u v image : List ℕ) → Reads id job u r → Adds id job r (Turn mark_text) u v → Adds id job r (Turn mark_text) v image → KeepsEpochs id job v image
  adds_keep u v image reads first second =
      let there = adds_on u v first (inl reads) in
      both_keep id job v image (records r.things) named is (keeps_of v there) (keeps_of image (adds_on v image second there))

  -- while the mark is written, each image keeps the same epochs
  module _ {D : Type 0} (seen : D → Option (List ℕ)) (moment : D → ℕ) (may_leave : D → ℕ → List ℕ → Type 0) (law : (d : D) → WhereTold (seen d) (may_leave d (moment d))) where
    part_mark : (gate : ℕ) (old new : D) → IsDurable (seen old) (may_leave old (moment old)) → WhereTold (seen old) (IsDue id job r (Turn mark_text) gate mark_text) → is_some (seen new) ≡ is_some (seen old)
        → Changes seen moment may_leave (Adds id job r (Turn mark_text)) old new → Changes seen moment may_leave (KeepsEpochs id job) old new
    part_mark gate old new durable due tells changes =
        changes_of seen moment may_leave (Adds id job r (Turn mark_text)) (KeepsEpochs id job) (adds_stay (Turn mark_text)) old new durable (law new) tells changes.runs (λ u v image there first second.
        let begun = told_value (seen old) (IsDue id job r (Turn mark_text) gate mark_text) u there due in
        adds_keep u v image begun.reads first second)

-- so they do where the mark behind a last gate is due
pub mark_keeps : {D : Type 0} (seen : D → Option (List ℕ)) (moment : D → ℕ) (may_leave : D → ℕ → List ℕ → Type 0) (law : (d : D) → WhereTold (seen d) (may_leave d (moment d))) (id : List ℕ) (job : JobSizes) → IsIdentity id → IsJob job
    → (f : Found) → (f.ranged ≡ false) × (f.next ≢ None) → (old new : D) → WhereTold (seen old) (λ image. IsFound id job image f) → IsDurable (seen old) (may_leave old (moment old)) → is_some (seen new) ≡ is_some (seen old)
    → ((r : Reading) → WhereTold (seen old) (IsDue id job r (Turn mark_text) f.gate mark_text) → Changes seen moment may_leave (Adds id job r (Turn mark_text)) old new) → Changes seen moment may_leave (KeepsEpochs id job) old new
mark_keeps seen moment may_leave law id job named is f lacks old new found durable tells changes =
    let m = mark_due id job f (seen old) lacks.0 lacks.1 found in
    part_mark id job named is m.reading seen moment may_leave law f.gate old new durable m.due tells (changes m.reading m.due)
