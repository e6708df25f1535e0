-- A journal that was read, on a disk that was only looked at.
use Rattle.std.specs.Prelude.{option_map}
use Rattle.std.proofs.Common.{◌≡◌, ◌∙◌, inr, ℕ, ◌<◌, List, [], ◌∷◌, ◌++◌, length, Option, None, refl, sym, ap, arith, append-nil}
use Rattle.dev_traits.specs.Told.{WhereTold}
use Rattle.corr_model.specs.declared.cell.Cell.{Cell}
use Rattle.piece_plan.specs.declared.epoch.EpochPlan.{EpochPlan}
use Rattle.piece_plan.specs.Epochs.{JobSizes, IsJob}
use Rattle.plan_places.specs.Places.{place_at}
use Rattle.checkpoint_journal.proofs.ToldLemmas.{told_both}
use Rattle.journal_image.specs.Image.{Thing, records, Reading, Reads}
use Rattle.journal_image.proofs.ThingLemmas.{more_due}
use Rattle.checkpoint_journal.specs.declared.finding.Found.{Found}
use Rattle.checkpoint_journal.specs.Finding.{due_of}
use Rattle.checkpoint_journal.specs.Kept.{KeepsMany, ReadsEpoch}
use Rattle.checkpoint_journal.specs.Next.{HasMore, IsReadBehind, TellsRead, IsPast}
use Rattle.checkpoint_journal.specs.Standing.{JournalState, journal_state, IsGate, Knows, Stands}
use Rattle.checkpoint_journal.proofs.GateLemmas.{stands_with}
use Rattle.checkpoint_journal.proofs.NextLemmas.{fits_next}

-- all records stand before a gate at which no place is due
pub covered_kept : (id : List ℕ) (job : JobSizes) (image : List ℕ) (r : Reading) → Reads id job image r → (f : Found) (g : IsGate id job r f) → IsJob job → f.next ≡ None → length (records r.things) ≡ f.kept
covered_kept id job image r reads f g is none = none_after g.after refl
  where
    none_after : (after : List Thing) → g.after ≡ after → length (records r.things) ≡ f.kept
    none_after [] e = ap (λ (l : List Thing). length (records l)) (g.is ∙ ap (λ (l : List Thing). g.before ++ l) e ∙ append-nil g.before) ∙ sym g.kept
    none_after (t ∷ more) e = absurd (more_due job is (due_of f) t (fits_next id job image r reads f g t more e) (ap (option_map place_at) none))

module _ (id : List ℕ) (job : JobSizes) (j : JournalState) where
  -- all records were read
  pub keeps_read : (image : List ℕ) → Knows id job j image → j.here.kept ≡ j.end.kept → KeepsMany id job image j.here.kept
  keeps_read image knows all = record {
    kept = records knows.reading.things;
    keeps = inr (knows.reading, knows.reads, refl);
    many = sym knows.end.kept ∙ sym all;
  }

  -- so they were where no place is due
  pub keeps_covered : (image : List ℕ) → IsJob job → Knows id job j image → j.here.next ≡ None → KeepsMany id job image j.here.kept
  keeps_covered image is knows none = record {
    kept = records knows.reading.things;
    keeps = inr (knows.reading, knows.reads, refl);
    many = covered_kept id job image knows.reading knows.reads j.here knows.here is none;
  }

  pub has_more : (image : List ℕ) (knows : Knows id job j image) → j.here.kept < j.end.kept → HasMore id job image knows.reading j.here
  has_more image knows more = record { reads = knows.reads; gate = knows.here; more = omega (arith, knows.end.kept, more) }

  read_behind : (image : List ℕ) (e : EpochPlan) (g : Found) (cells : List Cell) → j.here.kept < j.end.kept → (knows : Knows id job j image) → TellsRead job image j.here j.end.gate e g cells → IsReadBehind id job knows.reading j.here e g cells
  read_behind image e g cells more knows tells = tells id knows.reading (has_more image knows more) knows.end.gate

  -- the epoch that was read is the one that the image keeps there
  pub reads_epoch : (image : List ℕ) (e : EpochPlan) (g : Found) (cells : List Cell) → j.here.kept < j.end.kept → Knows id job j image → TellsRead job image j.here j.end.gate e g cells → ReadsEpoch id job image j.here.kept e cells
  reads_epoch image e g cells more knows tells =
      let read = read_behind image e g cells more knows tells in
      record {
        kept = records knows.reading.things;
        keeps = inr (knows.reading, knows.reads, refl);
        body = read.body;
        at = read.at;
        cells_are = read.cells_are;
      }

  knows_read : (image : List ℕ) (e : EpochPlan) (g : Found) (cells : List Cell) → j.here.kept < j.end.kept → Knows id job j image → TellsRead job image j.here j.end.gate e g cells → Knows id job (journal_state j.first j.end g j.failed) image
  knows_read image e g cells more knows tells = record {
    reading = knows.reading;
    reads = knows.reads;
    end = knows.end;
    here = (read_behind image e g cells more knows tells).gate;
  }

  -- with the cursor behind the epoch that was read
  pub stands_read : (seen : Option (List ℕ)) (images : List ℕ → Type 0) (e : EpochPlan) (g : Found) (cells : List Cell) → j.here.kept < j.end.kept → IsPast job j.end.gate j.here e g → WhereTold seen (λ image. TellsRead job image j.here j.end.gate e g cells)
      → Stands id job j seen images → Stands id job (journal_state j.first j.end g j.failed) seen images
  stands_read seen images e g cells more past tells stands =
      stands_with id job j seen seen images images g past.place (omega (arith, past.kept, more)) past.within
      (told_both seen (Knows id job j) (λ image. TellsRead job image j.here j.end.gate e g cells) (Knows id job (journal_state j.first j.end g j.failed))
      (λ image knows told. knows_read image e g cells more knows told) stands.image tells) stands.durable stands
