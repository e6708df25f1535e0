-- What a search and a check of its certificate come to, by their steps.
use Rattle.std.proofs.Common.{◌≡◌, ℕ, List, Option, Some, None, Ok, refl, inl, inr}
use Rattle.corr_model.specs.Files.{Files}
use Rattle.dev_traits.specs.Told.{WhereTold}
use Rattle.vis_records.specs.Content.{Content}
use Rattle.fringe_search.specs.declared.grid.Grid.{Grid}
use Rattle.fringe_search.specs.Peaks.{AreSmall}
use Rattle.fringe_search.specs.Certificates.{Line}
use Rattle.fringe_search.specs.Written.{IsCertificate}
use Rattle.run_notes.specs.declared.measure.Measure.TheVariants.{Certificate}
use Rattle.run_notes.specs.declared.refusal.Refusal.{Refusal}
use Rattle.run_notes.specs.declared.refusal.Refusal.TheVariants.{Memory, Words, Due as DueRefusal, Other, Read, Journal, Write}
use Rattle.run_notes.specs.Refusals.{IsCause}
use Rattle.run_ready.specs.Steps.{Is, Then}
use Rattle.run_ready.specs.Stage.{IsOfFiles}
use Rattle.run_ready.specs.Outcome.{text_under}
use Rattle.run_ready.proofs.StepLemmas.{Told-next}
use Rattle.run_dump.specs.Shown.{RecordsOf}
use Rattle.run_fringe.specs.Searched.{SmallOf, FringeOf, CheckOf, VerifyOf, IsVerdict}

-- a verdict speaks of files
pub IsOfFiles-verdict : (r : Refusal) → IsVerdict r → IsOfFiles r
IsOfFiles-verdict (DueRefusal due) verdict = tt
IsOfFiles-verdict r verdict = absurd verdict

-- ---- a search

cause-fringe : (files : Files) (name : List ℕ) (rates divide : ℕ) (r : Refusal) → IsOfFiles r
    → IsCause r (Then (RecordsOf files name) SmallOf) → IsCause r (FringeOf files name rates divide)
cause-fringe files name rates divide Memory stage cause = tt
cause-fringe files name rates divide (Words fault) stage cause = absurd stage
cause-fringe files name rates divide (DueRefusal due) stage (inl cause) = inl cause
cause-fringe files name rates divide (DueRefusal due) stage (inr cause) = inr (cause.0, cause.1, inl cause.2)
cause-fringe files name rates divide (Other d) stage cause = absurd stage
cause-fringe files name rates divide Read stage cause = tt
cause-fringe files name rates divide (Journal kept) stage cause = absurd stage
cause-fringe files name rates divide Write stage cause = absurd stage

pub told-fringe : (told : Option Files) (name : List ℕ) (rates divide : ℕ) (r : Refusal) → IsOfFiles r
    → WhereTold told (λ files. IsCause r (Then (RecordsOf files name) SmallOf))
    → WhereTold told (λ files. IsCause r (FringeOf files name rates divide))
told-fringe None name rates divide r stage cause = tt
told-fringe (Some files) name rates divide r stage cause = cause-fringe files name rates divide r stage cause

pub done-fringe : (told : Option Files) (name : List ℕ) (g : Grid) (content : Content) (lines : List Line)
    → WhereTold told (λ files. RecordsOf files name (Ok content)) → AreSmall content → IsCertificate content g lines
    → WhereTold told (λ files. FringeOf files name g.rates g.divide (Ok lines))
done-fringe None name g content lines is small certificate = tt
done-fringe (Some files) name g content lines is small certificate =
    (content, is, (content, (refl, small), (g, record { rates_is = refl; divide_is = refl }, certificate)))

-- ---- a check

-- a fact that no content has to do with
always : (told : Option Files) (P : Type 0) → P → WhereTold told (λ files. P)
always None P holds = tt
always (Some files) P holds = holds

-- behind the record file and the certificate's text the check is refused
pub told-check : (told later : Option Files) (name certificate : List ℕ) (content : Content) (text : List ℕ) (r : Refusal) → later ≡ told
    → IsOfFiles r
    → WhereTold told (λ files. RecordsOf files name (Ok content))
    → WhereTold later (λ files. Is (text_under files certificate Certificate 1073741824) (Ok text))
    → IsCause r (CheckOf content text)
    → WhereTold told (λ files. IsCause r (VerifyOf files name certificate))
told-check told later name certificate content text r same stage is there cause =
    Told-next told later r (λ files. RecordsOf files name)
    (λ files c. Then (Is (text_under files certificate Certificate 1073741824)) (CheckOf c)) content same stage is
    (Told-next later later r (λ files. Is (text_under files certificate Certificate 1073741824)) (λ files. CheckOf content) text refl stage there
    (always later (IsCause r (CheckOf content text)) cause))
