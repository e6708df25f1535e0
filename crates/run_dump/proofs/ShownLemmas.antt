-- What a call that reads files and appends a text does, by its steps.
use Rattle.std.proofs.Common.{◌≡◌, ℕ, List, length, Option, Some, None, Result, Ok, Err, refl, sym, subst}
use Rattle.std.specs.Prelude.{◌≢◌, ⊤, IfErr}
use Rattle.std.specs.Result.{is_err}
use Rattle.corr_model.specs.Files.{Files}
use Rattle.dev_traits.specs.Fault.{HasRisen, Counts}
use Rattle.dev_traits.specs.Told.{WhereTold}
use Rattle.sink_text.specs.Appends.{Appends}
use Rattle.vis_records.specs.declared.fault.VisFault.{VisFault}
use Rattle.vis_records.specs.declared.fault.VisKind.{VisKind}
use Rattle.vis_records.specs.declared.fault.VisKind.TheVariants.{Magic, Short, Order, AfterEnd, Head, Memory as MemoryKind}
use Rattle.vis_records.specs.Reading.{record_file, fault_of}
use Rattle.run_notes.specs.declared.refusal.Refusal.{Refusal}
use Rattle.run_notes.specs.declared.refusal.Refusal.TheVariants.{Memory, Words, Due as DueRefusal, Other, Read, Journal, Write}
use Rattle.run_notes.specs.Refusals.{Outcomes, IsCause, MatchRead, MatchWrite}
use Rattle.run_notes.specs.Counted.{CountsReads, CountsWrites}
use Rattle.run_notes.specs.Commands.{IsPartOf, Shows, IsOfFilesOrOutput}
use Rattle.run_ready.specs.Stage.{IsOfFiles, IsOfTexts}
use Rattle.run_dump.specs.Shown.{ContentOf, refusal_by, records_refusal}

-- what is refused for a file is no fault of the output
pub MatchWrite-files : (r : Refusal) (P Q : Type 0) → IsOfFiles r → Q → MatchWrite r P Q
MatchWrite-files Memory P Q stage q = q
MatchWrite-files (Words fault) P Q stage q = q
MatchWrite-files (DueRefusal due) P Q stage q = q
MatchWrite-files (Other d) P Q stage q = q
MatchWrite-files Read P Q stage q = q
MatchWrite-files (Journal kept) P Q stage q = absurd stage
MatchWrite-files Write P Q stage q = absurd stage

-- a call that was refused for its files
pub Shows-refused : {A : Type 0} (told : Option Files) (outcomes : Files → Outcomes A) (text : A → List ℕ) (old : Option (List ℕ)) (r : Refusal)
    → IsOfFiles r
    → WhereTold told (λ files. IsCause r (outcomes files))
    → WhereTold told (λ files. Shows (outcomes files) text old old (Err r))
Shows-refused None outcomes text old r stage cause = tt
Shows-refused (Some files) outcomes text old r stage cause = record {
  done = tt;
  cause = cause;
  part = MatchWrite-files r (IsPartOf (outcomes files) text old old) (old ≡ old) stage refl;
}

-- a call that came to its text
pub Shows-shown : {A : Type 0} (told : Option Files) (outcomes : Files → Outcomes A) (text : A → List ℕ) (x : A) (old new : Option (List ℕ))
    (before now : ℕ) (r : Result (Unit {0}) Refusal)
    → WhereTold told (λ files. outcomes files (Ok x))
    → Appends old new (text x) before now r
    → IfErr r (λ e. e ≡ Write)
    → WhereTold told (λ files. Shows (outcomes files) text old new r)
Shows-shown None outcomes text x old new before now r is appends write = tt
Shows-shown (Some files) outcomes text x old new before now (Ok done) is appends write = record {
  done = (x, is, appends.ok);
  cause = tt;
  part = tt;
}
Shows-shown (Some files) outcomes text x old new before now (Err e) is appends write = record {
  done = tt;
  cause = subst (λ (r : Refusal). IsCause r (outcomes files)) (sym write) (x, is);
  part =
      subst (λ (r : Refusal). MatchWrite r (IsPartOf (outcomes files) text old new) (new ≡ old)) (sym write)
      (x, is, appends.prefix);
}

pub nothing-shown : (r : Result (Unit {0}) Refusal) (P : Type 0) → IfErr r (λ e. e ≡ Write) → IfErr r (λ e. MatchWrite e ⊤ P)
nothing-shown (Ok x) P write = tt
nothing-shown (Err e) P write = subst (λ (r : Refusal). MatchWrite r ⊤ P) (sym write) tt

pub stage-shown : (r : Result (Unit {0}) Refusal) → IfErr r (λ e. e ≡ Write) → IfErr r IsOfFilesOrOutput
stage-shown (Ok x) write = tt
stage-shown (Err e) write = subst IsOfFilesOrOutput (sym write) tt

pub reads-shown : (before now : ℕ) (r : Result (Unit {0}) Refusal) → now ≡ before → IfErr r (λ e. e ≡ Write) → CountsReads before now r
reads-shown before now (Ok x) same write = same
reads-shown before now (Err e) same write = subst (λ (r : Refusal). MatchRead r (HasRisen before now) (now ≡ before)) (sym write) same

pub writes-shown : (before now : ℕ) (r : Result (Unit {0}) Refusal) → Counts before now r → IfErr r (λ e. e ≡ Write) → CountsWrites before now r
writes-shown before now (Ok x) counts write = counts.kept
writes-shown before now (Err e) counts write =
    subst (λ (r : Refusal). MatchWrite r (HasRisen before now) (now ≡ before)) (sym write) counts.risen

-- an answer of another kind that is a fault where the first is one
pub Appends-alike : {T E F : Type 0} {old new : Option (List ℕ)} {text : List ℕ} {before now : ℕ} (r : Result T E) (r' : Result T F)
    → is_err r' ≡ is_err r
    → Appends old new text before now r
    → Appends old new text before now r'
Appends-alike (Ok x) (Ok y) same a = record {
  ok = a.ok;
  prefix = tt;
  counts = record { kept = a.counts.kept; risen = tt; no_fall = a.counts.no_fall };
}
Appends-alike (Err e) (Err d) same a = record {
  ok = tt;
  prefix = a.prefix;
  counts = record { kept = tt; risen = a.counts.risen; no_fall = a.counts.no_fall };
}
Appends-alike (Ok x) (Err d) same a = cc
Appends-alike (Err e) (Ok y) same a = cc

-- the cause of a fault of the content
cause-by : (text : List ℕ) (fault : VisFault) (kind : VisKind)
    → (kind ≢ MemoryKind → fault_of (length text) (record_file text) ≡ Some fault)
    → IsCause (refusal_by kind fault) (ContentOf text)
cause-by text fault Magic is = (fault, is (λ e. cc), refl)
cause-by text fault Short is = (fault, is (λ e. cc), refl)
cause-by text fault Order is = (fault, is (λ e. cc), refl)
cause-by text fault AfterEnd is = (fault, is (λ e. cc), refl)
cause-by text fault Head is = (fault, is (λ e. cc), refl)
cause-by text fault MemoryKind is = tt

pub cause-content : (text : List ℕ) (fault : VisFault)
    → (fault.kind ≢ MemoryKind → fault_of (length text) (record_file text) ≡ Some fault)
    → IsCause (records_refusal fault) (ContentOf text)
cause-content text fault is = cause-by text fault fault.kind is

stage-by : (fault : VisFault) (kind : VisKind) → IsOfTexts (refusal_by kind fault)
stage-by fault Magic = tt
stage-by fault Short = tt
stage-by fault Order = tt
stage-by fault AfterEnd = tt
stage-by fault Head = tt
stage-by fault MemoryKind = tt

pub stage-content : (fault : VisFault) → IsOfTexts (records_refusal fault)
stage-content fault = stage-by fault fault.kind
