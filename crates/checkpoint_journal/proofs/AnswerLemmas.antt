-- What an opening and a look answer for what they find.
use Rattle.std.specs.Prelude.{Result, Ok, Err, IfOk, IfErr, OnOk, IfSome}
use Rattle.std.proofs.Common.{◌≡◌, ◌≢◌, ◌∙◌, inl, inr, ℕ, ◌+◌, ◌^◌, ◌<◌, List, [], length, Option, None, true, false, refl, sym, ap, subst, arith}
use Rattle.dev_traits.specs.declared.Failed.{Failed}
use Rattle.dev_traits.specs.Fault.{Counts}
use Rattle.dev_traits.specs.Told.{WhereTold}
use Rattle.dev_traits.specs.Moments.{IsDurable}
use Rattle.dev_traits.proofs.ToldLemmas.{WhereTold-weaker}
use Rattle.piece_plan.specs.Epochs.{JobSizes, IsJob}
use Rattle.plan_places.specs.Places.{place_at, IsPlace}
use Rattle.journal_image.specs.Image.{is_blank, Due, records, IsIdentity, Reading, start}
use Rattle.journal_image.proofs.FrontLemmas.{reads_begun}
use Rattle.journal_image.proofs.ReadingLemmas.{reads_once}
use Rattle.checkpoint_journal.specs.declared.fault.OpenFault.{OpenFault}
use Rattle.checkpoint_journal.specs.declared.fault.OpenFault.TheVariants.{Disk, Other as OtherJob}
use Rattle.checkpoint_journal.specs.declared.finding.Found.{Found}
use Rattle.checkpoint_journal.specs.declared.finding.Finding.{Finding}
use Rattle.checkpoint_journal.specs.declared.finding.Finding.TheVariants.{Blank, Ours, Other as OtherFile}
use Rattle.checkpoint_journal.specs.declared.opening.Opening.{Opening}
use Rattle.checkpoint_journal.specs.declared.opening.Opening.TheVariants.{Ready, Other, Full}
use Rattle.checkpoint_journal.specs.declared.seen.Seen.{Seen}
use Rattle.checkpoint_journal.specs.Faults.{CountsFault, CountsLook, IsRefused, IsUnread}
use Rattle.checkpoint_journal.specs.Finding.{due_of, Finds, FindsPlace, HasPlace, IsFound, IsEnd}
use Rattle.checkpoint_journal.specs.Kept.{Sees}
use Rattle.checkpoint_journal.specs.Opening.{Opens, OpensReady, IsReady, IsOpened, AnswersOpening, SeesNothing, AnswersLook}
use Rattle.checkpoint_journal.specs.Standing.{JournalState, Knows, Stands}
use Rattle.checkpoint_journal.proofs.BeginLemmas.{reads-Keeps, blank-Keeps}

-- a refusal
refused_ok : {A : Type 0} (answer : Result A OpenFault) (fault : OpenFault) (P : A → Type 0) → answer ≡ Err fault → IfOk answer P
refused_ok {A = A} answer fault P is = subst (λ (a : Result A OpenFault). IfOk a P) (sym is) tt

refused_on : {A : Type 0} (answer : Result A OpenFault) (fault : OpenFault) (P : Type 0) → answer ≡ Err fault → OnOk answer P
refused_on {A = A} answer fault P is = subst (λ (a : Result A OpenFault). OnOk a P) (sym is) tt

refused_err : {A : Type 0} (answer : Result A OpenFault) (fault : OpenFault) (P : OpenFault → Type 0) → answer ≡ Err fault → P fault → IfErr answer P
refused_err {A = A} answer fault P is fact = subst (λ (a : Result A OpenFault). IfErr a P) (sym is) fact

-- The gate behind the identity is a gate of whatever an image says, and the last gate is that of what was found.
opened_knows : (id : List ℕ) (job : JobSizes) (image : List ℕ) (f : Found) (j : JournalState) → IsOpened id job f j → IsFound id job image f → Knows id job j image
opened_knows id job image f j opened found =
    let version : j.first.old ≡ found.reading.old = opened.version ∙ found.end.old in
    record {
      reading = found.reading;
      reads = found.reads;
      end = subst (IsEnd id job found.reading) (sym opened.last) found.end;
      here = record {
        before = [];
        after = found.reading.things;
        is = refl;
        goes = ap (start job) (sym version) ∙ sym opened.first.due ∙ ap due_of (sym opened.here);
        old = ap (λ (g : Found). g.old) opened.here ∙ version;
        kept = ap (λ (g : Found). g.kept) opened.here ∙ opened.first.kept;
        gate = let place : j.here.gate ≡ 1 + length id = ap (λ (g : Found). g.gate) opened.here ∙ opened.first.gate in omega (arith, place);
      };
    }

opened_stands : (id : List ℕ) (job : JobSizes) (new : Option (List ℕ)) (images : List ℕ → Type 0) (f : Found) (j : JournalState) → IsIdentity id → IsJob job → IsOpened id job f j → IsReady id job f
    → WhereTold new (λ image. IsFound id job image f) → IsDurable new images → Stands id job j new images
opened_stands id job new images f j named is opened ready told durable =
    let kept : j.here.kept ≡ 0 = ap (λ (g : Found). g.kept) opened.here ∙ opened.first.kept in
    let gate : j.here.gate ≡ 1 + length id = ap (λ (g : Found). g.gate) opened.here ∙ opened.first.gate in
    let end : j.end.gate ≡ f.gate = ap (λ (g : Found). g.gate) opened.last in
    record {
      sound = opened.sound;
      named = named;
      plan = is;
      first = opened.first;
      version = opened.version ∙ ap (λ (g : Found). g.old) (sym opened.last);
      places = (opened.place, (subst (HasPlace job) (sym opened.last) ready.place, subst (HasPlace job) (sym opened.here) opened.place));
      turned = subst (λ (g : Found). g.next ≢ None → g.ranged ≡ true) (sym opened.last) ready.turned;
      within = omega (arith, kept);
      before = omega (arith, gate, end, ready.behind);
      image = WhereTold-weaker new (λ image. IsFound id job image f) (Knows id job j) (λ image found. opened_knows id job image f j opened found) told;
      durable = durable;
    }

-- the journal stands on the disk
pub opening-stands : (id : List ℕ) (job : JobSizes) (old new : Option (List ℕ)) (images : List ℕ → Type 0) (opening : Result Opening Failed) (answer : Result JournalState OpenFault)
    → IsIdentity id → AnswersOpening id job opening answer → IfOk opening (Opens id job old new) → IfOk opening (OpensReady id job) → OnOk opening (IsJob job) → OnOk opening (IsDurable new images)
    → IfOk answer (λ j. Stands id job j new images)
opening-stands id job old new images (Ok (Ready f)) (Ok j) named answers opens ready is durable = opened_stands id job new images f j named is answers ready opens durable
opening-stands id job old new images (Ok (Ready f)) (Err fault) named answers opens ready is durable = tt
opening-stands id job old new images (Ok (Other d)) answer named answers opens ready is durable = refused_ok answer (OtherJob d) (λ j. Stands id job j new images) answers
opening-stands id job old new images (Ok Full) answer named answers opens ready is durable = refused_ok answer Disk (λ j. Stands id job j new images) answers
opening-stands id job old new images (Err failed) answer named answers opens ready is durable = refused_ok answer Disk (λ j. Stands id job j new images) answers

-- the first epoch is the next one that is read
pub opening-rewound : (id : List ℕ) (job : JobSizes) (opening : Result Opening Failed) (answer : Result JournalState OpenFault) → AnswersOpening id job opening answer → IfOk answer (λ j. j.here ≡ j.first)
opening-rewound id job (Ok (Ready f)) (Ok j) answers = answers.here
opening-rewound id job (Ok (Ready f)) (Err fault) answers = tt
opening-rewound id job (Ok (Other d)) answer answers = refused_ok answer (OtherJob d) (λ j. j.here ≡ j.first) answers
opening-rewound id job (Ok Full) answer answers = refused_ok answer Disk (λ j. j.here ≡ j.first) answers
opening-rewound id job (Err failed) answer answers = refused_ok answer Disk (λ j. j.here ≡ j.first) answers

pub opening-refused : (id : List ℕ) (job : JobSizes) (old new : Option (List ℕ)) (opening : Result Opening Failed) (answer : Result JournalState OpenFault) → AnswersOpening id job opening answer
    → IfOk opening (Opens id job old new) → IfErr answer (IsRefused id job old)
opening-refused id job old new (Ok (Ready f)) (Ok j) answers opens = tt
opening-refused id job old new (Ok (Ready f)) (Err fault) answers opens = absurd answers
opening-refused id job old new (Ok (Other d)) answer answers opens = refused_err answer (OtherJob d) (IsRefused id job old) answers opens.1
opening-refused id job old new (Ok Full) answer answers opens = refused_err answer Disk (IsRefused id job old) answers tt
opening-refused id job old new (Err failed) answer answers opens = refused_err answer Disk (IsRefused id job old) answers tt

pub opening-unread : (id : List ℕ) (job : JobSizes) (old new : Option (List ℕ)) (opening : Result Opening Failed) (answer : Result JournalState OpenFault) → AnswersOpening id job opening answer
    → IfOk opening (Opens id job old new) → IfErr answer (IsUnread old new)
opening-unread id job old new (Ok (Ready f)) (Ok j) answers opens = tt
opening-unread id job old new (Ok (Ready f)) (Err fault) answers opens = absurd answers
opening-unread id job old new (Ok (Other d)) answer answers opens = refused_err answer (OtherJob d) (IsUnread old new) answers opens.0
opening-unread id job old new (Ok Full) answer answers opens = refused_err answer Disk (IsUnread old new) answers tt
opening-unread id job old new (Err failed) answer answers opens = refused_err answer Disk (IsUnread old new) answers tt

pub opening-no_fault : (id : List ℕ) (job : JobSizes) (before now : ℕ) (opening : Result Opening Failed) (answer : Result JournalState OpenFault) → AnswersOpening id job opening answer
    → Counts before now opening → OnOk answer (now ≡ before)
opening-no_fault id job before now (Ok (Ready f)) (Ok j) answers counts = counts.kept
opening-no_fault id job before now (Ok (Ready f)) (Err fault) answers counts = tt
opening-no_fault id job before now (Ok (Other d)) answer answers counts = refused_on answer (OtherJob d) (now ≡ before) answers
opening-no_fault id job before now (Ok Full) answer answers counts = refused_on answer Disk (now ≡ before) answers
opening-no_fault id job before now (Err failed) answer answers counts = refused_on answer Disk (now ≡ before) answers

pub opening-fault : (id : List ℕ) (job : JobSizes) (old new : Option (List ℕ)) (before now : ℕ) (opening : Result Opening Failed) (answer : Result JournalState OpenFault) → AnswersOpening id job opening answer
    → IfOk opening (Opens id job old new) → Counts before now opening → IfErr answer (CountsFault id job old before now)
opening-fault id job old new before now (Ok (Ready f)) (Ok j) answers opens counts = tt
opening-fault id job old new before now (Ok (Ready f)) (Err fault) answers opens counts = absurd answers
opening-fault id job old new before now (Ok (Other d)) answer answers opens counts = refused_err answer (OtherJob d) (CountsFault id job old before now) answers counts.kept
opening-fault id job old new before now (Ok Full) answer answers opens counts = refused_err answer Disk (CountsFault id job old before now) answers (inr (counts.kept, opens))
opening-fault id job old new before now (Err failed) answer answers opens counts = refused_err answer Disk (CountsFault id job old before now) answers (inl counts.risen)

-- a look at a blank file, and at a journal
blank_sees : (id : List ℕ) (job : JobSizes) (image : List ℕ) (s : Seen) → IsIdentity id → is_blank image ≡ true → SeesNothing job s → Sees id job image s
blank_sees id job image s named blank nothing = record {
  many = record { kept = []; keeps = blank-Keeps id job image blank; many = sym nothing.kept };
  blank = λ again. nothing.next;
  next = λ r reads. let never : true ≡ false = sym blank ∙ reads_begun id job image r named reads in cc;
}

found_sees : (id : List ℕ) (job : JobSizes) (image : List ℕ) (f : Found) → IsIdentity id → IsJob job → IsFound id job image f → Sees id job image (record { kept = f.kept; next = f.next })
found_sees id job image f named is found = record {
  many = record { kept = records found.reading.things; keeps = reads-Keeps id job image found.reading found.reads; many = sym found.end.kept };
  blank = λ blank. let never : true ≡ false = sym blank ∙ reads_begun id job image found.reading named found.reads in cc;
  next = λ r reads. ap (λ (d : Due). d.place) found.end.due ∙ ap (λ (s : Reading). s.due.place) (reads_once id job image named is found.reading r found.reads reads);
}

pub look-sees : (id : List ℕ) (job : JobSizes) (seen : Option (List ℕ)) (found : Result Finding Failed) (answer : Result Seen OpenFault) → IsIdentity id → IsJob job → AnswersLook job found answer
    → IfOk found (λ f. WhereTold seen (λ image. Finds id job image f)) → IfOk answer (λ s. WhereTold seen (λ image. Sees id job image s))
look-sees id job seen (Ok Blank) (Ok s) named is answers finds = WhereTold-weaker seen (λ image. is_blank image ≡ true) (λ image. Sees id job image s) (λ image blank. blank_sees id job image s named blank answers) finds
look-sees id job seen (Ok Blank) (Err fault) named is answers finds = tt
look-sees id job seen (Ok (Ours f)) answer named is answers finds =
    subst (λ (a : Result Seen OpenFault). IfOk a (λ s. WhereTold seen (λ image. Sees id job image s))) (sym answers)
    (WhereTold-weaker seen (λ image. IsFound id job image f) (λ image. Sees id job image (record { kept = f.kept; next = f.next })) (λ image found. found_sees id job image f named is found) finds)
look-sees id job seen (Ok (OtherFile d)) answer named is answers finds = refused_ok answer (OtherJob d) (λ s. WhereTold seen (λ image. Sees id job image s)) answers
look-sees id job seen (Err failed) answer named is answers finds = refused_ok answer Disk (λ s. WhereTold seen (λ image. Sees id job image s)) answers

pub look-place : (job : JobSizes) (found : Result Finding Failed) (answer : Result Seen OpenFault) → AnswersLook job found answer → IfOk found (FindsPlace job)
    → IfOk answer (λ s. IfSome s.next (λ p. IsPlace job (place_at p)))
look-place job (Ok Blank) (Ok s) answers place = answers.place
look-place job (Ok Blank) (Err fault) answers place = tt
look-place job (Ok (Ours f)) answer answers place = subst (λ (a : Result Seen OpenFault). IfOk a (λ s. IfSome s.next (λ p. IsPlace job (place_at p)))) (sym answers) place.next
look-place job (Ok (OtherFile d)) answer answers place = refused_ok answer (OtherJob d) (λ s. IfSome s.next (λ p. IsPlace job (place_at p))) answers
look-place job (Err failed) answer answers place = refused_ok answer Disk (λ s. IfSome s.next (λ p. IsPlace job (place_at p))) answers

pub look-many : (job : JobSizes) (found : Result Finding Failed) (answer : Result Seen OpenFault) → AnswersLook job found answer → IfOk found (FindsPlace job)
    → IfOk answer (λ s. s.kept < 2 ^ 63)
look-many job (Ok Blank) (Ok s) answers place = omega (arith, answers.kept)
look-many job (Ok Blank) (Err fault) answers place = tt
look-many job (Ok (Ours f)) answer answers place =
    subst (λ (a : Result Seen OpenFault). IfOk a (λ s. s.kept < 2 ^ 63)) (sym answers) (omega (arith, place.many, place.short))
look-many job (Ok (OtherFile d)) answer answers place = refused_ok answer (OtherJob d) (λ s. s.kept < 2 ^ 63) answers
look-many job (Err failed) answer answers place = refused_ok answer Disk (λ s. s.kept < 2 ^ 63) answers

pub look-refused : (id : List ℕ) (job : JobSizes) (seen : Option (List ℕ)) (found : Result Finding Failed) (answer : Result Seen OpenFault) → AnswersLook job found answer
    → IfOk found (λ f. WhereTold seen (λ image. Finds id job image f)) → IfErr answer (IsRefused id job seen)
look-refused id job seen (Ok Blank) (Ok s) answers finds = tt
look-refused id job seen (Ok Blank) (Err fault) answers finds = absurd answers
look-refused id job seen (Ok (Ours f)) answer answers finds = subst (λ (a : Result Seen OpenFault). IfErr a (IsRefused id job seen)) (sym answers) tt
look-refused id job seen (Ok (OtherFile d)) answer answers finds = refused_err answer (OtherJob d) (IsRefused id job seen) answers finds
look-refused id job seen (Err failed) answer answers finds = refused_err answer Disk (IsRefused id job seen) answers tt

pub look-no_fault : (job : JobSizes) (before now : ℕ) (found : Result Finding Failed) (answer : Result Seen OpenFault) → AnswersLook job found answer → Counts before now found → OnOk answer (now ≡ before)
look-no_fault job before now (Ok Blank) (Ok s) answers counts = counts.kept
look-no_fault job before now (Ok Blank) (Err fault) answers counts = tt
look-no_fault job before now (Ok (Ours f)) answer answers counts = subst (λ (a : Result Seen OpenFault). OnOk a (now ≡ before)) (sym answers) counts.kept
look-no_fault job before now (Ok (OtherFile d)) answer answers counts = refused_on answer (OtherJob d) (now ≡ before) answers
look-no_fault job before now (Err failed) answer answers counts = refused_on answer Disk (now ≡ before) answers

pub look-fault : (job : JobSizes) (before now : ℕ) (found : Result Finding Failed) (answer : Result Seen OpenFault) → AnswersLook job found answer → Counts before now found → IfErr answer (CountsLook before now)
look-fault job before now (Ok Blank) (Ok s) answers counts = tt
look-fault job before now (Ok Blank) (Err fault) answers counts = absurd answers
look-fault job before now (Ok (Ours f)) answer answers counts = subst (λ (a : Result Seen OpenFault). IfErr a (CountsLook before now)) (sym answers) tt
look-fault job before now (Ok (OtherFile d)) answer answers counts = refused_err answer (OtherJob d) (CountsLook before now) answers counts.kept
look-fault job before now (Err failed) answer answers counts = refused_err answer Disk (CountsLook before now) answers counts.risen
