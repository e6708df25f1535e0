-- A file that is shown comes to one outcome.
use Rattle.std.proofs.Common.{◌≡◌, ◌∙◌, ◌≤◌, ◌<◌, ◌^◌, ℕ, Bool, true, false, List, length, Option, None, Some, Ok, Err, refl, sym, ap, arith}
use Rattle.std.specs.Prelude.{nat_lt, if◌then◌else◌}
use Rattle.std.proofs.lemmas.Bool.{ltb-false}
use Rattle.corr_model.specs.Files.{Files}
use Rattle.job_join.specs.declared.fault.Quantity.TheVariants.{Records}
use Rattle.vis_records.specs.declared.fault.VisFault.{VisFault}
use Rattle.vis_records.specs.Content.{Content, IsRecordFile}
use Rattle.vis_records.specs.Reading.{record_file, fault_of}
use Rattle.vis_records.proofs.FileForms.{reads_back, one_content}
use Rattle.run_notes.specs.declared.measure.Measure.TheVariants.{Job as OfJob}
use Rattle.run_notes.specs.Answers.{limit_answer, records_answer}
use Rattle.run_ready.specs.Steps.{Is}
use Rattle.run_ready.specs.Outcome.{text_under}
use Rattle.run_ready.proofs.LawLemmas.{AreOne, Is-one, Then-one-behind}
use Rattle.run_dump.specs.Shown.{ContentOf, RecordsOf}

-- a text is a record file, or breaks a first rule, and never both
ContentOf-one : (text : List ℕ) → length text < 2 ^ 64 → AreOne (ContentOf text)
ContentOf-one text short = by
  where
    not : (content : Content) (fault : VisFault) → IsRecordFile text content → fault_of (length text) (record_file text) ≡ Some fault → ⊥
    not content fault file is =
        let none : fault_of (length text) (record_file text) ≡ None = ap (fault_of (length text)) (reads_back text content short file) in
        let h : None ≡ Some fault = sym none ∙ is in
        cc

    same : (f g : VisFault) → fault_of (length text) (record_file text) ≡ Some f → fault_of (length text) (record_file text) ≡ Some g → f ≡ g
    same f g p q = let h : Some f ≡ Some g = sym p ∙ q in cc

    by : AreOne (ContentOf text)
    by (Ok x) (Ok y) p q = ap Ok (one_content text x y short p q)
    by (Ok x) (Err e) p q = absurd (not x q.0 p q.1)
    by (Err d) (Ok y) p q = absurd (not y p.0 q p.1)
    by (Err d) (Err e) p q = ap Err (p.2 ∙ ap records_answer (same p.0 q.0 p.1 q.1) ∙ sym q.2)

-- a text that is not too long
few-bytes : (files : Files) (name text : List ℕ) → text_under files name (OfJob Records) 1073741824 ≡ Ok text → length text ≤ 1073741824
few-bytes files name text = by (files name) refl
  where
    within : (t : List ℕ) (b : Bool) → nat_lt 1073741824 (length t) ≡ b
        → (if b then Err (limit_answer (OfJob Records) (length t)) else Ok t) ≡ Ok text
        → length text ≤ 1073741824
    within t true is h = cc
    within t false is h = let e : t ≡ text = cc in omega (arith, ap length e, ltb-false 1073741824 (length t) is)

    by : (file : Option (List ℕ)) → files name ≡ file → text_under files name (OfJob Records) 1073741824 ≡ Ok text → length text ≤ 1073741824
    by None is = rw is (λ h. cc)
    by (Some t) is = rw is (λ h. within t (nat_lt 1073741824 (length t)) refl h)

pub RecordsOf-one : (files : Files) (name : List ℕ) → AreOne (RecordsOf files name)
RecordsOf-one files name =
    Then-one-behind (Is (text_under files name (OfJob Records) 1073741824)) ContentOf (Is-one (text_under files name (OfJob Records) 1073741824))
    (λ text is. ContentOf-one text (omega (arith, few-bytes files name text (sym is))))
