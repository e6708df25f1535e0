-- What a search for fringes in the record file under a name comes to, and what the check of a certificate of it comes to.
use Rattle.std.specs.Prelude.{◌≡◌, ⊤, ℕ, List, codes, Ok, Err}
use Rattle.corr_model.specs.Files.{Files}
use Rattle.vis_records.specs.Content.{Content}
use Rattle.fringe_search.specs.declared.grid.Grid.{Grid}
use Rattle.fringe_search.specs.Taken.{IsGridOf}
use Rattle.fringe_search.specs.Peaks.{AreSmall, IsFirstLarge}
use Rattle.fringe_search.specs.Certificates.{Line, IsRight}
use Rattle.fringe_search.specs.Fronts.{IsWrongAt}
use Rattle.fringe_search.specs.Written.{IsCertificate}
use Rattle.run_notes.specs.declared.measure.Measure.TheVariants.{Certificate, Amplitude}
use Rattle.run_notes.specs.declared.refusal.Refusal.{Refusal}
use Rattle.run_notes.specs.declared.refusal.Refusal.TheVariants.{Due}
use Rattle.run_notes.specs.Answers.{limit_answer, certificate_answer}
use Rattle.run_notes.specs.Refusals.{Outcomes}
use Rattle.run_ready.specs.Steps.{Is, Then}
use Rattle.run_ready.specs.Outcome.{text_under}
use Rattle.run_dump.specs.Shown.{RecordsOf}

-- the content, where each lag's amplitude is below 2^49, or the answer of the first one that is not
abbrev pub SmallOf : Content → Outcomes Content
SmallOf content (Ok c) = (c ≡ content) × AreSmall content
SmallOf content (Err answer) = (amplitude : ℕ) × IsFirstLarge content amplitude × (answer ≡ limit_answer Amplitude amplitude)

-- the certificate of a grid's peaks
abbrev pub CertificateOf : Content → ℕ → ℕ → Outcomes (List Line)
CertificateOf content rates divide (Ok lines) = (g : Grid) × IsGridOf rates divide g × IsCertificate content g lines
CertificateOf content rates divide (Err answer) = ⊥

-- The file under a name is a record file, its amplitudes are within what is searched, and these are the lines of its peaks.
abbrev pub FringeOf : Files → List ℕ → ℕ → ℕ → Outcomes (List Line)
FringeOf files name rates divide = Then (RecordsOf files name) (λ content. Then (SmallOf content) (λ c. CertificateOf c rates divide))

-- the content of which a text is a right certificate, or the answer of the text's first wrong line
abbrev pub VerdictOf : Content → List ℕ → Outcomes Content
VerdictOf content text (Ok c) = (c ≡ content) × IsRight content text
VerdictOf content text (Err answer) = (at : ℕ) × IsWrongAt content text at × (answer ≡ certificate_answer at)

-- the same behind the limit on amplitudes
abbrev pub CheckOf : Content → List ℕ → Outcomes Content
CheckOf content text = Then (SmallOf content) (λ c. VerdictOf c text)

-- Behind the record file under a name the certificate under another is read: it is there, it has at most 2^30 bytes, and it is a
-- right one of that file.
abbrev pub VerifyOf : Files → List ℕ → List ℕ → Outcomes Content
VerifyOf files name certificate =
    Then (RecordsOf files name) (λ content. Then (Is (text_under files certificate Certificate 1073741824)) (CheckOf content))

-- what a right certificate is told by
abbrev pub right_text : Content → List ℕ
right_text content = codes "right\n"

-- a verdict on files, and neither want of memory nor the fault of a device
abbrev pub IsVerdict : Refusal → Type 0
IsVerdict (Due due) = ⊤
IsVerdict _ = ⊥
