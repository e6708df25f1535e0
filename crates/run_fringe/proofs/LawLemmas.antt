-- A search and a check come to one outcome each.
use Rattle.std.proofs.Common.{◌≡◌, ◌∙◌, ℕ, List, Ok, Err, sym, ap, subst}
use Rattle.corr_model.specs.Files.{Files}
use Rattle.vis_records.specs.Content.{Content}
use Rattle.fringe_search.specs.declared.grid.Grid.{Grid}
use Rattle.fringe_search.specs.Written.{IsCertificate}
use Rattle.fringe_search.proofs.OneLemmas.{large-one, small-not_large, grid-same, certificate-one, wrong-one}
use Rattle.run_notes.specs.declared.measure.Measure.TheVariants.{Certificate, Amplitude}
use Rattle.run_notes.specs.Answers.{limit_answer, certificate_answer}
use Rattle.run_ready.specs.Steps.{Is, Then}
use Rattle.run_ready.specs.Outcome.{text_under}
use Rattle.run_ready.proofs.LawLemmas.{AreOne, Is-one, Then-one}
use Rattle.run_dump.specs.Shown.{RecordsOf}
use Rattle.run_dump.proofs.LawLemmas.{RecordsOf-one}
use Rattle.run_fringe.specs.Searched.{SmallOf, CertificateOf, FringeOf, VerdictOf, CheckOf, VerifyOf}

SmallOf-one : (content : Content) → AreOne (SmallOf content)
SmallOf-one content (Ok x) (Ok y) p q = ap Ok (p.0 ∙ sym q.0)
SmallOf-one content (Ok x) (Err e) p q = absurd (small-not_large content q.0 p.1 q.1)
SmallOf-one content (Err d) (Ok y) p q = absurd (small-not_large content p.0 q.1 p.1)
SmallOf-one content (Err d) (Err e) p q = ap Err (p.2 ∙ ap (limit_answer Amplitude) (large-one content p.0 q.0 p.1 q.1) ∙ sym q.2)

CertificateOf-one : (content : Content) (rates divide : ℕ) → AreOne (CertificateOf content rates divide)
CertificateOf-one content rates divide (Ok x) (Ok y) p q =
    let same : p.0 ≡ q.0 = grid-same p.0 q.0 (p.1.rates_is ∙ sym q.1.rates_is) (p.1.divide_is ∙ sym q.1.divide_is) in
    ap Ok (certificate-one content q.0 x y (subst (λ (g : Grid). IsCertificate content g x) same p.2) q.2)
CertificateOf-one content rates divide (Ok x) (Err e) p q = absurd q
CertificateOf-one content rates divide (Err d) (Ok y) p q = absurd p
CertificateOf-one content rates divide (Err d) (Err e) p q = absurd p

pub FringeOf-one : (files : Files) (name : List ℕ) (rates divide : ℕ) → AreOne (FringeOf files name rates divide)
FringeOf-one files name rates divide =
    Then-one (RecordsOf files name) (λ content. Then (SmallOf content) (λ c. CertificateOf c rates divide)) (RecordsOf-one files name)
    (λ content. Then-one (SmallOf content) (λ c. CertificateOf c rates divide) (SmallOf-one content) (λ c. CertificateOf-one c rates divide))

VerdictOf-one : (content : Content) (text : List ℕ) → AreOne (VerdictOf content text)
VerdictOf-one content text (Ok x) (Ok y) p q = ap Ok (p.0 ∙ sym q.0)
VerdictOf-one content text (Ok x) (Err e) p q = absurd (q.1.wrong p.1)
VerdictOf-one content text (Err d) (Ok y) p q = absurd (p.1.wrong q.1)
VerdictOf-one content text (Err d) (Err e) p q = ap Err (p.2 ∙ ap certificate_answer (wrong-one content text p.0 q.0 p.1 q.1) ∙ sym q.2)

CheckOf-one : (content : Content) (text : List ℕ) → AreOne (CheckOf content text)
CheckOf-one content text = Then-one (SmallOf content) (λ c. VerdictOf c text) (SmallOf-one content) (λ c. VerdictOf-one c text)

pub VerifyOf-one : (files : Files) (name certificate : List ℕ) → AreOne (VerifyOf files name certificate)
VerifyOf-one files name certificate =
    Then-one (RecordsOf files name) (λ content. Then (Is (text_under files certificate Certificate 1073741824)) (CheckOf content))
    (RecordsOf-one files name)
    (λ content. Then-one (Is (text_under files certificate Certificate 1073741824)) (CheckOf content)
    (Is-one (text_under files certificate Certificate 1073741824)) (CheckOf-one content))
