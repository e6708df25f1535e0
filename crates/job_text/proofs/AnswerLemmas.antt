-- The answer for a text by its lines.
use Rattle.std.proofs.Common.{◌≡◌, ◌⊎◌, inl, inr, ℕ, Bool, List, [], Option, Some, None, Err, ok_or, sym, ap, ◌∙◌, refl}
use Rattle.std.specs.Str.Lines.{lines}
use Rattle.job_text.specs.declared.fault.JobFault.{JobFault}
use Rattle.job_text.specs.declared.fault.JobKind.TheVariants.{Missing}
use Rattle.job_text.specs.Job.{JobFields}
use Rattle.job_text.specs.Said.{Said, said_by}
use Rattle.job_text.specs.Answer.{faults_behind, first_fault, rows_in, job_by, job_in, out_of_memory}

pub job_in-refused : (inline : Bool) (text : List ℕ) (fault : JobFault) → (fault ≡ out_of_memory) ⊎ (first_fault 1 (faults_behind inline [] (lines text)) ≡ Some fault) → (fault ≡ out_of_memory) ⊎ (job_in inline text ≡ Err fault)
unfolding job_in
job_in-refused inline text fault (inl memory) = inl memory
job_in-refused inline text fault (inr first) = inr (rw first refl)

-- a text whose lines were read
pub job_in-read : (inline : Bool) (text : List ℕ) (said : Said) (job : Option JobFields) → (first_fault 1 (faults_behind inline [] (lines text)) ≡ None) × (said ≡ said_by (rows_in (lines text)))
    → job ≡ job_by inline said → job_in inline text ≡ ok_or job (record { kind = Missing; line = 0 })
unfolding job_in
job_in-read inline text said job read is = rw read.0 (ap (λ (o : Option JobFields). ok_or {E = JobFault} o (record { kind = Missing; line = 0 })) (ap (job_by inline) (sym read.1) ∙ sym is))
