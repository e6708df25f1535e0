use Rattle.std.proofs.Common.{◌≡◌, ◌∙◌, ◌++◌, ap₂, sym}
use Rattle.std.specs.Fmt.{digits}
use Rattle.sample_gen.proofs.JobLemmas.{before_length, behind_length, job_of-parts}
use Rattle.sample_gen.proofs.job.job_text.Goals as goal

pub returns : goal.returns
unfolding digits
returns c =
    let before : c.in_ok-text.text.items ≡ before_length = c.in_ok-text.ensures.items ∙ c.as_bytes.ensures.value in
    let samples = c.as_bytes-2.ensures.value ∙ c.format.ensures.text in
    let behind : c.as_bytes-3.result.now ≡ behind_length = c.as_bytes-3.ensures.value in
    c.in_ok-extend_from_slice-2.ensures.items
    ∙ ap₂ (λ a b. a ++ b) (c.in_ok-extend_from_slice.ensures.items ∙ ap₂ (λ a b. a ++ b) before samples) behind
    ∙ sym (job_of-parts c.args.seconds)
