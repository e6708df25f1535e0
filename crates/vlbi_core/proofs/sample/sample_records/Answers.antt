use Rattle.std.proofs.Common.{◌≡◌, ◌∙◌, rules, refl, ap, List, ℕ, None, Some}
use Rattle.mem_devices.specs.MemSinkState.{MemSinkState}
use Rattle.mem_devices.specs.MemDiskState.{State, start}
use Rattle.vlbi_core.proofs.SampleLemmas.{IsSampleJob, sampled-does, refused-memory}
use Rattle.vlbi_core.proofs.sample.sample_records.Goals as goal

pub returns-in-Ok : goal.returns-in-Ok
returns-in-Ok g c =
    let names : IsSampleJob c.in_ok-job.job None = record { job_is = c.in_ok-job.ensures.name; alone = refl } in
    let same_files = c.new-shelf.ensures ∙ c.in_ok-sample_files.ensures in
    let blank = ap (λ (s : State). Some s.seen) c.in_ok-journal.ensures.state ∙ ap (λ (b : List ℕ). Some (start b).seen) c.new.ensures.items in
    let none = ap (λ (s : MemSinkState). s.bytes) c.new-out.ensures in
    let copied : c.in_ok-to_vec-in-Ok.field-0.items ≡ c.bytes.result.now = search rules in
    sampled-does _ _ _ c.args.seed c.args.seconds c.args.workers c.args.piece c.in_ok-job.job None c.new-shelf.result.shelf.files c.in_ok-journal.journal c.correlate_job.new.journal
    names same_files blank c.one_outcome.ensures c.new-out.result.bytes c.correlate_job.new.out.bytes c.in_ok-to_vec-in-Ok.field-0.items tt none
    (copied ∙ c.bytes.ensures) c.in-Ok.ensures.does c.in-Ok.ensures.planned

pub in_memory-requires : goal.in_memory-requires
in_memory-requires g c =
    let names : IsSampleJob c.in_ok-job.job None = record { job_is = c.in_ok-job.ensures.name; alone = refl } in
    let same_files = c.new-shelf.ensures ∙ c.in_ok-sample_files.ensures in
    let blank = ap (λ (s : State). Some s.seen) c.in_ok-journal.ensures.state ∙ ap (λ (b : List ℕ). Some (start b).seen) c.new.ensures.items in
    let plan = c.comes_to_a_plan.ensures c.args.seed c.args.seconds c.requires.sample.some c.requires.sample.few in
    refused-memory _ _ _ c.args.seed c.args.seconds c.args.workers c.args.piece c.in_ok-job.job None c.new-shelf.result.shelf.files c.in_ok-journal.journal c.correlate_job.new.journal
    names same_files blank _ _ c.in-Err.refusal plan.no_answer c.in-Err.ensures.stage c.in-Err.ensures.reads c.in-Err.ensures.does
