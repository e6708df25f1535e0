use Rattle.std.specs.Prelude.{slice_get}
use Rattle.std.proofs.Common.{◌≡◌, ◌∙◌, ℕ, ◌+◌, ◌*◌, min, List, length, Some, get_or, sym, ap, arith}
use Rattle.std.proofs.lemmas.Option.{slice_get-get_or}
use Rattle.piece_plan.specs.declared.job.ScanSize.{ScanSize}
use Rattle.checkpoint_journal.specs.declared.listed.KeptAt.{KeptAt}
use Rattle.shard_merge.specs.Covers.{follow}
use Rattle.shard_merge.specs.CoverageOrder.{epochs_of_listed}
use Rattle.shard_merge.proofs.CoverageReads.{covers-listed}
use Rattle.shard_merge.proofs.coverage.covers.Goals as goal

pub returns : goal.returns
returns c files id kept read =
    let job = c.args.plan.now in
    let none : ScanSize = record { first = 0; samples = 0; products = 0; baselines = 0 } in
    let size : ScanSize = get_or c.scans.result.now c.args.number none in
    let from = c.saturating_mul-from.result in
    let to = c.min-to.result in
    let many : length c.scans.result.now ≡ length job.scans = ap length c.scans.ensures.sizes in
    let there : slice_get job.scans c.args.number ≡ Some size =
    ap (λ (l : List ScanSize). slice_get l c.args.number) (sym c.scans.ensures.sizes)
    ∙ slice_get-get_or c.scans.result.now c.args.number none (omega (arith, many, c.requires.scan)) in
    let begins : from ≡ min (c.args.m * job.integration) 18446744073709551615 =
    c.saturating_mul-from.ensures ∙ ap (λ (i : ℕ). min (c.args.m * i) 18446744073709551615) c.integration.ensures.samples in
    let past : c.saturating_add.result ≡ min (from + job.integration) 18446744073709551615 =
    c.saturating_add.ensures ∙ ap (λ (i : ℕ). min (from + i) 18446744073709551615) c.integration-2.ensures.samples in
    let ends : to ≡ min size.samples (min (from + job.integration) 18446744073709551615) = c.min-to.ensures ∙ ap (min size.samples) past in
    c.follow.ensures
    ∙ ap (λ (l : List KeptAt). follow from to (epochs_of_listed l)) (c.stretch.ensures.all files id kept read)
    ∙ covers-listed files id job c.args.shard.now kept c.args.number c.args.m from to size c.scans.ensures.job there read begins ends
