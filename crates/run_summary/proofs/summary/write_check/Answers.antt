use Rattle.std.proofs.Common.{◌≡◌, ◌++◌, ◌∷◌, [], length, refl, ap, subst, sym, ◌∙◌}
use Rattle.std.specs.Prelude.{codes, decimal}
use Rattle.job_epochs.specs.Sizes.{sizes_of}
use Rattle.job_epochs.proofs.SizeLemmas.{sizes_of-IsJob}
use Rattle.job_plan.specs.declared.plan.Plan.{Plan}
use Rattle.piece_plan.specs.Epochs.{JobSizes, IsJob}
use Rattle.piece_plan.specs.Order.{job_start}
use Rattle.plan_places.specs.Walk.{epochs_by}
use Rattle.sink_text.proofs.WrittenText.{Puts-then, Appends-written}
use Rattle.run_summary.proofs.SummaryLemmas.{append-head, left-whole, check_text-lines}
use Rattle.run_summary.proofs.summary.write_check.Goals as goal

pub returns : goal.returns
returns g c =
    let ready = c.args.ready.now in
    let scans = length c.items.result.now in
    let stations : c.items-2.result.now ≡ ready.plan.stations = c.items-2.ensures ∙ ap (λ (p : Plan). p.stations) c.plan-plan.ensures.same in
    let lines = rw (stations, c.deref.ensures.value) at c.put_stations.ensures in
    let many : scans ≡ length ready.plan.scans = ap length (c.items.ensures ∙ ap (λ (p : Plan). p.scans) c.plan-plan.ensures.same) in
    let job : IsJob ready.epochs = subst IsJob (sym ready.cut) (sizes_of-IsJob ready.plan c.plan-plan.ensures.ranges ready.few) in
    let all : c.left-epochs.result ≡ length (epochs_by (sizes_of ready.plan) ready.epoch) =
    left-whole ready.epochs ready.epoch _ c.left-epochs.result
    (c.walks_are_alone.ensures ready.epochs ready.epoch (job_start ready.epochs))
    (c.epochs_by_length_are_walk.ensures ready.epochs ready.epoch job ready.some_epoch ready.short_epoch)
    c.start.ensures.first c.left-epochs.ensures
    ∙ ap (λ (e : JobSizes). length (epochs_by e ready.epoch)) ready.cut in (
      codes "scans " ++ decimal scans ++ 10 ∷ [] ++ codes "epochs " ++ decimal c.left-epochs.result ++ 10 ∷ [] ++ lines.text,
      Appends-written c.new-lines.ensures (Puts-then (append-head (codes "scans ") (decimal scans) (codes "epochs ") (decimal c.left-epochs.result) lines.text)
          (Puts-then refl c.put_number.ensures c.put_number-2.ensures) lines.puts) c.finish.ensures,
      λ files recorded. check_text-lines ready.plan ready.epoch files scans c.left-epochs.result lines.text many all (lines.same files recorded),
    )
