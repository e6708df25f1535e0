use Rattle.dev_traits.proofs.ToldLemmas.{WhereTold-weaker}
use Rattle.piece_plan.specs.Epochs.{cell_count}
use Rattle.checkpoint_journal.specs.Cells.{cells_at}
use Rattle.checkpoint_journal.specs.Next.{TellsRecord}
use Rattle.checkpoint_journal.specs.Listed.{TellsListed}
use Rattle.checkpoint_journal.proofs.NextLemmas.{tells_read, body_within}
use Rattle.checkpoint_journal.proofs.ListedLemmas.{take-cells_at}
use Rattle.checkpoint_journal.proofs.cursor.pass_record.Goals as goal

pub returns-clause-placed : goal.returns-clause-placed
returns-clause-placed g c = record {
  epoch = c.in_ok-next.ensures.epoch.epoch;
  of_plan = c.in_ok-next.ensures.epoch.of_plan;
  place = body_within c.in_ok-next.next.gate.gate c.args.last c.body_place.result c.in_ok-next.next.gate.ranged c.in_ok-next.ensures.gate.within c.requires.next.short c.body_place.ensures;
}

pub returns-clause-told : goal.returns-clause-told
returns-clause-told g c =
    let job = c.args.plan.now in
    let here = c.args.here.now in
    let last = c.args.last in
    let e = c.in_ok-next.next.epoch in
    let gate = c.in_ok-next.next.gate in
    let at = c.body_place.result in
    let past = c.past_record-past in
    WhereTold-weaker (g.D.Disk.seen c.args.disk.now) (λ image. TellsRecord job image here last gate e) (λ image. TellsListed job image here last (record { epoch = e; at = at }) c.up_to.result)
    (λ image tells. tells_read job image here gate past.result c.up_to.result last at e (cells_at image at (cell_count e)) tells c.in_ok-next.ensures.gate.kept c.body_place.ensures (take-cells_at image at (cell_count e))
    past.ensures.kept past.ensures.gate past.ensures.next past.ensures.same.0 past.ensures.same.1 c.up_to.ensures)
    c.in_ok-next.ensures.told
