use Rattle.std.proofs.Common.{◌≡◌, ℕ, take, sym, subst}
use Rattle.dev_traits.specs.Told.{WhereTold}
use Rattle.piece_plan.specs.Epochs.{cell_count}
use Rattle.checkpoint_journal.specs.Cells.{cells_at}
use Rattle.checkpoint_journal.proofs.RunLemmas.{looks_both}
use Rattle.checkpoint_journal.proofs.ToldLemmas.{told_both, told_again}
use Rattle.checkpoint_journal.specs.Next.{TellsRecord, TellsRead}
use Rattle.checkpoint_journal.proofs.NextLemmas.{tells_read}
use Rattle.checkpoint_journal.proofs.cursor.read_record.Goals as goal

pub returns-in_err-read_front-clause-looks : goal.returns-in_err-read_front-clause-looks
returns-in_err-read_front-clause-looks g c = looks_both g.D.Disk.seen g.D.Disk.moment g.D.Disk.may_leave _ _ _ c.next_record.ensures.looks c.read_front.ensures.looks

pub returns-clause-told : goal.returns-clause-told
returns-clause-told g c =
    let job = c.args.plan.now in
    let here = c.args.here.now in
    let last = c.args.last in
    let seen = g.D.Disk.seen c.args.disk.now in
    let looked = g.D.Disk.seen c.next_record.new.disk in
    let e = c.in_ok-next.next.epoch in
    let gate = c.in_ok-next.next.gate in
    let at = c.body_place.result in
    let out = c.read_front.new.out in
    let many : c.cells-cells.result ≡ cell_count e = c.cells-cells.ensures in
    let read = subst (λ (n : ℕ). WhereTold looked (λ image. take n out ≡ cells_at image at n)) many c.in_ok-read_front.ensures.cells in
    told_both seen (λ image. TellsRecord job image here last gate e) (λ image. take (cell_count e) out ≡ cells_at image at (cell_count e)) (λ image. TellsRead job image here last e c.up_to.result out)
    (λ image tells cells. tells_read job image here gate c.past_record.result c.up_to.result last at e out tells c.in_ok-next.ensures.gate.kept c.body_place.ensures cells
    c.past_record.ensures.kept c.past_record.ensures.gate c.past_record.ensures.next c.past_record.ensures.same.0 c.past_record.ensures.same.1 c.up_to.ensures)
    c.in_ok-next.ensures.told
    (told_again seen looked (λ image. take (cell_count e) out ≡ cells_at image at (cell_count e)) (sym c.next_record.ensures.looks.same) read)

pub returns-clause-looks : goal.returns-clause-looks
returns-clause-looks g c = looks_both g.D.Disk.seen g.D.Disk.moment g.D.Disk.may_leave _ _ _ c.next_record.ensures.looks c.read_front.ensures.looks
