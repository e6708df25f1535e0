use Rattle.std.proofs.Common.{List, ℕ, ap, sym}
use Rattle.vex_reader.specs.declared.file.Block.{Block}
use Rattle.vex_reader.specs.Reading.{State, InBlock, with_loose}
use Rattle.vex_reader.proofs.ReadingLemmas.{changed_put}
use Rattle.vex_reader.proofs.reading.block_next.Goals as goal

pub returns-in_ok-block-in-Entry : goal.returns-in_ok-block-in-Entry
returns-in_ok-block-in-Entry c =
    let held = c.args.held in
    rw (c.in-Entry.is, c.in_ok-block-in-Entry.ensures)
    (ap (λ (blocks : List (List ℕ × Block)). let state : State = record { blocks = blocks; place = InBlock held.name } in state)
    (sym (changed_put c.args.blocks held.name held.block (with_loose c.in-Entry.entry))))
