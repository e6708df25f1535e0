use Rattle.std.proofs.Common.{false, ◌≢◌, ◌∙◌, inl, inr, ◌*◌, ◌<◌, ◌≤◌, length, take, sym, arith}
use Rattle.byteorder.specs.Endian.{little_from}
use Rattle.piece_plan.specs.Epochs.{cell_count}
use Rattle.plan_places.specs.Places.{place_at}
use Rattle.journal_image.specs.Image.{mark_count}
use Rattle.journal_image.proofs.RangeLemmas.{cut-begins}
use Rattle.journal_image.proofs.GateLemmas.{front_number, mark_stands, old_stands, old_short, fault_at}
use Rattle.journal_image.proofs.gate.behind_old.Goals as goal

pub returns-then-left-lt24-clause-is : goal.returns-then-left-lt24-clause-is
returns-then-left-lt24-clause-is c bytes long front =
    let job = c.args.plan.now in
    let p = place_at c.args.place.now in
    let fault = old_short job p bytes c.args.at c.cut_own-e.result c.requires.job c.cut_own-e.ensures.cut (inl (omega (arith, c.if-left-lt24.true))) in
    fault_at job false p bytes c.args.at c.args.left c.cut_short.result long c.cut_short.ensures fault

pub returns-then-count-clause-is : goal.returns-then-count-clause-is
returns-then-count-clause-is c bytes long front =
    let count = front_number 16 c.args.head.now bytes c.read_u64-count.result (omega arith) front c.read_u64-count.ensures in
    (take 24 bytes, mark_stands c.args.plan.now (place_at c.args.place.now) bytes (omega (arith, c.if-left-lt24.false)) (sym count ∙ c.if-count.true))

pub returns-then-left-record_len-clause-is : goal.returns-then-left-record_len-clause-is
returns-then-left-record_len-clause-is c bytes long front =
    let job = c.args.plan.now in
    let p = place_at c.args.place.now in
    let count = front_number 16 c.args.head.now bytes c.read_u64-count.result (omega arith) front c.read_u64-count.ensures in
    let record_there : little_from 16 8 bytes ≢ mark_count = λ max. c.if-count.false (count ∙ max) in
    let few : length bytes < 24 * cell_count c.cut_own-e.result = omega (arith, c.cells.ensures, c.record_len.ensures.is) in
    let fault = old_short job p bytes c.args.at c.cut_own-e.result c.requires.job c.cut_own-e.ensures.cut (inr (record_there, few)) in
    fault_at job false p bytes c.args.at c.args.left c.cut_short-then-left-record_len.result long c.cut_short-then-left-record_len.ensures fault

pub returns-clause-is : goal.returns-clause-is
returns-clause-is c bytes long front =
    let job = c.args.plan.now in
    let p = place_at c.args.place.now in
    let e = c.cut_own-e.result in
    let count = front_number 16 c.args.head.now bytes c.read_u64-count.result (omega arith) front c.read_u64-count.ensures in
    let record_there : little_from 16 8 bytes ≢ mark_count = λ max. c.if-count.false (count ∙ max) in
    let enough : 24 * cell_count e ≤ length bytes = omega (arith, c.cells.ensures, c.record_len.ensures.is) in
    let begins = cut-begins job job.epoch p e c.requires.place c.cut_own-e.ensures.cut in
    (take (24 * cell_count e) bytes, old_stands job p bytes e c.cut_own-e.ensures.of_plan c.cut_own-e.ensures.cut begins c.cut_own-e.ensures.fits record_there enough)
