use Rattle.std.proofs.Common.{◌≡◌, ◌+◌, ◌-◌, ◌%◌, ◌≤◌, ◌∙◌, refl, length, arith}
use Rattle.station_stream.proofs.PartLemmas.{length-part, length-written}
use Rattle.station_stream.proofs.TakenLemmas.{IsTaken-more}
use Rattle.station_stream.proofs.levels.fill_run.Goals as goal

pub loop-done-preserved : goal.loop-done-preserved
loop-done-preserved c =
    let size = c.samples_per_frame-size.result in
    let done = c.loop-done.done in
    let count = c.min-count.result in
    let n = done + count - done in
    let at = (c.args.past + done) % size in
    let codes = c.loop-done.codes in
    let part = c.fill_from_frame.new.codes in
    let within : done + count ≤ length codes = omega (arith, c.min-count.ensures, c.loop-done-test.true) in
    let same : n ≡ count = omega arith in
    let room : at + count ≤ size = omega (arith, c.min-count.ensures, c.samples_per_frame-size.ensures.some) in
    let fits : done + n ≤ length codes = omega (arith, within, same) in
    let taken = length-part codes done n fits in
    let long : length part ≡ n = c.fill_from_frame.auto.codes ∙ taken in record {
      within = omega (arith, within, length-written codes part done n long fits);
      taken = IsTaken-more c.args.shape.now c.args.frames.now c.args.index c.args.past done at count size n codes part
          c.samples_per_frame-size.ensures.value c.samples_per_frame-size.ensures.some refl room within (long ∙ same) c.loop-done.invariant.taken
          (λ k h. c.fill_from_frame.ensures k (omega (arith, h, taken, same)));
    }
