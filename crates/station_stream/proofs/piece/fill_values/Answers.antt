use Rattle.std.proofs.Common.{◌≡◌, ◌+◌, ◌-◌, ◌<◌, ◌≤◌, ◌∙◌, ℕ, ap, sym, ⊎_elim, length, take, drop, get_or, arith}
use Rattle.std.proofs.lemmas.Bool.{cases_lt}
use borrow.Rule.Slice.PartMut.{put_mid}
use Rattle.value_codes.specs.Codes.{value_of}
use Rattle.station_stream.specs.ThreadFrames.{value_in_frames}
use Rattle.station_stream.proofs.PartLemmas.{get_or-before, get_or-inside, length-written, length-part}
use Rattle.station_stream.proofs.piece.fill_values.Goals as goal

pub loop-done-preserved : goal.loop-done-preserved
loop-done-preserved c =
    let codes = c.loop-done.codes in
    let part = c.fill_piece.new.codes in
    let a : ℕ = c.loop-done.done in
    let n : ℕ = a + c.min-count.result - a in
    let room : a + n ≤ length codes = omega (arith, c.min-count.ensures, c.loop-done-test.true) in
    let size : length (take n (drop a codes)) ≡ n = length-part codes a n room in
    let long : length part ≡ n = c.fill_piece.auto.codes ∙ size in
    let value = value_in_frames c.args.part.now c.args.chan.now c.args.frames.now in record {
      within = omega (arith, length-written codes part a n long room, room);
      values = λ k h.
          ⊎_elim
          (λ (early : k < a). ap value_of (get_or-before codes part a n k 0 early (omega (arith, room))) ∙ c.loop-done.invariant.values k early)
          (λ (late : a ≤ k).
          let there : a + (k - a) ≡ k = omega (arith, late) in
          let below : k - a < n = omega (arith, late, h) in
          ap (λ (i : ℕ). value_of (get_or (put_mid a n codes part) i 0)) (sym there)
          ∙ ap value_of (get_or-inside codes part a n (k - a) 0 (omega (arith, long, below)) (omega (arith, room)))
          ∙ c.fill_piece.ensures (k - a) (omega (arith, size, below))
          ∙ ap value (omega (arith, there)))
          (cases_lt k a);
    }
