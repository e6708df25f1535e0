use Rattle.std.proofs.Common.{◌≡◌, ◌∙◌, ap, ◌^◌, ◌*◌, ◌≤◌, ℤ, pos, ◌+ℤ◌, to_z, of_z, w64, unsigned_abs, arith}
use Rattle.std.proofs.lemmas.Int.{ints}
use Rattle.num_time.specs.Numbers.{epoch_second_of}
use Rattle.vdif_frame.specs.Header.{HeaderFields}
use Rattle.frame_index.specs.declared.frame.Frame.{Frame}
use Rattle.frame_index.proofs.SecondLemmas.{small_epoch}
use Rattle.frame_index.proofs.frame.Frame.of.Goals as goal

pub overflow_add-result : goal.overflow_add-result
overflow_add-result c =
    let epoch : unsigned_abs c.epoch_second.result ≤ 86400 * 2 ^ 23 = rw c.epoch_second.ensures (small_epoch c.h.inside.epoch c.h.invariant.epoch) in
    omega (arith, ints, epoch, c.from.ensures, c.h.invariant.seconds)

pub returns : goal.returns
returns c =
    let epoch : unsigned_abs c.epoch_second.result ≤ 86400 * 2 ^ 23 = rw c.epoch_second.ensures (small_epoch c.h.inside.epoch c.h.invariant.epoch) in
    let sum : to_z w64 (of_z w64 (to_z w64 (of_z w64 c.epoch_second.result) +ℤ to_z w64 (of_z w64 c.from.result))) ≡ epoch_second_of c.h.inside.epoch +ℤ pos c.h.inside.seconds =
    omega (arith, ints, epoch, c.from.ensures, c.h.invariant.seconds, c.epoch_second.ensures) in
    ap (λ (z : ℤ). let f : Frame = record { second = z; number = c.h.inside.frame; thread = c.h.inside.thread } in f) sum
    ∙ ap (λ (h : HeaderFields). let f : Frame = record { second = epoch_second_of h.epoch +ℤ pos h.seconds; number = h.frame; thread = h.thread } in f) c.h.view_is
