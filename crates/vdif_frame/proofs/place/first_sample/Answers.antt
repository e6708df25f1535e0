use Rattle.std.proofs.Common.{rules, ◌∙◌, arith, ◌*◌, ◌^◌, ◌<◌, w64, pos, ◌+ℤ◌, ◌-ℤ◌, ◌*ℤ◌, FitsSigned, ap}
use Rattle.std.proofs.lemmas.Int.{to_z-of_z}
use Rattle.vdif_frame.specs.Header.{HeaderFields}
use Rattle.num_time.specs.Numbers.{epoch_second_of}
use Rattle.vdif_frame.specs.Shape.{samples_per_frame}
use Rattle.vdif_frame.proofs.Places.{samples_since_fits, place_is}
use Rattle.vdif_frame.proofs.place.first_sample.Goals as goal

pub overflow_mul-second : goal.overflow_mul-second
overflow_mul-second c =
    let rate : c.args.rate < 2 ^ 32 = search rules in
    samples_since_fits c.seconds_since.result _ _ c.from.ensures c.seconds_since.ensures.bound rate

pub overflow_add-result : goal.overflow_add-result
overflow_add-result c =
    let rate : c.args.rate < 2 ^ 32 = search rules in
    (place_is c.seconds_since.result _ _ _ _ _ _ c.from.ensures c.from-2.ensures c.from-3.ensures c.seconds_since.ensures.bound rate (omega (arith, c.h.invariant.frame)) c.samples_per_frame.ensures.most).0

pub returns : goal.returns
returns c =
    let rate : c.args.rate < 2 ^ 32 = search rules in
    let start : FitsSigned w64 c.args.scan_second = c.ranges.scan_second in
    let frame = ap (λ (h : HeaderFields). h.frame) c.h.view_is in
    let since = simp to_z-of_z at c.seconds_since.ensures.value in
    (place_is c.seconds_since.result _ _ _ _ _ _ c.from.ensures c.from-2.ensures c.from-3.ensures c.seconds_since.ensures.bound rate (omega (arith, c.h.invariant.frame)) c.samples_per_frame.ensures.most).1
    ∙ ap (λ z. z *ℤ pos c.args.rate +ℤ pos (c.h.inside.frame * c.samples_per_frame.result)) since
    ∙ ap (λ n. ((epoch_second_of c.args.h.now.epoch +ℤ pos c.args.h.now.seconds) -ℤ c.args.scan_second) *ℤ pos c.args.rate +ℤ pos (c.h.inside.frame * n)) c.samples_per_frame.ensures.value
    ∙ ap (λ n. ((epoch_second_of c.args.h.now.epoch +ℤ pos c.args.h.now.seconds) -ℤ c.args.scan_second) *ℤ pos c.args.rate +ℤ pos (n * samples_per_frame c.args.s.now)) frame
