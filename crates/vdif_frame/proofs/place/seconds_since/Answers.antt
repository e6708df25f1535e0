use Rattle.std.proofs.Common.{rules, ◌∙◌, w64, pos, ◌+ℤ◌, ◌-ℤ◌, FitsSigned, ap}
use Rattle.std.proofs.lemmas.Int.{to_z-of_z}
use Rattle.vdif_frame.specs.Header.{HeaderFields}
use Rattle.num_time.specs.Numbers.{epoch_second_of}
use Rattle.vdif_frame.proofs.Places.{since_is}
use Rattle.vdif_frame.proofs.place.seconds_since.Goals as goal

pub returns-clause-value : goal.returns-clause-value
returns-clause-value c =
    let epoch : FitsSigned w64 c.epoch_second.result = search rules in
    let start : FitsSigned w64 c.args.scan_second = c.ranges.scan_second in
    let e = simp to_z-of_z at c.from.ensures in
    let s = simp to_z-of_z at c.from-3.ensures in
    since_is _ _ _ _ _ _ e c.from-2.ensures s epoch start c.h.invariant.seconds
    ∙ ap (λ z. (z +ℤ pos c.h.inside.seconds) -ℤ c.args.scan_second) c.epoch_second.ensures
    ∙ ap (λ (h : HeaderFields). (epoch_second_of h.epoch +ℤ pos h.seconds) -ℤ c.args.scan_second) c.h.view_is
