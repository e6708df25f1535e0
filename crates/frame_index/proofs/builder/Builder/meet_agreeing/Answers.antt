use Rattle.std.proofs.Common.{refl, ap}
use Rattle.vdif_frame.specs.Header.{HeaderFields}
use Rattle.frame_index.proofs.StepLemmas.{agreeing-step}
use Rattle.frame_index.proofs.builder.Builder.meet_agreeing.Goals as goal

pub returns-clause-extends : goal.returns-clause-extends
returns-clause-extends c = λ shape agrees bytes is done holds.
    agreeing-step shape done c.args.self.now _ c.args.place.file c.args.place.at bytes c.args.h.now c.of-frame.result c.h.inside.invalid c.meet-late.result
    holds agrees is (ap (λ (h : HeaderFields). h.invalid) c.h.view_is) c.of-frame.ensures
    c.in_ok-keep_valid.ensures c.meet-late.ensures.late c.meet-late.ensures.met c.with_agreeing-self.ensures.value refl
