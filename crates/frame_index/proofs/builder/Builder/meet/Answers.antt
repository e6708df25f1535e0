use Rattle.std.proofs.Common.{◌∙◌, sym, ap}
use Rattle.std.proofs.lemmas.Result.{on_ok_weaker}
use Rattle.vdif_frame.specs.Agreement.{first_field}
use Rattle.vdif_frame.specs.Header.{fields_of}
use Rattle.frame_index.proofs.HeadLemmas.{fields_of-take}
use Rattle.frame_index.proofs.builder.Builder.meet.Goals as goal

pub returns-in-Ok-clause-extends : goal.returns-in-Ok-clause-extends
returns-in-Ok-clause-extends c =
    on_ok_weaker c.meet_agreeing.result
    (λ extends bytes front long. extends c.args.shape.now (ap (λ h. first_field h c.args.shape.now) c.in-Ok.ensures.fields ∙ c.in-Ok.ensures.agrees) bytes
    (sym (fields_of-take bytes) ∙ ap fields_of front ∙ sym c.in-Ok.ensures.fields))
    c.meet_agreeing.ensures.extends

pub returns-in-Err-clause-extends : goal.returns-in-Err-clause-extends
returns-in-Err-clause-extends c = λ bytes front long.
    c.meet_foreign.ensures.extends c.args.shape.now (fields_of c.args.head.now) c.args.place.file c.args.place.at c.in-Err.ensures.differs bytes
    (sym (fields_of-take bytes) ∙ ap fields_of front)
