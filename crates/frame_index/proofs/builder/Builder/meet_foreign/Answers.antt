use Rattle.std.proofs.Common.{◌∙◌, refl, ap}
use Rattle.vdif_frame.specs.Agreement.{first_field}
use Rattle.vdif_frame.specs.Header.{HeaderFields}
use Rattle.frame_index.proofs.StepLemmas.{Holds-foreign}
use Rattle.frame_index.proofs.builder.Builder.meet_foreign.Goals as goal

pub returns-clause-extends : goal.returns-clause-extends
returns-clause-extends c = λ shape h file at differs bytes is done holds.
    Holds-foreign shape done c.args.self.now _ (record { file = file; at = at; bytes = bytes }) c.args.field holds
    (ap (λ (f : HeaderFields). first_field f shape) is ∙ differs)
    refl refl c.with_foreign-self.ensures.value c.first_field-self.ensures
