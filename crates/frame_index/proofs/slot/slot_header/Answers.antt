use Rattle.std.proofs.Common.{◌≡◌, true, false}
use Rattle.frame_index.proofs.HeadLemmas.{first_field-no_header}
use Rattle.frame_index.proofs.slot.slot_header.Goals as goal

pub returns-in-None-clause-differs : goal.returns-in-None-clause-differs
returns-in-None-clause-differs c =
    first_field-no_header c.args.head.now c.args.shape.now c.head_bytes-bounds.ensures.invariant c.requires
    (λ h. let there : false ≡ true = c.in-None.ensures.there.1 h in cc)
