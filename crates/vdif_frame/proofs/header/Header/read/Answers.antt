use Rattle.vdif_frame.specs.Header.{fields_of}
use Rattle.vdif_frame.proofs.header.Header.read.Goals as goal

pub returns-clause-fields : goal.returns-clause-fields
unfolding fields_of
returns-clause-fields c = cc
