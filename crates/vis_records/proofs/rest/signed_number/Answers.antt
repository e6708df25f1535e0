use Rattle.std.proofs.Common.{rules, ◌∙◌, w64, FitsSigned}
use Rattle.std.proofs.lemmas.Int.{to_z-of_z}
use Rattle.vis_records.specs.Parts.{number_of}
use Rattle.vis_records.proofs.rest.signed_number.Goals as goal

pub returns : goal.returns
unfolding number_of
returns c =
    let fits : FitsSigned w64 c.read_i64.result = search rules in
    to_z-of_z w64 c.read_i64.result fits ∙ c.read_i64.ensures
