use Rattle.std.proofs.Common.{ℤ, ◌∙◌, ap, w32, to_z, of_z}
use Rattle.std.proofs.lemmas.Int.{to_z-of_z}
use Rattle.fringe_search.proofs.Spaced.{read_signed, read_no_signed}
use Rattle.fringe_search.proofs.number.signed.Goals as goal

pub returns-in-Ok : goal.returns-in-Ok
returns-in-Ok c = λ z fits is.
    let same = read_signed _ z c.in-Ok.z c.args.word.now c.parse.result fits is c.in-Ok.is c.parse.ensures.value.0 in
    ap (λ (x : ℤ). to_z w32 (of_z w32 x)) same ∙ to_z-of_z w32 z fits

pub returns-in-Err : goal.returns-in-Err
returns-in-Err c = λ z fits is. absurd (read_no_signed _ z c.args.word.now c.in-Err.field-0 c.parse.result fits is c.in-Err.is c.parse.ensures.value.0)
