use Rattle.std.proofs.Common.{rules, w64, FitsSigned, append-nil}
use Rattle.std.proofs.lemmas.Int.{to_z-of_z}
use Rattle.run_notes.proofs.notes.put_place.Goals as goal

pub returns : goal.returns
returns g c =
    let fits : FitsSigned w64 c.args.lag = search rules in
    simp (to_z-of_z, append-nil) at c.put_pieces.ensures
