use Rattle.std.proofs.Common.{◌≡◌, w64, to_z, of_z, arith}
use Rattle.std.proofs.lemmas.Int.{ints}
use Rattle.fringe_search.proofs.Spaced.{ended_signed}
use Rattle.fringe_search.proofs.number.take_signed.Goals as goal

pub returns-in_default-clause-taken : goal.returns-in_default-clause-taken
returns-in_default-clause-taken c = λ z behind h.
    let read = c.signed_of-z.ensures z behind h in
    let same : to_z w64 (of_z w64 c.from.result) ≡ z = omega (arith, ints, read, c.from.ensures, h.within.sfits) in
    c.in_default.ensures behind
    (ended_signed c.args.text.now (to_z w64 (of_z w64 c.from.result)) z c.args.stop c.from_ref.result.now behind same c.from_ref.ensures.value h.is)
