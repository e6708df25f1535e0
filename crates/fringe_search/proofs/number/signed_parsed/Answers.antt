use Rattle.std.proofs.Common.{List, ℕ, subst, sym, arith}
use Rattle.std.specs.Str.{IsUtf8}
use Rattle.std.proofs.lemmas.Str.{IsUtf8-from_ascii}
use Rattle.std.proofs.lemmas.Fmt.{IsAscii-signed}
use Rattle.fringe_search.proofs.number.signed_parsed.Goals as goal

pub returns-in-Err : goal.returns-in-Err
returns-in-Err c = λ z fits is.
    absurd (c.in-Err.ensures.cases.0 (subst (λ (t : List ℕ). IsUtf8 t) (sym is) (IsUtf8-from_ascii _ (IsAscii-signed z (omega (arith, fits.sfits))))))
