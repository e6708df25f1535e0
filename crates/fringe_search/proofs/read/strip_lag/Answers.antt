use Rattle.std.proofs.Common.{◌≡◌, ◌++◌, codes, w64, to_z, of_z, arith}
use Rattle.std.specs.Fmt.{signed_decimal}
use Rattle.std.proofs.lemmas.Int.{ints}
use Rattle.fringe_search.specs.Certificates.{mark_text}
use Rattle.fringe_search.proofs.Strips.{strips_more}
use Rattle.fringe_search.proofs.read.strip_lag.Goals as goal

pub returns : goal.returns
returns c =
    let same : to_z w64 (of_z w64 c.from.result) ≡ c.args.lag = omega (arith, ints, c.from.ensures, c.ranges.lag.sfits) in
    strips_more c.args.text.now (codes "lag ") c.in_ok-number.number.now (signed_decimal c.args.lag ++ mark_text c.args.mark) c.strip_signed.result
    c.in_ok-number.ensures
    (rw (same, c.word_of.ensures) at c.strip_signed.ensures)
