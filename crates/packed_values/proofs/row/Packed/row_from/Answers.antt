use Rattle.std.proofs.Common.{◌≡◌, ℤ, pos, ◌+ℤ◌, w64, to_z, of_z, sym, subst}
use Rattle.std.proofs.lemmas.Int.{to_z-of_z}
use Rattle.packed_values.specs.Tables.{IsAlong}
use Rattle.packed_values.specs.Words.{word_at}
use Rattle.packed_values.proofs.row.Packed.row_from.Goals as goal

pub returns-in-Codes-clause-still : goal.returns-in-Codes-clause-still
returns-in-Codes-clause-still c =
    let passed : to_z w64 (of_z w64 c.args.start) ≡ c.args.start = to_z-of_z w64 c.args.start c.ranges.start in
    let codes = c.in-Codes.codes.now in
    rw c.in-Codes.is
    (λ d some along.
    c.row_of.ensures.still d some (λ k lt. subst (λ (z : ℤ). IsAlong d (word_at codes 0 (z +ℤ pos k))) (sym passed) (along k lt)))
