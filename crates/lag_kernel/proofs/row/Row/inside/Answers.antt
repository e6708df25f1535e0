use Rattle.std.proofs.Common.{pos, ◌-ℤ◌, refl, arith}
use Rattle.packed_values.specs.Packed.{values_of}
use Rattle.lag_kernel.proofs.RowLemmas.{inside-value}
use Rattle.lag_kernel.proofs.row.Row.inside.Goals as goal

pub returns-clause-values : goal.returns-clause-values
returns-clause-values c = λ n.
    inside-value c.args.self.now c.args.samples c.min.result (values_of c.first.result) n (n -ℤ pos c.args.self.now.from) refl
    (omega (arith, c.min.ensures, c.saturating_sub-before_end.ensures)) c.first.ensures
