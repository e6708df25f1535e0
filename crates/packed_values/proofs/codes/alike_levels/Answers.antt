use Rattle.std.proofs.Common.{Some, get_or, refl}
use Rattle.packed_values.proofs.Bits.{bias-from_one, direction-from_one}
use Rattle.packed_values.proofs.codes.alike_levels.Goals as goal

pub returns-then-is_kind-clause-bias : goal.returns-then-is_kind-clause-bias
returns-then-is_kind-clause-bias c =
    bias-from_one c.args.codes.now (get_or c.args.codes.now 0 0) c.fill_levels-bits.result c.guess_of-bias.result.0 (λ k. (c.type_inv.codes k).fits)
    c.fill_levels-bits.ensures.bits (c.if-is_kind.ensures.bias refl)

pub returns-then-is_kind-clause-along : goal.returns-then-is_kind-clause-along
returns-then-is_kind-clause-along c =
    (direction-from_one c.args.codes.now (get_or c.args.codes.now 0 0) c.fill_levels-bits.result (Some c.in_ok-direction.direction)
    c.fill_levels-bits.ensures.bits (c.if-is_kind.ensures.direction refl)).1
