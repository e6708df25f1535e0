use Rattle.std.proofs.Common.{◌^◌, ◌≤◌, ◌<◌, arith}
use Rattle.std.proofs.lemmas.Nat.{one_shl, pow_pos}
use Rattle.std.proofs.Math.Pow.{pow_mono}
use Rattle.vdif_frame.proofs.shape.Shape.chans.Goals as goal

pub returns-clause-some : goal.returns-clause-some
returns-clause-some c =
    let k = c.self.inside.chans_log2 in
    let below : k < 32 = omega (arith, c.self.invariant.chans) in
    omega (arith, one_shl k 32 below, pow_pos k)

pub returns-clause-most : goal.returns-clause-most
returns-clause-most c =
    let k = c.self.inside.chans_log2 in
    let below : k < 32 = omega (arith, c.self.invariant.chans) in
    let most : 2 ^ k ≤ 2 ^ 6 = pow_mono c.self.invariant.chans in
    omega (arith, one_shl k 32 below, most)
