use Rattle.std.proofs.Common.{◌≡◌, ◌+◌, ℤ, pos, ◌+ℤ◌, sym, ap, ◌∙◌}
use Rattle.bit_planes.specs.Held.{values_in}
use Rattle.bit_planes.specs.Planes.{PlanesFields, plane_value}
use Rattle.bit_planes.specs.Shown.{plane_bit}
use Rattle.bit_planes.proofs.Values.{plane_value-held}
use Rattle.bit_planes.proofs.planes.Planes.word_at.Goals as goal

pub returns : goal.returns
returns c k h =
    let i = c.self.inside in
    let p : PlanesFields = record { from = i.from; to = i.to; values = values_in i.held } in
    let n : ℤ = c.args.self.now.from +ℤ pos (c.args.bit + k) in
    let place : p.from +ℤ pos (c.args.bit + k) ≡ n = ap (λ (q : PlanesFields). q.from +ℤ pos (c.args.bit + k)) c.self.view_is in
    let held = ap (λ (q : PlanesFields). plane_value q n) (sym c.self.view_is) ∙ plane_value-held p c.self.invariant.0 n (c.args.bit + k) place in
    c.word_at.ensures k h ∙ ap (plane_bit c.args.plane) (sym held)
