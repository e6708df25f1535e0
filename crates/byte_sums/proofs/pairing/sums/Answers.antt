use Rattle.std.proofs.Common.{ap, sym, subst, ◌∙◌, map}
use Rattle.std.specs.Simd.Lanes.{Each1}
use Rattle.byte_sums.proofs.Clamped.{clamped-is, casts-are, plain-small, plain-len, short, bare, IsShort, IsBare, short-fits, bare-fits}
use Rattle.byte_sums.proofs.pairing.sums.Goals as goal

pub overflow_cast-result : goal.overflow_cast-result
overflow_cast-result c =
    let r = c.requires in
    let a = c.args in
    subst (Each1 IsShort) (sym (clamped-is a.b a.a a.d a.c (plain-len a.b a.a a.d a.c r.lens.0 r.lens.1 r.lens.2 r.lens.3) r.bytes.0 r.weights.0 r.bytes.1 r.weights.1))
    (short-fits _ (plain-small a.b a.a a.d a.c r.bytes.0 r.weights.0 r.bytes.1 r.weights.1))

pub overflow_cast-result-2 : goal.overflow_cast-result-2
overflow_cast-result-2 c =
    let r = c.requires in
    let a = c.args in
    subst (λ l. Each1 IsBare (map short l)) (sym (clamped-is a.b a.a a.d a.c (plain-len a.b a.a a.d a.c r.lens.0 r.lens.1 r.lens.2 r.lens.3) r.bytes.0 r.weights.0 r.bytes.1 r.weights.1))
    (bare-fits _ (plain-small a.b a.a a.d a.c r.bytes.0 r.weights.0 r.bytes.1 r.weights.1))

pub returns : goal.returns
returns c =
    let r = c.requires in
    let a = c.args in
    ap (λ l. map bare (map short l)) (clamped-is a.b a.a a.d a.c (plain-len a.b a.a a.d a.c r.lens.0 r.lens.1 r.lens.2 r.lens.3) r.bytes.0 r.weights.0 r.bytes.1 r.weights.1)
    ∙ casts-are _ (plain-small a.b a.a a.d a.c r.bytes.0 r.weights.0 r.bytes.1 r.weights.1)
