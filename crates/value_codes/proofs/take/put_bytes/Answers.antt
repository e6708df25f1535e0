use Rattle.std.proofs.Common.{◌≡◌, ◌*◌, ◌/◌, ◌%◌, ◌^◌, ◌<◌, get_or, replicate, bit_and, ap, ◌∙◌, arith}
use Rattle.std.proofs.lemmas.Simd.{length-zip2}
use Rattle.value_codes.proofs.CodeLemmas.{last-step}
use Rattle.value_codes.proofs.FieldLemmas.{field-below}
use Rattle.value_codes.proofs.VectorLemmas.{shifted, shifted-long, four-at}
use Rattle.value_codes.proofs.take.put_bytes.Goals as goal

pub put_one-requires-clause-long : goal.put_one-requires-clause-long
put_one-requires-clause-long c =
    let a = c.args in
    length-zip2 bit_and (shifted a.bytes a.low) (replicate 16 15) (shifted-long a.bytes a.low c.requires.long) ∙ shifted-long a.bytes a.low c.requires.long

pub put_one-requires-clause-below : goal.put_one-requires-clause-below
put_one-requires-clause-below c i h = field-below 4 _ _ (omega arith) (four-at c.args.bytes c.args.low i c.requires.long h)

pub put_eight-requires-clause-alike : goal.put_eight-requires-clause-alike
put_eight-requires-clause-alike c x h =
    let one : c.args.step ≡ 1 = last-step c.args.step c.requires.step (omega arith) (omega arith) (omega arith) in
    c.requires.alike x h ∙ ap (λ s. get_or c.args.table (x % 2 ^ s) 0) one

pub returns-in-8-clause-one : goal.returns-in-8-clause-one
returns-in-8-clause-one c e i h =
    let a = c.args in
    let lane : i < 16 = omega (arith, h, c.requires.codes, ap (λ s. 16 * (8 / s)) e) in
    c.put_one.ensures i h ∙ ap (λ x. get_or a.table x 0) (four-at a.bytes a.low i c.requires.long lane)
