use Rattle.std.proofs.Common.{◌+◌, arith, get_or, ap, ◌∙◌, add_assoc, w8}
use Rattle.std.proofs.lemmas.Simd.{length-chunk, get_or-chunk, chunk-fits, below_from_Fits}
use Rattle.byte_sums.proofs.fields.bytes_from.Goals as goal

pub returns-clause-len : goal.returns-clause-len
returns-clause-len c = length-chunk (c.args.lag + c.args.from) 32 c.args.bytes.now (omega (arith, c.requires.room))

pub returns-clause-lanes : goal.returns-clause-lanes
returns-clause-lanes c = λ k lt. get_or-chunk (c.args.lag + c.args.from) 32 c.args.bytes.now k 0 lt ∙ ap (λ p. get_or c.args.bytes.now p 0) (add_assoc c.args.lag c.args.from k)

pub returns-clause-bytes : goal.returns-clause-bytes
returns-clause-bytes c = below_from_Fits w8 _ (chunk-fits w8 (c.args.lag + c.args.from) 32 c.args.bytes.now c.type_inv.bytes)
