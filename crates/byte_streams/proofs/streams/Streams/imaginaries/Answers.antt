use Rattle.std.proofs.Common.{arith}
use Rattle.byte_streams.proofs.Bytes.{byte_im}
use Rattle.byte_streams.proofs.streams.Streams.imaginaries.Goals as goal

pub returns-clause-numbers : goal.returns-clause-numbers
returns-clause-numbers c = λ i lt.
    let s = c.args.self.now in
    byte_im s.bias s.re.now s.im.now s.there.now s.streams i (omega (arith, lt, s.streams.long_im))
