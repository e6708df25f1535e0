use Rattle.std.proofs.Common.{length, drop}
use Rattle.std.proofs.lemmas.Bool.Decides.{Decides-eqb}
use Rattle.std.proofs.lemmas.List.{take_rest}
use Rattle.std.proofs.lemmas.Slice.Eq.{starts_is}
use Rattle.vex_lex.proofs.ends.has_bytes.Goals as goal

pub returns-clause-has : goal.returns-clause-has
returns-clause-has c =
    let begins = rw (take_rest c.args.text.now c.args.at) at c.starts_with.ensures.value in
    let starts = starts_is Decides-eqb (drop c.args.at c.args.text.now) c.args.bytes.now c.starts_with.result begins in
    (λ found. (drop (length c.args.bytes.now) (drop c.args.at c.args.text.now), starts.0 found), λ has. starts.1 has.0 has.1)
