use Rattle.std.proofs.Common.{Err, arith}
use Rattle.std.proofs.lemmas.Fmt.{parse-decimal}
use Rattle.fringe_search.proofs.Spaced.{read_ok}
use Rattle.fringe_search.proofs.number.number.Goals as goal

pub returns-in-Ok : goal.returns-in-Ok
returns-in-Ok c = λ n small is. read_ok _ n c.in-Ok.n c.args.word.now c.parse.result small is c.in-Ok.is c.parse.ensures.value.0

pub returns-in-Err : goal.returns-in-Err
returns-in-Err c = λ n small is.
    let read = parse-decimal 32 n c.args.word.now (Err c.in-Err.field-0) small (omega arith) is c.in-Err.ensures.value.0 in
    cc
