use Rattle.std.specs.Int.{div_ceil}
use Rattle.std.proofs.Common.{◌≡◌, ℕ, ◌+◌, ◌*◌, ◌/◌, ◌%◌, arith}
use Rattle.job_join.proofs.MeasuresLemmas.{epochs_in-le}
use Rattle.job_join.proofs.measures.epochs_in.Goals as goal

pub returns-clause-most : goal.returns-clause-most
returns-clause-most c =
    let samples : ℕ = c.args.samples in
    let integration : ℕ = c.from-integration.result in
    let epoch : ℕ = c.args.epoch in
    let same : samples / integration * c.div_ceil.result + c.div_ceil-2.result ≡ samples / integration * div_ceil integration epoch + div_ceil (samples % integration) epoch = cc in
    omega (arith, same, epochs_in-le samples integration epoch (omega arith))
