use Rattle.std.proofs.Common.{ℕ, arith}
use Rattle.std.proofs.lemmas.List.{length-replicate}
use Rattle.sample_gen.proofs.WordLemmas.{bytes-are, words_from-bytes}
use Rattle.sample_gen.proofs.words.draw_array.Goals as goal

pub returns-clause-next : goal.returns-clause-next
returns-clause-next c = λ seed n here.
    let long = length-replicate {A = ℕ} 8000 0 in
    words_from-bytes 1000 _ _ seed n _ _ (omega (arith, long)) (omega (arith, long)) here c.fill_bytes.ensures

pub returns-clause-bytes : goal.returns-clause-bytes
returns-clause-bytes c = λ seed n here.
    let long = length-replicate {A = ℕ} 8000 0 in
    bytes-are 1000 _ _ seed n _ _ (omega (arith, long)) (omega (arith, long)) here c.fill_bytes.ensures
