use Rattle.std.proofs.Common.{◌≡◌, ◌∙◌, ℕ, ◌+◌, ◌*◌, ◌/◌, length, get_or, take, refl, sym, ap, arith}
use Rattle.std.proofs.lemmas.List.{take_all}
use Rattle.checkpoint_journal.specs.Cells.{cells_at}
use Rattle.checkpoint_journal.proofs.body.body_cells.Goals as goal

pub returns : goal.returns
returns c =
    let bytes = c.args.bytes.now in
    let n = length c.args.out.now in
    let read : take (0 + n) c.decode.new.out ≡ cells_at bytes 0 (0 + n) =
    c.decode.ensures bytes 0 (λ k below. let flat : k ≡ 0 + 24 * 0 + k = omega arith in ap (λ (j : ℕ). get_or bytes j 0) flat) refl in
    let flat : 0 + n ≡ n = omega arith in
    let many : 0 + n ≡ length bytes / 24 = omega (arith, c.requires) in
    sym (take_all (0 + n) c.decode.new.out (omega arith)) ∙ read ∙ ap (cells_at bytes 0) many
