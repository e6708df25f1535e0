use Rattle.std.proofs.Common.{◌≡◌, sym, refl, ◌∙◌, ap, arith}
use Rattle.std.proofs.lemmas.Int.{ints}
use Rattle.corr_model.specs.Cell.{cell_in, cell_plus}
use Rattle.corr_model.proofs.CellLemmas.{cell_in-split, same_cell}
use Rattle.corr_model.proofs.cell.Cell.plus.Goals as goal

pub returns-clause-joins : goal.returns-clause-joins
returns-clause-joins c z pair samples lag from middle to h k first second =
    let sum : cell_plus c.args.self c.args.other ≡ cell_in z pair samples lag from to =
    ap (λ d. cell_plus d c.args.other) first
    ∙ ap (cell_plus (cell_in z pair samples lag from middle)) second
    ∙ sym (cell_in-split z pair samples lag from middle to h k) in
    same_cell _ _ _ _ _ _ (omega (arith, ints)) (omega (arith, ints)) refl ∙ sum
