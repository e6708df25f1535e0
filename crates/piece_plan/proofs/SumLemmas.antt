-- The cell of a range is the sum over ranges that go through it.
use Rattle.std.proofs.Common.{◌≡◌, ◌∙◌, sym, ap, ℕ, ◌≤◌, ℤ, List, [], ◌∷◌, arith}
use Rattle.corr_model.specs.declared.cell.Pair.{Pair}
use Rattle.corr_model.specs.Cell.{Samples, cell_plus, cell_in}
use Rattle.corr_model.proofs.CellLemmas.{cell_in-none, cell_in-split}
use Rattle.piece_plan.specs.Parts.{Range, GoThrough}
use Rattle.piece_plan.specs.Sums.{cell_over}

pub GoThrough-order : (from to : ℕ) (ranges : List Range) → GoThrough from to ranges → from ≤ to
GoThrough-order from to [] h = omega arith
GoThrough-order from to (r ∷ ranges) h =
    let rest = GoThrough-order r.to to ranges h.2 in
    omega (arith, rest, h.0, h.1)

pub cell_over-GoThrough : (z : Samples) (pair : Pair) (samples : ℕ) (lag : ℤ) (from to : ℕ) (ranges : List Range)
    → GoThrough from to ranges → cell_over z pair samples lag ranges ≡ cell_in z pair samples lag from to
cell_over-GoThrough z pair samples lag from to [] h =
    sym (cell_in-none z pair samples lag from) ∙ ap (cell_in z pair samples lag from) h
cell_over-GoThrough z pair samples lag from to (r ∷ ranges) h =
    let order : r.to ≤ to = GoThrough-order r.to to ranges h.2 in
    let begun : r.from ≤ r.to = omega (arith, h.1) in
    ap (cell_plus (cell_in z pair samples lag r.from r.to)) (cell_over-GoThrough z pair samples lag r.to to ranges h.2)
    ∙ sym (cell_in-split z pair samples lag r.from r.to to begun order)
    ∙ ap (λ n. cell_in z pair samples lag n to) h.0
