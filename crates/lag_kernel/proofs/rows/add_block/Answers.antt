use Rattle.std.proofs.Common.{◌≡◌, ℕ, ℤ, ◌+◌, ◌-◌, ◌/◌, ◌<◌, pos, ◌+ℤ◌, ◌-ℤ◌, length, refl, arith}
use Rattle.std.proofs.lemmas.Int.{ints}
use Rattle.byte_streams.specs.Rows.{row_len, row_value as block_value}
use Rattle.packed_values.specs.Packed.{values_of}
use Rattle.lag_kernel.specs.Planes.{plane_pair}
use Rattle.lag_kernel.specs.Rows.{row_inside, row_samples}
use Rattle.corr_model.specs.Cell.{cell_in}
use Rattle.corr_model.specs.Lags.{lag_of}
use Rattle.lag_kernel.proofs.RowLemmas.{adds-grown, cut-values, row_cell-grown, rows-are, rows-add}
use Rattle.lag_kernel.proofs.rows.add_block.Goals as goal

pub returns-clause-adds : goal.returns-clause-adds
returns-clause-adds c =
    let a = c.args.a.now in
    let b = c.args.b.now in
    let at = c.args.at in
    let n = c.args.stop - at in
    let lags = length c.args.out.now in
    let least : ℤ = pos 0 -ℤ pos (lags / 2) in
    let start : ℤ = pos at -ℤ pos (lags / 2) in
    let first = c.cut_out-first.result in
    let second = c.cut_out-second.result in
    let mine : (k : ℕ) → k < n → block_value first k ≡ row_inside a c.args.samples (pos at +ℤ pos k) =
    cut-values a c.args.samples n (values_of c.inside-mine.result) first _ (pos at) c.inside-mine.ensures.values c.cut_out-first.ensures.values (omega (arith, ints, c.places-place.ensures.first)) in
    let theirs : (k : ℕ) → k < n + lags → block_value second k ≡ row_inside b c.args.samples (start +ℤ pos k) =
    cut-values b c.args.samples (n + lags) (values_of c.inside-theirs.result) second _ start c.inside-theirs.ensures.values c.cut_out-second.ensures.values (omega (arith, ints, c.places-place.ensures.second)) in
    let whole : at + row_len first ≡ c.args.stop = omega (arith, c.cut_out-first.ensures.len, c.requires.block.order) in
    rows-add a b c.args.samples at c.args.stop (row_len first) least c.args.out.now c.add_lags.new.cells c.add_lags.ensures.len refl whole
    (c.add_lags.ensures.scan (row_samples a b) plane_pair c.args.samples at least
    (rows-are a b c.args.samples at least start first second (omega (arith, whole, c.requires.block.inside)) (omega (arith, ints))
    (λ k lt. mine k (omega (arith, lt, c.cut_out-first.ensures.len))) (λ k lt. theirs k (omega (arith, lt, c.cut_out-second.ensures.len)))))

pub returns-clause-grown : goal.returns-clause-grown
returns-clause-grown c =
    adds-grown
    (λ i. cell_in (row_samples c.args.a.now c.args.b.now) plane_pair c.args.samples (lag_of (length c.args.out.now) i) c.args.at c.args.stop)
    c.args.out.now c.add_lags.new.cells c.args.pairs (c.args.stop - c.args.at) (returns-clause-adds c) c.requires.grown
    (λ k. row_cell-grown c.args.a.now c.args.b.now c.args.samples (lag_of (length c.args.out.now) k) c.args.at c.args.stop)
