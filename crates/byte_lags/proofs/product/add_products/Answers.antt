use Rattle.std.proofs.Common.{◌≡◌, ◌<◌, ◌+◌, ◌*◌, ◌^◌, ℕ, ℤ, ◌+ℤ◌, ◌*ℤ◌, w64, to_z, of_z, sym, subst, ap, ◌∙◌, arith, get_or-set_same, get_or-set_other, length-set, below_more, slice_index_or, slice_set, length, inl, inr}
use Rattle.std.proofs.lemmas.Bool.{cases_eq}
use Rattle.std.proofs.lemmas.Int.{to_z-of_z, fits_signed_from_abs}
use Rattle.byte_lags.specs.Streams.{IsAdded, IsBiased, IsWithin, product_sum}
use Rattle.corr_model.specs.Cell.{no_cell}
use Rattle.byte_lags.proofs.Biased.{value_is}
use Rattle.byte_lags.proofs.Windows.{window-small}
use Rattle.byte_lags.proofs.product.add_products.Goals as goal

pub scaled-requires-clause-sum : goal.scaled-requires-clause-sum
scaled-requires-clause-sum c =
    omega (
      arith,
      c.loop-i.invariant.window,
      c.requires.size,
      window-small c.args.greatest c.args.b.now.bytes.now c.loop-i.i (length c.args.a.now.bytes.now) c.requires.b c.requires.greatest,
    )

pub loop-i-preserved : goal.loop-i-preserved
loop-i-preserved c =
    let a = c.args.a.now in
    let b = c.args.b.now in
    let n = length a.bytes.now in
    let m = length b.bytes.now in
    let k = c.loop-i.i in
    let inv = c.loop-i.invariant in
    let cells = c.loop-i.cells in
    let new = c.next_cell.result in
    let old = slice_index_or cells k no_cell in
    let weights = c.args.weights in
    let within : k < length cells = omega (arith, inv.len) in
    let rest = inv.rest k (omega arith) in
    let passed : to_z w64 (of_z w64 c.difference.result) ≡ c.difference.result =
    to_z-of_z w64 c.difference.result (fits_signed_from_abs w64 c.difference.result (omega (arith, c.difference.ensures.small))) in
    let value : (x y : ℕ → ℤ) → IsBiased a.bias x n a.bytes.now → IsBiased b.bias y m b.bytes.now
    → to_z w64 (of_z w64 c.difference.result) ≡ product_sum x y k n =
    λ x y first second.
    passed
    ∙ value_is a.bias b.bias x y n m k a.bytes.now b.bytes.now first second (omega (arith, c.requires.room, inv.len)) _ _ _ _ _
    (c.from.ensures ∙ c.lag_sums.ensures.sums k (omega arith))
    c.bias_products-biases.ensures.value
    (c.scaled-first.ensures.value ∙ ap (λ (s : ℕ). b.bias * s) c.byte_sum.ensures.value)
    (c.scaled.ensures.value ∙ ap (λ (s : ℕ). a.bias * s) inv.window)
    c.difference.ensures.value in
    record {
      len = length-set cells k new ∙ inv.len;
      added = λ x y first second.
          below_more (λ i. IsAdded weights x y i n (slice_index_or c.args.cells.now i no_cell) (slice_index_or (slice_set cells k new) i no_cell)) k
          (λ i lt. rw (get_or-set_other cells k i new no_cell (omega arith)) (inv.added x y first second i lt))
          (rw (get_or-set_same cells k new no_cell within, sym rest) (record {
            re = c.next_cell.ensures.re ∙ ap (λ (v : ℤ). old.re +ℤ weights.re *ℤ v) (value x y first second);
            im = c.next_cell.ensures.im ∙ ap (λ (v : ℤ). old.im +ℤ weights.im *ℤ v) (value x y first second);
            count = c.next_cell.ensures.count;
          }));
      rest = λ i le. get_or-set_other cells k i new no_cell (omega arith) ∙ inv.rest i (omega arith);
      window = c.next_window-sliding.ensures.value;
      within = λ most h i. elim (cases_eq i k) [
        | inl e ↦
            subst (λ j. IsWithin (most + 2 ^ 34) (slice_index_or (slice_set cells k new) j no_cell)) (sym e)
            (rw (get_or-set_same cells k new no_cell within) (c.next_cell.ensures.within most (rw rest (h k))))
        | inr ne ↦ rw (get_or-set_other cells k i new no_cell ne) (inv.within most h i)
      ];
    }

pub returns-clause-added : goal.returns-clause-added
returns-clause-added c = λ x y first second i lt. c.loop-i.invariant.added x y first second i (omega arith)
