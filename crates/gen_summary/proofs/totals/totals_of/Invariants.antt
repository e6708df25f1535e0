use Rattle.std.proofs.Common.{◌≡◌, ◌≤◌, ◌*◌, take, pos, ◌≤ℤ◌, ◌+ℤ◌}
use Rattle.std.specs.List.{sum_by}
use Rattle.gen_summary.specs.Totals.{total}
use Rattle.gen_summary.proofs.totals.totals_of.Given as goal

abbrev pub invariant-loop-cell : goal.invariant-loop-cell
invariant-loop-cell l = record {
  pairs : l.totals.pairs ≡ sum_by (λ c. c.count) (take l.cell-index l.cells);
  re : l.totals.re ≡ total (λ c. c.re) (take l.cell-index l.cells);
  im : l.totals.im ≡ total (λ c. c.im) (take l.cell-index l.cells);
  few_pairs : l.totals.pairs ≤ l.cell-index * 18446744073709551615;
  re_low : pos 0 ≤ℤ (l.totals.re +ℤ pos (l.cell-index * 9223372036854775808));
  re_high : l.totals.re ≤ℤ pos (l.cell-index * 9223372036854775808);
  im_low : pos 0 ≤ℤ (l.totals.im +ℤ pos (l.cell-index * 9223372036854775808));
  im_high : l.totals.im ≤ℤ pos (l.cell-index * 9223372036854775808);
}
