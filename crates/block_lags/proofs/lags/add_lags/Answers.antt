use Rattle.std.proofs.Common.{◌≡◌, ◌+◌, ◌*◌, ◌^◌, subst, sym, ◌∙◌, arith, slice_index_or}
use Rattle.corr_model.specs.declared.cell.Cell.{Cell}
use Rattle.corr_model.specs.Cell.{no_cell}
use Rattle.byte_streams.specs.Rows.{row_len, row_value}
use Rattle.block_lags.specs.Cells.{IsGrown}
use Rattle.block_lags.proofs.Bounds.{within-more}
use Rattle.block_lags.proofs.Blocks.{IsGrown-both, IsGrown-none}
use Rattle.block_lags.proofs.ScanCells.{lag_cell-scan, first-none, second-none}
use Rattle.block_lags.proofs.lags.add_lags.Goals as goal

-- nothing is added where there is no pair
unchanged : (more old : Cell) → more ≡ no_cell → IsGrown more old old
unchanged more old e = subst (λ (d : Cell). IsGrown d old old) (sym e) (IsGrown-none old)

pub returns-then-is_empty-clause-grown : goal.returns-then-is_empty-clause-grown
returns-then-is_empty-clause-grown c = λ i lt.
    unchanged _ _ (first-none (row_value c.args.first.now) (row_value c.args.second.now) i (row_len c.args.first.now) (c.is_empty.ensures c.if-is_empty.true))

pub returns-then-is_empty-clause-scan : goal.returns-then-is_empty-clause-scan
returns-then-is_empty-clause-scan c = λ z pair samples from least rows i lt.
    unchanged _ _ (sym (lag_cell-scan z pair samples from least c.args.first.now c.args.second.now i rows (omega (arith, lt, c.requires.room)))
    ∙ first-none (row_value c.args.first.now) (row_value c.args.second.now) i (row_len c.args.first.now) (c.is_empty.ensures c.if-is_empty.true))

pub returns-then-is_empty-2-clause-grown : goal.returns-then-is_empty-2-clause-grown
returns-then-is_empty-2-clause-grown c = λ i lt.
    unchanged _ _ (second-none (row_value c.args.first.now) (row_value c.args.second.now) i (row_len c.args.first.now)
    (λ k l. c.is_empty-2.ensures c.if-is_empty-2.true (i + k) (omega (arith, l, lt, c.requires.room))))

pub returns-then-is_empty-2-clause-scan : goal.returns-then-is_empty-2-clause-scan
returns-then-is_empty-2-clause-scan c = λ z pair samples from least rows i lt.
    unchanged _ _ (sym (lag_cell-scan z pair samples from least c.args.first.now c.args.second.now i rows (omega (arith, lt, c.requires.room)))
    ∙ second-none (row_value c.args.first.now) (row_value c.args.second.now) i (row_len c.args.first.now)
    (λ k l. c.is_empty-2.ensures c.if-is_empty-2.true (i + k) (omega (arith, l, lt, c.requires.room))))

pub add_pairs-requires-clause-within : goal.add_pairs-requires-clause-within
add_pairs-requires-clause-within c = within-more (2 ^ 62) (2 ^ 62 + 2 ^ 60) c.args.cells.now (omega arith) c.requires.within

pub add_counts-requires-clause-within : goal.add_counts-requires-clause-within
add_counts-requires-clause-within c =
    within-more (2 ^ 62 + 3 * 2 ^ 34) (2 ^ 62 + 2 ^ 61) c.add_pairs.new.cells (omega arith) (c.add_pairs.ensures.within (2 ^ 62) c.requires.within)

pub returns-clause-grown : goal.returns-clause-grown
returns-clause-grown c = λ i lt.
    IsGrown-both _ _ _ _ (c.add_pairs.ensures.products i lt) (c.add_counts.ensures.counted i (omega (arith, lt, c.add_pairs.ensures.len)))

pub returns-clause-scan : goal.returns-clause-scan
returns-clause-scan c = λ z pair samples from least rows i lt.
    subst (λ (d : Cell). IsGrown d (slice_index_or c.args.cells.now i no_cell) (slice_index_or c.add_counts.new.cells i no_cell))
    (lag_cell-scan z pair samples from least c.args.first.now c.args.second.now i rows (omega (arith, lt, c.requires.room)))
    (returns-clause-grown c i lt)
