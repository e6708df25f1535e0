use Rattle.std.specs.Prelude.{pos, ◌≤ℤ◌, ◌<ℤ◌}
use Rattle.std.proofs.Common.{◌≡◌, ◌∙◌, ℕ, ℤ, ◌+◌, ◌-◌, ◌/◌, min, sym, ap, subst, arith}
use Rattle.frame_index.proofs.ToldLemmas.{WhereTold-weaker}
use Rattle.job_plan.specs.Values.{rotated}
use Rattle.job_epochs.specs.Sums.{range_cells}
use Rattle.job_epochs.specs.Added.{add_cells}
use Rattle.plain_sums.specs.Values.{values_of}
use Rattle.plain_sums.proofs.ReachLemmas.{range_cells-same}
use Rattle.plain_sums.proofs.sums.add_part.Goals as goal

pub returns-clause-added : goal.returns-clause-added
returns-clause-added g c =
    let plan = c.args.plan.now in
    let scan = c.args.scan.now in
    let z = values_of c.in_ok-values.values in
    let begin : c.saturating_sub-first.result ≡ c.args.from - plan.lags / 2 = omega (arith, c.saturating_sub-first.ensures, c.from-most.ensures) in
    let end : c.min-end.result ≡ min (c.args.to + plan.lags / 2 - 1) scan.samples = omega (arith, c.min-end.ensures, c.from-most.ensures) in
    WhereTold-weaker (g.F.Shelf.told c.args.shelf.now)
    (λ files. (station chan : ℕ) (n : ℤ) → pos c.saturating_sub-first.result ≤ℤ n → n <ℤ pos c.min-end.result
    → z station chan n ≡ rotated plan files scan station chan n)
    (λ files. c.add_range.new.cells ≡ add_cells c.args.cells.now (range_cells plan (rotated plan files scan) scan c.args.from c.args.to))
    (λ files values.
    c.add_range.ensures
    ∙ ap (add_cells c.args.cells.now)
    (range_cells-same plan scan z (rotated plan files scan) c.args.from c.args.to c.requires.plan c.requires.inside
    (λ station chan n begun under.
    values station chan n (subst (λ k. pos k ≤ℤ n) (sym begin) begun) (subst (λ k. n <ℤ pos k) (sym end) under))))
    c.in_ok-values.ensures.values
