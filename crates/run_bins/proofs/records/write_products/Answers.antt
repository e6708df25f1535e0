use Rattle.std.proofs.Common.{◌≡◌, ◌+◌, ◌*◌, refl, arith}
use Rattle.std.proofs.lemmas.Nat.{mul-le}
use Rattle.run_bins.specs.Rows.{baselines_text}
use Rattle.run_bins.proofs.RowLemmas.{rows-none, rows-next, rows-exit, rows-all}
use Rattle.run_bins.proofs.records.write_products.Goals as goal

pub loop-product-init : goal.loop-product-init
loop-product-init g c = record {
  told = rows-none (baselines_text c.args.number c.args.m c.args.sizes.now.baselines c.args.sizes.now.bins c.args.sizes.now.lags) (c.args.sizes.now.baselines * (c.args.sizes.now.bins * c.args.sizes.now.lags)) c.args.sizes.now.products c.args.cells.now _;
  kept = refl;
}

pub slice_bounds-row-end : goal.slice_bounds-row-end
slice_bounds-row-end g c =
    let s = c.args.sizes.now in
    let width = s.baselines * (s.bins * s.lags) in
    let fits = mul-le (c.loop-product.product + 1) width s.products width (omega (arith, c.loop-product-test.true)) (omega arith) in
    let next : (c.loop-product.product + 1) * (s.baselines * (s.bins * s.lags)) ≡ c.loop-product.product * (s.baselines * (s.bins * s.lags)) + s.baselines * (s.bins * s.lags) = grind arith in
    omega (arith, fits, next, c.requires)

pub returns-in_err-write_baselines : goal.returns-in_err-write_baselines
returns-in_err-write_baselines g c =
    let s = c.args.sizes.now in
    rows-exit (baselines_text c.args.number c.args.m s.baselines s.bins s.lags) (s.baselines * (s.bins * s.lags)) s.products c.args.cells.now c.loop-product.product
    c.loop-product-test.true c.from_residual.ensures.0
    (rows-next (baselines_text c.args.number c.args.m s.baselines s.bins s.lags) (s.baselines * (s.bins * s.lags)) s.products c.args.cells.now c.loop-product.product
    c.loop-product.invariant.told c.loop-product.invariant.kept c.in_err-write_baselines.ensures)

pub loop-product-preserved : goal.loop-product-preserved
loop-product-preserved g c =
    let s = c.args.sizes.now in
    let all =
    rows-next (baselines_text c.args.number c.args.m s.baselines s.bins s.lags) (s.baselines * (s.bins * s.lags)) s.products c.args.cells.now c.loop-product.product
    c.loop-product.invariant.told c.loop-product.invariant.kept c.in_ok-write_baselines.ensures in
    record { told = all.ok; kept = all.counts.kept }

pub returns : goal.returns
returns g c =
    let s = c.args.sizes.now in
    rows-all (baselines_text c.args.number c.args.m s.baselines s.bins s.lags) (s.baselines * (s.bins * s.lags)) s.products c.args.cells.now tt c.loop-product.product
    c.loop-product.auto.product-end c.loop-product-test.false c.loop-product.invariant.told c.loop-product.invariant.kept
