use Rattle.std.proofs.Common.{◌≡◌, ℕ, ◌*◌, List, length, map, refl}
use Rattle.corr_model.specs.declared.cell.Cell.{Cell}
use Rattle.corr_model.specs.Records.{Head, baseline_places}
use Rattle.vis_records.specs.declared.head.VisScan.{VisScan}
use Rattle.vis_records.specs.declared.head.VisBaseline.{VisBaseline}
use Rattle.vis_records.specs.declared.head.VisProduct.{VisProduct}
use Rattle.vis_records.specs.Heads.{product_of, scan_of}
use Rattle.vis_writer.proofs.Rows.{rows-none, IsCounted, products-next, products-exit, products-all}
use Rattle.vis_writer.proofs.records.write_products.Goals as goal

counted : (head : Head) (number m : ℕ) (scan : VisScan) (cells : List Cell) (baselines : List VisBaseline) (lags : ℕ) (products : List VisProduct)
    → baselines ≡ scan.baselines → lags ≡ head.lags → map product_of products ≡ head.products
    → length cells ≡ length head.products * length (scan_of scan).baselines * head.lags → IsCounted head number m scan cells baselines lags products
counted head number m scan cells baselines lags products a b c d = record { baselines = a; lags_are = b; products = c; room = d }

pub loop-product-init : goal.loop-product-init
loop-product-init g c = record {
  told = rows-none c.args.head.now.lags (baseline_places c.args.number (scan_of c.args.scan.now) c.args.m) _ c.args.cells.now _;
  kept = refl;
}

pub returns-in_err-write_baselines : goal.returns-in_err-write_baselines
returns-in_err-write_baselines g c =
    let is = counted c.args.head.now c.args.number c.args.m c.args.scan.now c.args.cells.now _ _ _ c.items.ensures c.lags-lags.ensures c.products-product-end.ensures.products c.requires.room in
    products-exit c.args.head.now c.args.number c.args.m c.args.scan.now c.args.cells.now c.items.result.now c.lags-lags.result c.products-product-end.result.now
    c.loop-product.product is c.loop-product-test.true c.from_residual.ensures.0
    (products-next c.args.head.now c.args.number c.args.m c.args.scan.now c.args.cells.now c.items.result.now c.lags-lags.result c.products-product-end.result.now
    c.loop-product.product is c.loop-product-test.true c.loop-product.invariant.told c.loop-product.invariant.kept c.in_err-write_baselines.ensures)

pub loop-product-preserved : goal.loop-product-preserved
loop-product-preserved g c =
    let is = counted c.args.head.now c.args.number c.args.m c.args.scan.now c.args.cells.now _ _ _ c.items.ensures c.lags-lags.ensures c.products-product-end.ensures.products c.requires.room in
    let all =
    products-next c.args.head.now c.args.number c.args.m c.args.scan.now c.args.cells.now c.items.result.now c.lags-lags.result c.products-product-end.result.now
    c.loop-product.product is c.loop-product-test.true c.loop-product.invariant.told c.loop-product.invariant.kept c.in_ok-write_baselines.ensures in
    record { told = all.ok; kept = all.counts.kept }

pub returns : goal.returns
returns g c =
    let is = counted c.args.head.now c.args.number c.args.m c.args.scan.now c.args.cells.now _ _ _ c.items.ensures c.lags-lags.ensures c.products-product-end.ensures.products c.requires.room in
    products-all c.args.head.now c.args.number c.args.m c.args.scan.now c.args.cells.now c.items.result.now c.lags-lags.result c.products-product-end.result.now
    tt c.loop-product.product is c.loop-product.auto.product-end c.loop-product-test.false
    c.loop-product.invariant.told c.loop-product.invariant.kept
