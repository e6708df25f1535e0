use Rattle.std.proofs.Common.{◌≡◌, ◌∙◌, ◌+◌, ◌*◌, ◌≤◌, length, refl, ap, arith}
use Rattle.job_epochs.specs.Sums.{baseline_cells}
use Rattle.plain_sums.proofs.AddLemmas.{none-added, row-inside, row-added, length-product}
use Rattle.plain_sums.proofs.records.add_range.Goals as goal

pub loop-i-init : goal.loop-i-init
loop-i-init g c = none-added c.args.cells.now

pub slice_bounds-part-end : goal.slice_bounds-part-end
slice_bounds-part-end g c =
    let w = length c.items.result.now * c.args.plan.now.lags in
    let b = ap length c.items.ensures in
    let p = ap length c.items-product-items.ensures in
    let size : length c.loop-i.cells ≡ length c.items-product-items.result.now * w = c.loop-i.auto.cells ∙ c.requires.room ∙ grind (arith, b, p) in
    let fits : c.loop-i.i * w + w ≤ length c.items-product-items.result.now * w = row-inside c.loop-i.i (length c.items-product-items.result.now) w c.loop-i-test.true in
    omega (arith, fits, size)

pub loop-i-preserved : goal.loop-i-preserved
loop-i-preserved g c =
    let w = length c.items.result.now * c.args.plan.now.lags in
    let b = ap length c.items.ensures in
    let room : length c.args.cells.now ≡ length c.args.plan.now.products * w = c.requires.room ∙ grind (arith, b) in
    row-added (baseline_cells c.args.plan.now (g.V.Values.samples c.args.v.now) c.args.scan.now c.args.from c.args.to)
    c.args.plan.now.products c.items-product-items.result.now w c.loop-i.i _ _ (record { x = 0; y = 0 })
    c.args.cells.now c.loop-i.cells c.add_product.new.cells
    c.items-product-items.ensures c.loop-i-test.true
    (length-product c.args.plan.now (g.V.Values.samples c.args.v.now) c.args.scan.now c.args.from c.args.to w (ap (λ n. n * c.args.plan.now.lags) b))
    room refl (omega arith) c.add_product.ensures c.loop-i.invariant
